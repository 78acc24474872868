-- The tables of a manifest that shows a journal spell it.
use Rattle.std.proofs.Common.{◌≡◌, Bool, true, false, cond, List, [], ◌∷◌, find, map, Some, refl, ◌∙◌, ap}
use Rattle.std.specs.Option.{option_map}
use Rattle.std.specs.Ordering.{is_eq}
use Rattle.tf_sorted.specs.Rows.{AllAfter, IsRising, value_at}
use Rattle.tf_table.specs.declared.key.Key.{Key}
use Rattle.tf_table.specs.Content.{content_of}
use Rattle.tf_table.specs.Key.{key_cmp}
use Rattle.tf_table.proofs.Determined.{content_has, content_rises}
use Rattle.tf_table.proofs.Keys.{exact_keys, keys_total}
use Rattle.tf_manifest.specs.declared.row.Row.{Row}
use Rattle.tf_manifest.specs.declared.row.Row.TheVariants as row
use Rattle.tf_manifest.specs.Kinds.{kind_of}
use Rattle.tf_registry.specs.Row.{lists_of}
use Rattle.tf_manifest.specs.Shows.{Lists, ListsRow}
use Rattle.tf_manifest.specs.View.{View, content_in, tables_by, value_by}
use Rattle.tf_query.specs.Version.{pairs_shown}

module _ {V W : Type 0} (f : V → W) where
  -- pairs with other values at the same keys
  abbrev mapped : List (Key × V) → List (Key × W)
  mapped rows = map (λ (p : Key × V). (p.0, f p.1)) rows

  after_mapped : (key : Key) (rows : List (Key × V)) → AllAfter key_cmp key rows → AllAfter key_cmp key (mapped rows)
  after_mapped key [] after = tt
  after_mapped key (p ∷ rows) after = (after.0, after_mapped key rows after.1)

  pub rising_mapped : (rows : List (Key × V)) → IsRising key_cmp rows → IsRising key_cmp (mapped rows)
  rising_mapped [] rising = tt
  rising_mapped (p ∷ rows) rising = (after_mapped p.0 rows rising.0, rising_mapped rows rising.1)

  pub value_mapped : (key : Key) (rows : List (Key × V)) → value_at key_cmp key (mapped rows) ≡ option_map f (value_at key_cmp key rows)
  value_mapped key [] = refl
  value_mapped key (p ∷ rows) = step (is_eq (key_cmp p.0 key)) (value_mapped key rows)
    where
      step : (b : Bool) → value_at key_cmp key (mapped rows) ≡ option_map f (value_at key_cmp key rows)
          → option_map (λ (q : Key × W). q.1) (cond b (Some (p.0, f p.1)) (find (λ (q : Key × W). is_eq (key_cmp q.0 key)) (mapped rows)))
          ≡ option_map f (option_map (λ (q : Key × V). q.1) (cond b (Some p) (find (λ (q : Key × V). is_eq (key_cmp q.0 key)) rows)))
      step true again = refl
      step false again = again

module _ (view : View) where
  row_listed : (r : Row) → ListsRow (pairs_shown view) (content_in view) r
  row_listed r =
      let tables = lists_of (tables_by view (kind_of r)) in
      record {
        rising = rising_mapped (value_by (kind_of r)) (content_of tables) (content_rises key_cmp keys_total exact_keys tables);
        values = λ key.
            value_mapped (value_by (kind_of r)) key (content_of tables)
            ∙ ap (option_map (value_by (kind_of r))) (content_has key_cmp keys_total exact_keys tables key);
      }

  -- the pairs of the tables' content are those of the manifest's rows
  pub rows_listed : Lists (pairs_shown view) (content_in view)
  rows_listed = record {
    accounts = row_listed row.AccountObjects;
    transfers = row_listed row.TransferObjects;
    ids = row_listed row.TransferIds;
    expiries = row_listed row.ExpiryEntries;
  }
