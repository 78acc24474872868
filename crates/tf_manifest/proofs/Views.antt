-- What changes of a manifest where the rows of one kind change.
use Rattle.std.proofs.Common.{◌≡◌, ℕ, zero, suc, List, [], ◌∷◌, refl, ◌∙◌, ap, slice_set}
use Rattle.std.specs.Prelude.{slice_index_or}
use Rattle.std.specs.Option.{option_map}
use Rattle.tf_table.specs.declared.key.Key.{Key}
use Rattle.tf_manifest.specs.declared.jobs.Merged.{Merged}
use Rattle.tf_manifest.specs.declared.kind.Kind.{Kind}
use Rattle.tf_manifest.specs.declared.kind.Kind.TheVariants as kind
use Rattle.tf_manifest.specs.declared.row.Row.{Row}
use Rattle.tf_manifest.specs.Jobs.{kind_of_merged, InstallsIn}
use Rattle.tf_manifest.specs.Kinds.{kind_of}
use Rattle.tf_registry.specs.Limit.{Pushed, one_more}
use Rattle.tf_registry.specs.Row.{content_at}
use Rattle.tf_registry.specs.Table.{Shown}
use Rattle.tf_manifest.specs.View.{View, StoredBy, value_by, rows_by, with_rows, place_by, value_in_kind, content_in}

-- with the rows that it had it is as it was
pub with_same : (v : View) (k : Kind) → with_rows v k (rows_by v k) ≡ v
with_same v (kind.Stamp row) = refl
with_same v kind.Account = refl
with_same v kind.Transfer = refl
with_same v kind.Id = refl
with_same v (kind.Unit row) = refl
with_same v kind.State = refl
with_same v kind.Sums = refl
with_same v kind.Status = refl

module _ {V : Type 0} where
  content_set : (rows : List (List (Shown V))) (at other : ℕ) (row : List (Shown V)) (key : Key) → content_at key row ≡ content_at key (slice_index_or rows at [])
      → content_at key (slice_index_or (slice_set rows at row) other []) ≡ content_at key (slice_index_or rows other [])
  content_set [] at other row key h = refl
  content_set (first ∷ rows) zero zero row key h = h
  content_set (first ∷ rows) zero (suc other) row key h = refl
  content_set (first ∷ rows) (suc at) zero row key h = refl
  content_set (first ∷ rows) (suc at) (suc other) row key h = content_set rows at other row key h

  pub installs_content : (old : List (List (Shown V))) (at : ℕ) (row : List (Shown V)) (new : List (List (Shown V))) → new ≡ slice_set old at row
      → ((key : Key) → content_at key row ≡ content_at key (slice_index_or old at []))
      → (other : ℕ) (key : Key) → content_at key (slice_index_or new other []) ≡ content_at key (slice_index_or old other [])
  installs_content old at row new is same other key =
      ap (λ (rows : List (List (Shown V))). content_at key (slice_index_or rows other [])) is ∙ content_set old at other row key (same key)

-- rows of one kind with the content that they had leave all content as it was
value_with : (v : View) (p : Pushed) (k other : Kind) (rows : List (List (Shown (StoredBy k)))) (key : Key)
    → ((at : ℕ) → content_at key (slice_index_or rows at []) ≡ content_at key (slice_index_or (rows_by v k) at []))
    → value_in_kind (with_rows (record v { pushed = p }) k rows) key other ≡ value_in_kind v key other
value_with v p (kind.Stamp row) (kind.Stamp other) rows key h = ap (option_map (value_by (kind.Stamp other))) (h (place_by (kind.Stamp other)))
value_with v p (kind.Stamp row) _ rows key h = refl
value_with v p kind.Account kind.Account rows key h = ap (option_map (value_by kind.Account)) (h 0)
value_with v p kind.Account _ rows key h = refl
value_with v p kind.Transfer kind.Transfer rows key h = ap (option_map (value_by kind.Transfer)) (h 0)
value_with v p kind.Transfer _ rows key h = refl
value_with v p kind.Id kind.Id rows key h = ap (option_map (value_by kind.Id)) (h 0)
value_with v p kind.Id _ rows key h = refl
value_with v p (kind.Unit row) (kind.Unit other) rows key h = ap (option_map (value_by (kind.Unit other))) (h (place_by (kind.Unit other)))
value_with v p (kind.Unit row) _ rows key h = refl
value_with v p kind.State kind.State rows key h = ap (option_map (value_by kind.State)) (h 0)
value_with v p kind.State _ rows key h = refl
value_with v p kind.Sums kind.Sums rows key h = ap (option_map (value_by kind.Sums)) (h 0)
value_with v p kind.Sums _ rows key h = refl
value_with v p kind.Status kind.Status rows key h = ap (option_map (value_by kind.Status)) (h 0)
value_with v p kind.Status _ rows key h = refl

module _ {A N : Type 0} where
  -- an install keeps the content of each row
  pub content_installed : (old new : View) (m : Merged A N) → InstallsIn old m new → (row : Row) (key : Key) → content_in new row key ≡ content_in old row key
  content_installed old new m i row key =
      let k : Kind = kind_of_merged m in
      ap (λ (v : View). content_in v row key) i.is
      ∙ value_with old (one_more old.pushed) k (kind_of row) i.rows key
      (λ at. installs_content (rows_by old k) (place_by k) i.installs.tables i.rows i.installs.is i.installs.installs.content at key)
