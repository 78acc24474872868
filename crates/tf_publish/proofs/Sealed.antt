-- Mutable tables in front of the sealed ones of a manifest: what rows have at keys, and what changes of them are.
use Rattle.std.proofs.Common.{◌≡◌, ℕ, List, [], Option, Some, None, refl, sym, ◌∙◌, ap}
use Rattle.std.specs.Option.{option_flatten}
use Rattle.tf_table.specs.declared.key.Key.{Key}
use Rattle.tf_table.specs.Content.{entry_at, entry_of, first_some}
use Rattle.tf_manifest.specs.declared.row.Row.{Row}
use Rattle.tf_manifest.specs.declared.row.Row.TheVariants as row
use Rattle.tf_manifest.specs.declared.value.Value.{Value}
use Rattle.tf_manifest.specs.Kinds.{kind_of}
use Rattle.tf_registry.specs.Row.{lists_of}
use Rattle.tf_manifest.specs.View.{View, content_in, no_tables, tables_by, value_by}
use Rattle.tf_rows.specs.Nest.{AreEmpty}
use Rattle.tf_rows.specs.Parts.{Entries, GivesBack, IsPut, IsTakenBack, Part, PutsEntry, parts_of, sealed_in, value_of_part}
use Rattle.tf_registry.proofs.Rows.{under}
use Rattle.tf_rows.proofs.Parts.{value-seen}

-- an entry of the mutable table decides, and else the manifest does
pub found_fresh : (fresh : Entries) (view : View) (r : Row) (key : Key) (entry : Option Value) → Some entry ≡ entry_at key (fresh r) → entry ≡ value_of_part (parts_of fresh view r) key
found_fresh fresh view r key entry is = ap (λ (x : Option (Option Value)). option_flatten (first_some x (entry_of key (sealed_in view r)))) is

pub found_sealed : (fresh : Entries) (view : View) (r : Row) (key : Key) → None ≡ entry_at key (fresh r) → content_in view r key ≡ value_of_part (parts_of fresh view r) key
found_sealed fresh view r key none =
    sym (value-seen (value_by (kind_of r)) key (lists_of (tables_by view (kind_of r))))
    ∙ ap (λ (x : Option (Option Value)). option_flatten (first_some x (entry_of key (sealed_in view r)))) none

-- changes of mutable tables are changes of rows
abbrev pub with_fresh : View → Row → List (Key × Option Value) → Part
with_fresh view r rows = record { fresh = rows; below = sealed_in view r }

pub put_in_front : (view : View) (r : Row) (key : Key) (entry : Option Value) (before : Option (Option Value)) (old new : Entries) → PutsEntry r key entry before old new → IsPut r key entry before (parts_of old view) (parts_of new view)
put_in_front view r key entry before old new is = record {
  here = ap (with_fresh view r) is.here;
  there = is.there;
  restores = ap (with_fresh view r) is.restores;
  elsewhere = λ other apart. ap (with_fresh view other) (is.elsewhere other apart);
}

pub taken_in_front : (view : View) (r : Row) (key : Key) (before : Option (Option Value)) (old new : Entries) → GivesBack r key before old new → IsTakenBack r key before (parts_of old view) (parts_of new view)
taken_in_front view r key before old new is = record {
  here = ap (with_fresh view r) is.here;
  elsewhere = λ other apart. ap (with_fresh view other) (is.elsewhere other apart);
}

-- a manifest without tables has nothing for any row
none_sealed : (limit : ℕ) (r : Row) → sealed_in (no_tables limit) r ≡ []
none_sealed limit row.AccountObjects = refl
none_sealed limit row.AccountIds = refl
none_sealed limit row.AccountUserData128 = refl
none_sealed limit row.AccountUserData64 = refl
none_sealed limit row.AccountUserData32 = refl
none_sealed limit row.AccountLedger = refl
none_sealed limit row.AccountCode = refl
none_sealed limit row.AccountSums = refl
none_sealed limit row.TransferObjects = refl
none_sealed limit row.TransferIds = refl
none_sealed limit row.TransferDebit = refl
none_sealed limit row.TransferCredit = refl
none_sealed limit row.TransferUserData128 = refl
none_sealed limit row.TransferUserData64 = refl
none_sealed limit row.TransferUserData32 = refl
none_sealed limit row.TransferLedger = refl
none_sealed limit row.TransferCode = refl
none_sealed limit row.PendingStatus = refl
none_sealed limit row.Expiry = refl
none_sealed limit row.ExpiryEntries = refl
none_sealed limit row.History = refl

pub empty_rows : (fresh : Entries) (view : View) (limit : ℕ) → ((r : Row) → fresh r ≡ []) → view ≡ no_tables limit → AreEmpty (parts_of fresh view)
empty_rows fresh view limit empty is r =
    ap (λ (rows : List (Key × Option Value)). with_fresh view r rows) (empty r)
    ∙ ap (λ (lists : List (List (Key × Option Value))). record { fresh = []; below = lists }) (ap (λ (v : View). sealed_in v r) is ∙ none_sealed limit r)

-- where manifests have the same content, rows in front of them have the same values
pub same_in_front : (fresh : Entries) (old new : View) → ((r : Row) (key : Key) → content_in new r key ≡ content_in old r key) → (r : Row) (key : Key) → value_of_part (parts_of fresh new r) key ≡ value_of_part (parts_of fresh old r) key
same_in_front fresh old new same r key =
    let seen = value_by (kind_of r) in
    under (entry_at key (fresh r)) (entry_of key (sealed_in new r)) (entry_of key (sealed_in old r))
    (value-seen seen key (lists_of (tables_by new (kind_of r))) ∙ same r key ∙ sym (value-seen seen key (lists_of (tables_by old (kind_of r)))))
