-- What is pushed of a publish that is refused in the middle, row by row.
use Rattle.std.proofs.Common.{◌≡◌, ℕ, zero, suc, ◌+◌, ◌-◌, ◌<◌, ◌≤◌, List, Result, Ok, Err, OnOk, OnErr, Bool, true, false, cond, refl, sym, ◌∙◌, ap, subst, arith, ◌⊎◌, inl, inr}
use Rattle.std.specs.Prelude.{◌==◌, ◌≢◌, []}
use Rattle.std.proofs.lemmas.Bool.{both_ways, eq-eqb, eqb-true}
use Rattle.tf_records.specs.declared.refusal.Refusal.{Refusal}
use Rattle.tf_manifest.specs.declared.row.Row.{Row}
use Rattle.tf_manifest.specs.Kinds.{kind_of}
use Rattle.tf_manifest.specs.RowNames.{rows_in_order}
use Rattle.tf_registry.specs.Row.{is_nil}
use Rattle.tf_registry.specs.Table.{Shown}
use Rattle.tf_manifest.specs.View.{StoredBy, references_in, tables_by, value_by}
use Rattle.tf_rows.specs.Counts.{Counted, Sealed, counted, with_lost}
use Rattle.tf_rows.specs.Parts.{Entries, place_of}
use Rattle.tf_publish.specs.Partly.{CountsParts, PublishesPart, PublishesPartIn, PublishesParts}
use Rattle.tf_publish.specs.Publish.{needed_for}
use Rattle.tf_publish.specs.Tables.{MakesPlaceIn, PublishesIn}
use Rattle.tf_rows.proofs.CanChange.{all_rows_stand}
use Rattle.tf_rows.proofs.Next.{by_row}
use Rattle.tf_publish.proofs.Bounds.{none_lost}
use Rattle.tf_publish.proofs.PublishRows.{place_within}
use Rattle.tf_publish.proofs.Tables.{TablesGoing, none_in_all, number_here, number_there, sum_with, with_number}

-- nothing was pushed for a row
pub no_part : (fresh : Entries) (r : Row) (now : Counted) → PublishesPartIn fresh r now now
no_part fresh r now = record {
  tables = 0;
  entries = 0;
  part = inl (refl, refl, refl);
  others = λ other apart. refl;
  pushed = omega arith;
  held = omega arith;
}

-- a list that isn't empty
some_entry : {X : Type 0} (xs : List X) → is_nil xs ≡ false → xs ≢ []
some_entry {X = X} xs some none = both_ways (is_nil xs) some (ap (λ (ys : List X). is_nil ys) none)

-- a full row whose mutable table has an entry has room
pub part_by_place : (fresh : Entries) (r : Row) (old new : Counted) → is_nil (fresh r) ≡ false → MakesPlaceIn r old new → new.tables.pushed.count ≡ old.tables.pushed.count + cond (references_in old.tables r == 64) 1 0 → PublishesPartIn fresh r old new
part_by_place fresh r old new some place count = by_test (references_in old.tables r == 64) refl where
  by_test : (b : Bool) → (references_in old.tables r == 64) ≡ b → PublishesPartIn fresh r old new
  by_test true full = record {
    tables = 1;
    entries = place.entries;
    part =
        let all = eqb-true (references_in old.tables r) 64 full in
        inr (inl (some_entry (fresh r) some, all, place.place.full all, refl));
    others = place.others;
    pushed = count ∙ ap (λ (b : Bool). old.tables.pushed.count + cond b 1 0) full;
    held = place.held;
  }
  by_test false free =
      let same = place.place.free (λ e. both_ways (references_in old.tables r == 64) free (eq-eqb (references_in old.tables r) 64 e)) in
      record {
        tables = 0;
        entries = place.entries;
        part = inl (same.0, refl, same.1);
        others = place.others;
        pushed = count ∙ ap (λ (b : Bool). old.tables.pushed.count + cond b 1 0) free;
        held = place.held;
      }

-- a row was published wholly
pub part_by_all : (fresh : Entries) (r : Row) (old new : Counted) → PublishesIn fresh r old new → new.tables.pushed.count ≡ old.tables.pushed.count + needed_for (fresh r) (references_in old.tables r) → PublishesPartIn fresh r old new
part_by_all fresh r old new publishes count = record {
  tables = needed_for (fresh r) (references_in old.tables r);
  entries = publishes.entries;
  part = inr (inr (publishes.tables, refl));
  others = publishes.others;
  pushed = count;
  held = publishes.held;
}

below_or_from : (a n : ℕ) → (a < n) ⊎ (n ≤ a)
below_or_from a zero = inr (omega arith)
below_or_from zero (suc n) = inl (omega arith)
below_or_from (suc a) (suc n) = elim (below_or_from a n) [
  | inl below ↦ inl (omega (arith, below))
  | inr from ↦ inr (omega (arith, from))
]

-- some rows were published wholly, then one in part
module _ (fresh : Entries) (old now new : Counted) (n : ℕ) (r : Row) (going : TablesGoing fresh old now n) (within : n < 21) (stands : place_of r ≡ n) (partly : PublishesPartIn fresh r now new) where
  abbrev tables : Row → ℕ
  tables = with_number r partly.tables going.tables

  abbrev entries : Row → ℕ
  entries = with_number r partly.entries going.entries

  abbrev Part : Row → ℕ → ℕ → Type 0
  Part s t e = PublishesPart (value_by (kind_of s)) (fresh s) (tables_by old.tables (kind_of s)) (tables_by new.tables (kind_of s)) t e

  part_here : Part r (tables r) (entries r)
  part_here =
      subst (λ (t : ℕ). Part r t (entries r)) (sym (number_here r partly.tables going.tables))
      (subst (λ (e : ℕ). Part r partly.tables e) (sym (number_here r partly.entries going.entries))
      (subst (λ (ts : List (Shown (StoredBy (kind_of r)))). PublishesPart (value_by (kind_of r)) (fresh r) ts (tables_by new.tables (kind_of r)) partly.tables partly.entries) (going.same r (omega (arith, stands))) partly.part))

  part_there : (s : Row) → (place_of s == place_of r) ≡ false → Part s (tables s) (entries s)
  part_there s differ =
      let same = partly.others s (λ e. both_ways (place_of s == place_of r) differ (eq-eqb (place_of s) (place_of r) (ap place_of e))) in
      subst (λ (t : ℕ). Part s t (entries s)) (sym (number_there r s partly.tables going.tables differ))
      (subst (λ (e : ℕ). Part s (going.tables s) e) (sym (number_there r s partly.entries going.entries differ))
      (subst (λ (ts : List (Shown (StoredBy (kind_of s)))). PublishesPart (value_by (kind_of s)) (fresh s) (tables_by old.tables (kind_of s)) ts (going.tables s) (going.entries s)) (sym same)
      (elim (below_or_from (place_of s) n) [
        | inl before ↦ inr (inr (going.published s before, going.needed s before))
        | inr from ↦ inl (going.same s from, (going.none s from).0, (going.none s from).1)
      ])))

  pub parts_at : PublishesParts fresh old new
  parts_at = record {
    tables = tables;
    entries = entries;
    part = λ s. by_row (Part s (tables s) (entries s)) s r
        (λ (e : s ≡ r). subst (λ (x : Row). Part x (tables x) (entries x)) (sym e) part_here)
        (λ (differ : (place_of s == place_of r) ≡ false). part_there s differ);
    pushed =
        let before = going.pushed in
        let own = partly.pushed in
        let none = (going.none r (omega (arith, stands))).0 in
        let all = sum_with r partly.tables going.tables 0 rows_in_order all_rows_stand (omega arith) (omega (arith, within, stands)) in
        omega (arith, before, own, none, all);
    held =
        let before = going.held in
        let own = partly.held in
        let none = (going.none r (omega (arith, stands))).1 in
        let all = sum_with r partly.entries going.entries 0 rows_in_order all_rows_stand (omega arith) (omega (arith, within, stands)) in
        omega (arith, before, own, none, all);
  }

-- all rows were
pub all_parts : (fresh : Entries) (old now : Counted) → TablesGoing fresh old now 21 → PublishesParts fresh old now
all_parts fresh old now going = record {
  tables = going.tables;
  entries = going.entries;
  part = λ r. inr (inr (going.published r (place_within r), going.needed r (place_within r)));
  pushed = going.pushed;
  held = going.held;
}

-- a table was put in front of a row that had room, or was refused
pub part_by_push : (result : Result (Unit {0}) Refusal) (fresh : Entries) (r : Row) (old mid new : Counted) → OnOk result (PublishesPartIn fresh r old new) → OnErr result (new ≡ mid) → PublishesPartIn fresh r old mid → PublishesPartIn fresh r old new
part_by_push (Ok done) fresh r old mid new all same part = all
part_by_push (Err refusal) fresh r old mid new all same part = subst (PublishesPartIn fresh r old) (sym same) part

-- nothing was pushed at all
pub nothing_counted : (fresh : Entries) (sealed : Sealed) → CountsParts fresh sealed sealed
nothing_counted fresh sealed =
    let none = none_in_all rows_in_order in
    let tables : sealed.tables.pushed.count - sealed.tables.pushed.count ≡ 0 = omega arith in
    let entries : sealed.counts.rows_held - sealed.counts.rows_held ≡ 0 = omega arith in
    record {
      copy = counted sealed;
      parts = record {
        tables = λ r. 0;
        entries = λ r. 0;
        part = λ r. inl (refl, refl, refl);
        pushed = omega (arith, none);
        held = omega (arith, none);
      };
      is = none_lost sealed ∙ ap (λ (t : ℕ). with_lost t 0 sealed) (sym tables) ∙ ap (λ (e : ℕ). with_lost (sealed.tables.pushed.count - sealed.tables.pushed.count) e sealed) (sym entries);
    }
