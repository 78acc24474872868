-- The changes of a journal's next entry can be made in rows that show the journal.
use Rattle.std.proofs.Common.{◌≡◌, ◌≢◌, ◌<◌, ℕ, suc, List, [], ◌∷◌, ◌++◌, map, Option, Some, None, Bool, true, false, cond, refl, sym, ◌∙◌, ap, subst, inl, inr, arith}
use Rattle.std.specs.Prelude.{◌==◌, IfSome, IsSome, IsTrue, ⊤}
use Rattle.std.specs.List.{flat_map}
use Rattle.std.proofs.lemmas.Bool.{eq-eqb, eqb-true}
use Rattle.tf_table.specs.declared.key.Key.{Key}
use Rattle.tf_table.specs.Content.{entry_at}
use Rattle.tf_table.specs.Key.{key_cmp}
use Rattle.tf_sorted.specs.Rows.{with_row}
use Rattle.tf_manifest.specs.declared.row.Row.{Row}
use Rattle.tf_manifest.specs.declared.value.Value.{Value}
use Rattle.tf_manifest.specs.RowNames.{rows_in_order}
use Rattle.tf_manifest.proofs.Entries.{by_key, with_row-here, with_row-there}
use Rattle.tf_manifest.proofs.Members.{Has}
use Rattle.tf_rows.specs.declared.change.Change.{Change}
use Rattle.tf_rows.specs.Changes.{CanChangeAll, all_changed, changed}
use Rattle.tf_rows.specs.Edits.{Edit}
use Rattle.tf_rows.specs.Nest.{IsTree, LogsHaveValues, fits_row, has_each, is_tree}
use Rattle.tf_rows.specs.Next.{change_of}
use Rattle.tf_rows.specs.Parts.{Part, Parts, place_of, with_entry}
use Rattle.tf_rows.proofs.Changes.{IsUntouched}
use Rattle.tf_rows.proofs.EditsOfRows.{AreNew, AreOf, AreOnce}
use Rattle.tf_rows.proofs.Next.{by_row}

-- changes of all rows can be made one after another
abbrev pub CanAll : List Change → Parts → Type 0
CanAll changes parts = CanChangeAll has_each fits_row IsTree changes parts

can_both : (first second : List Change) (parts : Parts) → CanAll first parts → CanAll second (all_changed first parts) → CanAll (first ++ second) parts
can_both [] second parts a b = b
can_both (c ∷ first) second parts a b = (a.0, can_both first second (changed c parts) a.1 b)

-- a row after a change of it, and another
changed-own : (c : Change) (parts : Parts) → changed c parts c.row ≡ with_entry c.key c.value (parts c.row)
changed-own c parts =
    ap (λ (b : Bool). cond b (with_entry c.key c.value (parts c.row)) (parts c.row)) (eq-eqb (place_of c.row) (place_of c.row) refl)

pub changed-other : (c : Change) (parts : Parts) (s : Row) → (place_of s == place_of c.row) ≡ false → changed c parts s ≡ parts s
changed-other c parts s other = ap (λ (b : Bool). cond b (with_entry c.key c.value (parts c.row)) (parts s)) other

all_changed-other : (r : Row) (changes : List Edit) (parts : Parts) (s : Row) → (place_of s == place_of r) ≡ false → all_changed (map (change_of r) changes) parts s ≡ parts s
all_changed-other r [] parts s other = refl
all_changed-other r (edit ∷ changes) parts s other =
    all_changed-other r changes (changed (change_of r edit) parts) s other ∙ changed-other (change_of r edit) parts s other

still_new : (key : Key) (entry : Option Value) (fresh : List (Key × Option Value)) (changes : List Edit) → IsUntouched changes key → AreNew fresh changes → AreNew (with_row key_cmp key entry fresh) changes
still_new key entry fresh [] untouched new = tt
still_new key entry fresh (edit ∷ changes) untouched new = (
  with_row-there key edit.0 entry fresh (λ (same : edit.0 ≡ key). untouched edit.1 (inl (ap (λ (k : Key). (k, edit.1)) same))) ∙ new.0,
  still_new key entry fresh changes (λ o h. untouched o (inr h)) new.1,
)

-- edits of a tree, and of a log
can_tree : (r : Row) (changes : List Edit) (parts : Parts) → IsTree r → AreOf r changes → CanAll (map (change_of r) changes) parts
can_tree r [] parts tree of = tt
can_tree r (edit ∷ changes) parts tree of =
    (record { held = refl; kind = of.0.0; new = inr tree }, can_tree r changes (changed (change_of r edit) parts) tree of.1)

can_log : (r : Row) (changes : List Edit) (parts : Parts) → AreOf r changes → AreOnce changes → AreNew (parts r).fresh changes → CanAll (map (change_of r) changes) parts
can_log r [] parts of once new = tt
can_log r (edit ∷ changes) parts of once new = (
  record { held = refl; kind = of.0.0; new = inl new.0 },
  can_log r changes (changed (change_of r edit) parts) of.1 once.1
      (subst (λ (part : Part). AreNew part.fresh changes) (sym (changed-own (change_of r edit) parts))
      (still_new edit.0 edit.1 (parts r).fresh changes once.0 new.1)),
)

-- what is asked of a row's edits, by what the row has
pub record IsReady (r : Row) (part : Part) (changes : List Edit) : Type 0 where
  pub of : AreOf r changes
  pub log : is_tree r ≡ false → AreOnce changes × AreNew part.fresh changes

can_row : (r : Row) (changes : List Edit) (parts : Parts) → IsReady r (parts r) changes → CanAll (map (change_of r) changes) parts
can_row r changes parts ready = by_kind (is_tree r) refl where
  by_kind : (b : Bool) → is_tree r ≡ b → CanAll (map (change_of r) changes) parts
  by_kind true tree = can_tree r changes parts tree ready.of
  by_kind false log = can_log r changes parts ready.of (ready.log log).0 (ready.log log).1

-- rows stand at their places, one after another
abbrev pub StandFrom : ℕ → List Row → Type 0
StandFrom n [] = ⊤
StandFrom n (r ∷ rows) = (place_of r ≡ n) × StandFrom (suc n) rows

stands_later : (m n : ℕ) (rows : List Row) → n < m → StandFrom m rows → (s : Row) → Has rows s → n < place_of s
stands_later m n [] before stand s h = absurd h
stands_later m n (r ∷ rows) before stand s (inl e) = let at : place_of s ≡ m = ap place_of (sym e) ∙ stand.0 in omega arith
stands_later m n (r ∷ rows) before stand s (inr h) = stands_later (suc m) n rows (omega arith) stand.1 s h

apart : (m n : ℕ) → n < m → (m == n) ≡ false
apart m n before = by_test (m == n) refl where
  by_test : (b : Bool) → (m == n) ≡ b → b ≡ false
  by_test true same = let equal = eqb-true m n same in absurd (omega arith)
  by_test false other = refl

pub all_rows_stand : StandFrom 0 rows_in_order
all_rows_stand = (refl, (refl, (refl, (refl, (refl, (refl, (refl, (refl, (refl, (refl, (refl, (refl, (refl, (refl, (refl, (refl, (refl, (refl, (refl, (refl, (refl, tt)))))))))))))))))))))

module _ (edits : Row → List Edit) where
  abbrev of_row : Row → List Change
  of_row r = map (change_of r) (edits r)

  pub can_rows : (n : ℕ) (rows : List Row) (parts : Parts) → StandFrom n rows → ((r : Row) → Has rows r → IsReady r (parts r) (edits r)) → CanAll (flat_map of_row rows) parts
  can_rows n [] parts stand ready = tt
  can_rows n (r ∷ rows) parts stand ready =
      can_both (of_row r) (flat_map of_row rows) parts
      (can_row r (edits r) parts (ready r (inl refl)))
      (can_rows (suc n) rows (all_changed (of_row r) parts) stand.1 (λ s h.
      let later = stands_later (suc n) (place_of r) rows (let at = stand.0 in omega arith) stand.1 s h in
      subst (λ (part : Part). IsReady s part (edits s))
      (sym (all_changed-other r (edits r) parts s (apart (place_of s) (place_of r) later)))
      (ready s (inr h))))

-- logs have values after a change that gives one
value_change : (c : Change) (parts : Parts) → (is_tree c.row ≡ false → IsSome c.value) → LogsHaveValues parts → LogsHaveValues (changed c parts)
value_change c parts some values r log key =
    by_row (entry_at key (changed c parts r).fresh ≢ Some None) r c.row
    (λ (same : r ≡ c.row). subst (λ (s : Row). entry_at key (changed c parts s).fresh ≢ Some None) (sym same)
    (subst (λ (part : Part). entry_at key part.fresh ≢ Some None) (sym (changed-own c parts)) (own same)))
    (λ other. subst (λ (part : Part). entry_at key part.fresh ≢ Some None) (sym (changed-other c parts r other)) (values r log key)) where
      some_value : (o : Option Value) → IsSome o → Some o ≢ Some None
      some_value None is = λ same. absurd (cc)
      some_value (Some v) is = λ same. absurd (cc)

      own : r ≡ c.row → entry_at key (with_row key_cmp c.key c.value (parts c.row).fresh) ≢ Some None
      own same = by_key (entry_at key (with_row key_cmp c.key c.value (parts c.row).fresh) ≢ Some None) key c.key
          (λ (here : key ≡ c.key). subst (λ (k : Key). entry_at k (with_row key_cmp c.key c.value (parts c.row).fresh) ≢ Some None) (sym here)
          (subst (λ (o : Option (Option Value)). o ≢ Some None) (sym (with_row-here c.key c.value (parts c.row).fresh))
          (some_value c.value (some (ap is_tree (sym same) ∙ log)))))
          (λ (there : key ≢ c.key). subst (λ (o : Option (Option Value)). o ≢ Some None) (sym (with_row-there c.key key c.value (parts c.row).fresh there))
          (subst (λ (s : Row). entry_at key (parts s).fresh ≢ Some None) same (values r log key)))

pub value_changes : (changes : List Change) (parts : Parts) → ((c : Change) → Has changes c → is_tree c.row ≡ false → IsSome c.value) → LogsHaveValues parts → LogsHaveValues (all_changed changes parts)
value_changes [] parts some values = values
value_changes (c ∷ changes) parts some values =
    value_changes changes (changed c parts) (λ d h. some d (inr h)) (value_change c parts (some c (inl refl)) values)

-- what can be changed in all rows can be changed in a set of all rows
pub can_any : (has : Row → Bool) (fits : Row → Value → Bool) (takes_any : Row → Type 0)
    → ((r : Row) → IsTrue (has r)) → ((r : Row) (v : Value) → IsTrue (fits_row r v) → IsTrue (fits r v)) → ((r : Row) → IsTree r → takes_any r)
    → (changes : List Change) (parts : Parts) → CanAll changes parts → CanChangeAll has fits takes_any changes parts
can_any has fits takes_any all kinds trees [] parts can = tt
can_any has fits takes_any all kinds trees (c ∷ changes) parts can = (
  record {
    held = all c.row;
    kind = by_value c.value can.0.kind;
    new = elim can.0.new [
      | inl none ↦ inl none
      | inr tree ↦ inr (trees c.row tree)
    ];
  },
  can_any has fits takes_any all kinds trees changes (changed c parts) can.1,
) where
  by_value : (o : Option Value) → IfSome o (λ v. IsTrue (fits_row c.row v)) → IfSome o (λ v. IsTrue (fits c.row v))
  by_value None fit = fit
  by_value (Some v) fit = kinds c.row v fit
