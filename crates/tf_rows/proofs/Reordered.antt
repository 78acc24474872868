-- Changes of two different rows, of which either may be made first.
use Rattle.std.proofs.Common.{◌≡◌, List, ◌∷◌, None, Bool, true, false, cond, refl, sym, ◌∙◌, ap, subst}
use Rattle.std.specs.Prelude.{◌==◌, ◌⊎◌}
use Rattle.std.proofs.Math.Path.{fun_ext}
use Rattle.std.proofs.lemmas.Bool.{both_ways, eq-eqb, eqb-true}
use Rattle.tf_table.specs.Content.{entry_at}
use Rattle.tf_manifest.specs.declared.row.Row.{Row}
use Rattle.tf_manifest.specs.declared.value.Value.{Value}
use Rattle.tf_rows.specs.declared.change.Change.{Change}
use Rattle.tf_rows.specs.declared.change.Step.{Step}
use Rattle.tf_rows.specs.Changes.{CanChange, CanChangeAll, all_changed, changed}
use Rattle.tf_rows.specs.Parts.{Part, Parts, place_of, with_entry}
use Rattle.tf_rows.proofs.CanChange.{changed-other}
use Rattle.tf_rows.proofs.Made.{IsUnderWay}

module _ (c d : Change) (parts : Parts) (apart : (place_of c.row == place_of d.row) ≡ false) (back : (place_of d.row == place_of c.row) ≡ false) where
  by_tests : (r : Row) (a b : Bool) → (place_of r == place_of c.row) ≡ a → (place_of r == place_of d.row) ≡ b
      → cond a (with_entry c.key c.value (changed d parts c.row)) (cond b (with_entry d.key d.value (parts d.row)) (parts r))
      ≡ cond b (with_entry d.key d.value (changed c parts d.row)) (cond a (with_entry c.key c.value (parts c.row)) (parts r))
  by_tests r true true at_c at_d =
      absurd (both_ways (place_of c.row == place_of d.row) apart
      (eq-eqb (place_of c.row) (place_of d.row) (sym (eqb-true (place_of r) (place_of c.row) at_c) ∙ eqb-true (place_of r) (place_of d.row) at_d)))
  by_tests r true false at_c at_d = ap (with_entry c.key c.value) (changed-other d parts c.row apart)
  by_tests r false true at_c at_d = sym (ap (with_entry d.key d.value) (changed-other c parts d.row back))
  by_tests r false false at_c at_d = refl

  -- the rows are the same afterwards
  commuted : changed c (changed d parts) ≡ changed d (changed c parts)
  commuted = fun_ext each where
    each : (r : Row) → changed c (changed d parts) r ≡ changed d (changed c parts) r
    each r = by_tests r (place_of r == place_of c.row) (place_of r == place_of d.row) refl refl

module _ (has : Row → Bool) (fits : Row → Value → Bool) (takes_any : Row → Type 0) where
  -- what can be made can be made of other rows that have the same in its own
  can_elsewhere : (c : Change) (before after : Parts) → after c.row ≡ before c.row → CanChange has fits takes_any c before → CanChange has fits takes_any c after
  can_elsewhere c before after same can = record {
    held = can.held;
    kind = can.kind;
    new = subst (λ (part : Part). (entry_at c.key part.fresh ≡ None) ⊎ takes_any c.row) (sym same) can.new;
  }

  -- the next two changes, the second of them first
  pub exchanged : (changes : List Change) (old : List Step) (before : Parts) (c d : Change) (rest : List Change) (now : List Step) (present : Parts)
      → IsUnderWay has fits takes_any changes old before (c ∷ d ∷ rest) now present
      → (place_of c.row == place_of d.row) ≡ false → (place_of d.row == place_of c.row) ≡ false
      → IsUnderWay has fits takes_any changes old before (d ∷ c ∷ rest) now present
  exchanged changes old before c d rest now present under apart back = record {
    can = (
      can_elsewhere d (changed c present) present (sym (changed-other c present d.row back)) under.can.1.0,
      (
        can_elsewhere c present (changed d present) (changed-other d present c.row apart) under.can.0,
        subst (CanChangeAll has fits takes_any rest) (sym (commuted c d present apart back)) under.can.1.1,
      ),
    );
    steps = under.steps;
    rows = ap (all_changed rest) (commuted c d present apart back) ∙ under.rows;
  }
