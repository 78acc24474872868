use Rattle.std.proofs.Common.{length, rules, ap, sym, ◌∙◌, subst}
use Rattle.tf_table.specs.Entries.{IsStored}
use Rattle.tf_table.specs.Filter.{HoldsEach}
use Rattle.tf_table.proofs.draft.Draft.seal.Goals as goal

pub invariant_of-result : goal.invariant_of-result
invariant_of-result g c =
    let n = ap length c.in_ok-keys.ensures.items in
    record {
      laid = search rules;
      fitted = (
        c.in_ok-keys.ensures.room ∙ sym n,
        subst (λ m. IsStored m c.in_ok-entries.entries) (sym n) (c.in_ok-entries.ensures.stored c.self.inside.room (length c.self.inside.keys.items) c.self.invariant.1.1 c.self.invariant.0),
      );
      held = subst (HoldsEach c.in_ok-hints.hints.words.items c.in_ok-hints.hints.filter_words) c.deref-4.ensures.value c.in_ok-hints.ensures.held;
    }
