use Rattle.std.proofs.Common.{sym, ◌∙◌, ap, subst}
use Rattle.tf_journal.specs.declared.entry.Entry.TheVariants as entry
use Rattle.tf_journal.specs.Ledger.{CanGrow}
use Rattle.tf_journal.specs.Steps.{released}
use Rattle.tf_journal.proofs.RunningSums.{moving_keeps, other_keeps}
use Rattle.tf_journal.proofs.balances.ended_by.Goals as goal
use Rattle.tf_journal.proofs.balances.ended_by.Goals.{else-is_settling-via-then-is_settling+else-has_account, else-is_settling-via-else-is_settling}

pub returns-else-is_settling : goal.returns-else-is_settling
returns-else-is_settling c = λ side.
    let journal = c.args.entries.now in
    let t = c.in-Transfer.transfer in
    let grows : ∥ CanGrow journal (entry.Transfer t) ∥₁ = subst (λ e. ∥ CanGrow journal e ∥₁) c.in-Transfer.is c.requires in
    sym (ap (released journal side c.args.id) c.in-Transfer.is ∙ elim c.else-is_settling.branch [
      | else-is_settling-via-then-is_settling+else-has_account w ↦ other_keeps journal t c.args.id side grows (sym w.has_account.ensures ∙ w.if-has_account.false)
      | else-is_settling-via-else-is_settling w ↦ moving_keeps journal t c.args.id side (sym c.is_settling.ensures ∙ w.if-is_settling.false)
    ])
