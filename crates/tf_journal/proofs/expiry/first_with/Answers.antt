use Rattle.std.proofs.Common.{sym, ◌∙◌}
use Rattle.tf_journal.proofs.Expiries.{left_out}
use Rattle.tf_journal.proofs.expiry.first_with.Goals as goal

pub returns-in_default-3 : goal.returns-in_default-3
returns-in_default-3 c =
    left_out c.args.entries.now c.args.last c.args.first c.args.entry.now c.in-Transfer.transfer c.args.at c.requires.sound c.requires.last c.requires.present
    (cc) (sym c.is_pending.ensures ∙ c.if-is_pending.true) (sym c.is_overdue.ensures ∙ c.if-is_overdue.true) (sym c.is_after.ensures ∙ c.if-is_after.false)
