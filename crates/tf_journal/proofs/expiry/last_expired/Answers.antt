use Rattle.std.proofs.Common.{sym, ◌∙◌}
use Rattle.tf_journal.proofs.Expiries.{named_expired}
use Rattle.tf_journal.proofs.expiry.last_expired.Goals as goal

pub returns : goal.returns
returns c = λ p is.
    let pending = c.in_ok-pending.pending in
    named_expired c.args.entries.now pending p (c.last_ended.ensures pending c.in_ok-pending.was) (sym c.find_pending.ensures ∙ is)
