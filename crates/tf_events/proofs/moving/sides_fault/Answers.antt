use Rattle.tf_events.proofs.Paired.{paired_ledger, paired_limit, paired_sum}
use Rattle.std.proofs.Common.{sym, ◌∙◌}
use Rattle.tf_events.proofs.moving.sides_fault.Goals as goal

pub returns-in-Some-ledger_fault : goal.returns-in-Some-ledger_fault
returns-in-Some-ledger_fault g c =
    sym (paired_ledger (g.L.Ledger.journal c.args.ledger.now) c.args.timestamp c.args.event.now c.in-Some.debit c.in-Some-account.credit c.in-Some-ledger_fault.fault
    (sym c.in-Some.ensures) (sym c.in-Some-account.ensures) (sym c.in-Some-ledger_fault.ensures))

pub returns-in-Some-sum_fault : goal.returns-in-Some-sum_fault
returns-in-Some-sum_fault g c =
    sym (paired_sum (g.L.Ledger.journal c.args.ledger.now) c.args.timestamp c.args.event.now c.in-Some.debit c.in-Some-account.credit c.in-Some-sum_fault.fault
    (sym c.in-Some.ensures) (sym c.in-Some-account.ensures) (sym c.in_default-ledger_fault.ensures) (sym c.in-Some-sum_fault.ensures))

pub returns : goal.returns
returns g c =
    c.limit_fault.ensures
    ∙ sym (paired_limit (g.L.Ledger.journal c.args.ledger.now) c.args.timestamp c.args.event.now c.in-Some.debit c.in-Some-account.credit
    (sym c.in-Some.ensures) (sym c.in-Some-account.ensures) (sym c.in_default-ledger_fault.ensures) (sym c.in_default-sum_fault.ensures))
