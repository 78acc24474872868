use Rattle.std.proofs.Common.{◌≡◌, ◌∙◌, sym, ap, false, true}
use Rattle.tf_journal.specs.Flags.{is_settling}
use Rattle.tf_pending.specs.Parts.{fault_of_id}
use Rattle.tf_pending.proofs.Judging.{used_filled, used_missing, used_plain}
use Rattle.tf_pending.proofs.id.used_id_fault.Goals as goal

pub returns-then-not-is_settling : goal.returns-then-not-is_settling
returns-then-not-is_settling g c =
    let moving : is_settling c.args.event.now ≡ false = sym c.is_settling.ensures ∙ c.if-not-is_settling.true in
    c.id_fault.ensures ∙ sym (used_plain (g.L.Ledger.journal c.args.ledger.now) c.args.event.now moving)

pub returns-in-Some : goal.returns-in-Some
returns-in-Some g c =
    let journal = g.L.Ledger.journal c.args.ledger.now in
    let e = c.args.event.now in
    let settling : is_settling e ≡ true = sym c.is_settling.ensures ∙ c.if-not-is_settling.false in
    c.id_fault-in-Some.ensures ∙ ap (fault_of_id journal) c.fill_in.ensures
    ∙ sym (used_filled journal e c.in-Some.pending settling (sym c.transfer.ensures ∙ c.in-Some.is))

pub returns-in-None : goal.returns-in-None
returns-in-None g c =
    let settling : is_settling c.args.event.now ≡ true = sym c.is_settling.ensures ∙ c.if-not-is_settling.false in
    c.id_fault-in-None.ensures
    ∙ sym (used_missing (g.L.Ledger.journal c.args.ledger.now) c.args.event.now settling (sym c.transfer.ensures ∙ c.in-None.is))
