use Rattle.std.proofs.Common.{◌∙◌, sym, ap, Ok, Err, subst}
use Rattle.std.specs.Option.{unwrap_or}
use Rattle.tf_records.specs.declared.outcome.Outcome.TheVariants as outcome
use Rattle.tf_pending.specs.Judgement.{IsJudgement}
use Rattle.tf_pending.specs.Parts.{fault_of_id}
use Rattle.tf_pending.proofs.Judging.{IsFaultless, judged_missing, judged_ok, judged_pending, judged_used}
use Rattle.tf_pending.proofs.settling.judge_settling.Goals as goal

pub returns-in_default-transfer : goal.returns-in_default-transfer
returns-in_default-transfer g c =
    let is : IsFaultless c.args.event.now = record {
      settling = c.requires.settling;
      faults = sym c.transfer_fault.ensures ∙ c.in_default.is;
      own_faults = sym c.settling_fault.ensures ∙ c.in_default-settling_fault.is;
    } in
    let journal = g.L.Ledger.journal c.args.ledger.now in
    subst (λ o. IsJudgement journal c.args.timestamp c.args.event.now (Err o)) (sym (c.unwrap_or.ensures ∙ ap (λ o. unwrap_or o outcome.PendingTransferNotFound) c.id_fault.ensures))
    (judged_missing journal c.args.timestamp c.args.event.now is (sym c.transfer.ensures ∙ c.in_default-transfer.is))

pub returns-in-Some-id_fault : goal.returns-in-Some-id_fault
returns-in-Some-id_fault g c =
    let is : IsFaultless c.args.event.now = record {
      settling = c.requires.settling;
      faults = sym c.transfer_fault.ensures ∙ c.in_default.is;
      own_faults = sym c.settling_fault.ensures ∙ c.in_default-settling_fault.is;
    } in
    let journal = g.L.Ledger.journal c.args.ledger.now in
    judged_used journal c.args.timestamp c.args.event.now c.in-Some-transfer.pending c.in-Some-id_fault.fault is
    (sym c.transfer.ensures ∙ c.in-Some-transfer.is) (ap (fault_of_id journal) (sym c.fill_in.ensures) ∙ sym c.id_fault-2.ensures ∙ c.in-Some-id_fault.is)

pub returns-in-Some-pending_fault : goal.returns-in-Some-pending_fault
returns-in-Some-pending_fault g c =
    let is : IsFaultless c.args.event.now = record {
      settling = c.requires.settling;
      faults = sym c.transfer_fault.ensures ∙ c.in_default.is;
      own_faults = sym c.settling_fault.ensures ∙ c.in_default-settling_fault.is;
    } in
    let journal = g.L.Ledger.journal c.args.ledger.now in
    judged_pending journal c.args.timestamp c.args.event.now c.in-Some-transfer.pending c.in-Some-pending_fault.fault is
    (sym c.transfer.ensures ∙ c.in-Some-transfer.is) (ap (fault_of_id journal) (sym c.fill_in.ensures) ∙ sym c.id_fault-2.ensures ∙ c.in_default-id_fault.is)
    (sym c.pending_fault.ensures ∙ c.in-Some-pending_fault.is)

pub returns : goal.returns
returns g c =
    let is : IsFaultless c.args.event.now = record {
      settling = c.requires.settling;
      faults = sym c.transfer_fault.ensures ∙ c.in_default.is;
      own_faults = sym c.settling_fault.ensures ∙ c.in_default-settling_fault.is;
    } in
    let journal = g.L.Ledger.journal c.args.ledger.now in
    subst (λ r. IsJudgement journal c.args.timestamp c.args.event.now (Ok r)) (sym c.settled.ensures)
    (judged_ok journal c.args.timestamp c.args.event.now c.in-Some-transfer.pending is
    (sym c.transfer.ensures ∙ c.in-Some-transfer.is) (ap (fault_of_id journal) (sym c.fill_in.ensures) ∙ sym c.id_fault-2.ensures ∙ c.in_default-id_fault.is)
    (sym c.pending_fault.ensures ∙ c.in_default-pending_fault.is))
