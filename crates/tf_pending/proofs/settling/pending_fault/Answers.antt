use Rattle.std.proofs.Common.{◌∙◌, sym, ◌++◌, not, refl}
use Rattle.std.proofs.lemmas.Bool.{not-false}
use Rattle.std.specs.Prelude.{◌==◌}
use Rattle.tf_records.specs.declared.outcome.Outcome.TheVariants as outcome
use Rattle.tf_journal.specs.Flags.{is_pending}
use Rattle.tf_journal.specs.Verdict.{closed_faults, mismatches, status_faults}
use Rattle.tf_journal.proofs.Accepted.{no_line}
use Rattle.tf_journal.proofs.Found.{found_status}
use Rattle.tf_journal.proofs.Tables.{fault_early, fault_later}
use Rattle.tf_pending.proofs.settling.pending_fault.Goals as goal

pub status_fault-requires : goal.status_fault-requires
status_fault-requires g c = record {
  status = found_status (g.L.Ledger.journal c.args.ledger.now) (λ t. t.id == c.args.event.now.pending_id) c.args.pending.now c.requires.journal c.requires.named
      (not-false (is_pending c.args.pending.now) (no_line (mismatches c.args.pending.now c.args.event.now) 0 (not (is_pending c.args.pending.now), outcome.PendingTransferNotPending) (sym c.mismatch.ensures ∙ c.in_default.is) refl));
}

pub returns-in-Some-status_fault : goal.returns-in-Some-status_fault
returns-in-Some-status_fault g c =
    let journal = g.L.Ledger.journal c.args.ledger.now in
    let pending = c.args.pending.now in
    let e = c.args.event.now in
    sym (fault_later (mismatches pending e) (status_faults journal c.args.timestamp pending ++ closed_faults journal e pending) (sym c.mismatch.ensures ∙ c.in_default.is)
    ∙ fault_early (status_faults journal c.args.timestamp pending) (closed_faults journal e pending) c.in-Some-status_fault.fault (sym c.status_fault.ensures ∙ c.in-Some-status_fault.is))

pub returns : goal.returns
returns g c =
    let journal = g.L.Ledger.journal c.args.ledger.now in
    let pending = c.args.pending.now in
    let e = c.args.event.now in
    c.closed_fault.ensures
    ∙ sym (fault_later (mismatches pending e) (status_faults journal c.args.timestamp pending ++ closed_faults journal e pending) (sym c.mismatch.ensures ∙ c.in_default.is)
    ∙ fault_later (status_faults journal c.args.timestamp pending) (closed_faults journal e pending) (sym c.status_fault.ensures ∙ c.in_default-status_fault.is))

pub returns-in-Some : goal.returns-in-Some
returns-in-Some g c =
    let journal = g.L.Ledger.journal c.args.ledger.now in
    let pending = c.args.pending.now in
    let e = c.args.event.now in
    sym (fault_early (mismatches pending e) (status_faults journal c.args.timestamp pending ++ closed_faults journal e pending) c.in-Some.fault (sym c.mismatch.ensures ∙ c.in-Some.is))
