use Rattle.std.proofs.Common.{◌∙◌, Some, ap, sym}
use Rattle.tf_pending.proofs.Judging.{fault_of_free, fault_of_stored}
use Rattle.tf_pending.proofs.id.id_fault.Goals as goal

pub returns-in-Stored : goal.returns-in-Stored
returns-in-Stored g c =
    ap Some c.repeated.ensures
    ∙ sym (fault_of_stored (g.L.Ledger.journal c.args.ledger.now) c.args.event.now c.in-Stored.stored (sym c.id_use.ensures ∙ c.in-Stored.is))

pub returns-in-Free : goal.returns-in-Free
returns-in-Free g c = sym (fault_of_free (g.L.Ledger.journal c.args.ledger.now) c.args.event.now (sym c.id_use.ensures ∙ c.in-Free.is))
