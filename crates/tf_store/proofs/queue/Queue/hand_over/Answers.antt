use Rattle.std.proofs.Common.{◌≡◌, sym, subst, arith}
use Rattle.std.specs.List.{All}
use Rattle.std.specs.Prelude.{map}
use Rattle.tf_store.specs.Queue.{QueueView}
use Rattle.tf_store.specs.Receipt.{Waits, receipt_of}
use Rattle.tf_store.proofs.queue.Queue.hand_over.Goals as goal

pub hand_out-requires-clause-waits : goal.hand_out-requires-clause-waits
hand_out-requires-clause-waits g c =
    rw (c.replace-waiting.ensures.value) (subst (λ (v : QueueView). All (Waits c.args.front.now) v.waiting) (sym c.self.view_is) c.requires)

pub hand_out-requires-clause-empty : goal.hand_out-requires-clause-empty
hand_out-requires-clause-empty g c = rw (c.replace-places.ensures.value) (c.self.invariant.0, c.self.invariant.1)

pub hand_out-requires-clause-room : goal.hand_out-requires-clause-room
hand_out-requires-clause-room g c = rw (c.replace-waiting.ensures.value, c.replace-places.ensures.value) c.self.invariant.2

pub returns-clause-receipts : goal.returns-clause-receipts
returns-clause-receipts g c =
    subst (λ (v : QueueView). c.hand_out.result.items ≡ map (receipt_of c.args.front.now) v.waiting) c.self.view_is (rw c.replace-waiting.ensures.value at c.hand_out.ensures)

pub invariant_of-self : goal.invariant_of-self
invariant_of-self g c =
    rw (c.replace-places.ensures.after, c.replace-waiting.ensures.after) (c.new-2.ensures.items, c.new-2.ensures.len, omega (arith, c.new.ensures.len))

pub returns-clause-none : goal.returns-clause-none
returns-clause-none g c = rw c.replace-waiting.ensures.after c.new.ensures.items
