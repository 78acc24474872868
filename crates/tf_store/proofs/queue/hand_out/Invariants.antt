use Rattle.std.proofs.Common.{◌≡◌, ◌++◌, ◌≤◌, length, vec_len, vec_capacity}
use Rattle.std.specs.Prelude.{map}
use Rattle.std.specs.List.{All}
use Rattle.std.specs.Vec.Iter.{into_iter_items, into_iter_len}
use Rattle.tf_store.specs.Receipt.{Waits, receipt_of}
use Rattle.tf_store.proofs.queue.hand_out.Given as goal

abbrev pub invariant-loop-batch : goal.invariant-loop-batch
invariant-loop-batch g l =
    (l.yielded ++ into_iter_items l.batch-iterator ≡ l.fn.waiting.items)
    × (into_iter_len l.batch-iterator ≡ length (into_iter_items l.batch-iterator))
    × All (Waits l.fn.front) (into_iter_items l.batch-iterator)
    × (l.receipts.items ≡ map (receipt_of l.fn.front) l.yielded)
    × (vec_len l.receipts ≡ length l.yielded)
    × (length l.fn.waiting.items ≤ vec_capacity l.receipts)
