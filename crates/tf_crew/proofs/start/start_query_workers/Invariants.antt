use Rattle.std.proofs.Common.{◌≡◌, ◌+◌, ◌≤◌, length, vec_capacity, vec_len}
use Rattle.tf_crew.proofs.start.start_query_workers.Given as goal

abbrev pub invariant-loop-reader : goal.invariant-loop-reader
invariant-loop-reader g l =
    (l.place + length l.reader-iterator.rest.items ≤ length l.asks)
    × (vec_len l.threads ≡ l.place)
    × (l.place + length l.reader-iterator.rest.items ≤ vec_capacity l.threads)
