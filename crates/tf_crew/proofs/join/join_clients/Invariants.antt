use Rattle.std.proofs.Common.{◌≡◌, ◌+◌, ◌≤◌, length, vec_capacity, vec_len}
use Rattle.tf_crew.proofs.join.join_clients.Given as goal

abbrev pub invariant-loop-thread : goal.invariant-loop-thread
invariant-loop-thread g l = (vec_len l.shares + length l.thread-iterator.rest.items ≡ vec_len l.fn.threads) × (vec_len l.fn.threads ≤ vec_capacity l.shares)
