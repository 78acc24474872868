use Rattle.std.proofs.Common.{◌≡◌, ◌+◌, length, vec_len}
use Rattle.tf_task_trials.proofs.readers.watched.Given as goal

abbrev pub invariant-loop-reader : goal.invariant-loop-reader
invariant-loop-reader g l = vec_len l.watched + length l.reader-iterator.rest.items ≡ vec_len l.fn.readers
