use Rattle.std.proofs.Common.{◌≡◌, ◌+◌, length, vec_len}
use Rattle.tf_storm.proofs.files.storm_files.Given as goal

abbrev pub invariant-loop-name : goal.invariant-loop-name
invariant-loop-name g l = vec_len l.scripts + length l.name-iterator.rest.items ≡ vec_len l.fn.names
