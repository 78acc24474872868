use Rattle.std.proofs.Common.{◌≡◌, ◌+◌, length, vec_len}
use Rattle.tf_task_trials.proofs.tasks.storm_of.Given as goal

abbrev pub invariant-loop-script : goal.invariant-loop-script
invariant-loop-script l = vec_len l.works + length l.script-iterator.rest.items ≡ vec_len l.fn.scripts
