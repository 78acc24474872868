use Rattle.std.proofs.Common.{◌≡◌, vec_len}
use Rattle.tf_trials.proofs.clients.random_scripts.Given as goal

abbrev pub invariant-loop-client : goal.invariant-loop-client
invariant-loop-client l = vec_len l.scripts ≡ l.client
