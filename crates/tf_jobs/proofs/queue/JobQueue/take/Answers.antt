use Rattle.std.proofs.Common.{rules, arith}
use Rattle.tf_jobs.proofs.Rules.{takes, allowed}
use Rattle.tf_jobs.proofs.queue.JobQueue.take.Goals as goal

pub pop_as-requires-clause-rule : goal.pop_as-requires-clause-rule
pop_as-requires-clause-rule g c = (takes _ _ (omega (arith, c.seat.invariant.1)), allowed _ _)
