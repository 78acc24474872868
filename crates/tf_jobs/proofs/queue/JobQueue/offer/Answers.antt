use Rattle.std.proofs.Common.{rules, arith}
use Rattle.tf_jobs.proofs.Rules.{puts, allowed}
use Rattle.tf_jobs.proofs.queue.JobQueue.offer.Goals as goal

pub push_as-requires-clause-rule : goal.push_as-requires-clause-rule
push_as-requires-clause-rule g c = (puts _ _ _ _ (omega (arith, c.seat.invariant.1)), allowed _ _)
