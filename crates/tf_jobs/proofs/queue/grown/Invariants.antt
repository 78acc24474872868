use Rattle.std.proofs.Common.{◌≡◌, []}
use Rattle.crossbeam_queue.specs.Passes.{view, IsPassOf}
use Rattle.tf_jobs.specs.Rule.{known}
use Rattle.tf_jobs.proofs.queue.grown.Given as goal

abbrev pub invariant-loop-part : goal.invariant-loop-part
invariant-loop-part g l = IsPassOf l.bench l.pass × (view l.pass ≡ known l._part l._part [] [])
