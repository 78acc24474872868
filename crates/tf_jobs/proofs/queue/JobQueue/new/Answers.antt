use Rattle.std.proofs.Common.{◌≡◌, ◌<◌, [], ap, sym, ◌∙◌, arith, rules}
use Rattle.std.proofs.lemmas.List.Elements.{All-push, All-same}
use Rattle.tf_jobs.specs.Jobs.{SeatView}
use Rattle.tf_jobs.proofs.Rules.{begins, cuts}
use Rattle.tf_jobs.proofs.queue.JobQueue.new.Goals as goal

pub ruled-requires-clause-rule : goal.ruled-requires-clause-rule
ruled-requires-clause-rule g c = begins

pub another-cut-requires-clause-rule : goal.another-cut-requires-clause-rule
another-cut-requires-clause-rule g c = cuts _ _ (omega (arith, ap (λ v. v.parts) c.loop-at.invariant.1))

pub loop-at-preserved : goal.loop-at-preserved
loop-at-preserved g c =
    let P : SeatView g.row.T.Denot → Type 0 = λ s. (s.queue ≡ c.in_ok-bench.bench.table.shared.table_id) × (s.seats ≡ c.args.seats) × (s.offered ≡ []) × (s.taken ≡ []) in (
      search rules,
      search rules,
      search rules,
      search rules,
      All-same P _ _ c.in-Ok.ensures.items (All-push P _ _ c.loop-at.invariant.4 (search rules, search rules, search rules, search rules)),
    )

pub returns-clause-seats : goal.returns-clause-seats
returns-clause-seats g c =
    let P : SeatView g.row.T.Denot → Type 0 = λ s. (s.queue ≡ c.in_ok-bench.bench.table.shared.table_id) × (s.seats ≡ c.args.seats) × (s.offered ≡ []) × (s.taken ≡ []) in
    All-same P _ _ c.in-Ok-push.ensures.items (All-push P _ _ c.loop-at.invariant.4 (search rules, search rules, search rules, search rules))
