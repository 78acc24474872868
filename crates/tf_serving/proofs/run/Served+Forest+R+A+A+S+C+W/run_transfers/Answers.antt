use Rattle.std.proofs.Common.{true, refl, ap}
use Rattle.tf_events.specs.Chain as kind
use Rattle.tf_script.specs.Command.{transfers}
use Rattle.tf_rows.specs.Counts.{Sealed}
use Rattle.tf_serving.proofs.Views.{journal_of, clock_of, kept_of, publishes_of}
use Rattle.tf_main.proofs.Answered.{batch_run}
use Rattle.tf_serving.proofs.run.Served+Forest+R+A+A+S+C+W.run_transfers.Goals as goal

pub returns : goal.returns
returns g c =
    batch_run kind.transfers true journal_of clock_of kept_of publishes_of c.args.self.now.store.now.forest c.create_transfers-outcome.new.self.store.now.forest
    c.args.events.now c.args.now c.create_transfers-outcome.result c.clock.result _ _
    (transfers c.args.now c.args.events.now) c.write_batch.result refl refl refl c.clock.ensures
    c.create_transfers-outcome.ensures.run (ap (λ (s : Sealed). s.counts.publishes) c.create_transfers-outcome.ensures.sealed) c.write_batch.ensures
