use Rattle.std.proofs.Common.{true, ap}
use Rattle.tf_rows.specs.Counts.{Sealed}
use Rattle.tf_serving.proofs.Views.{journal_of, clock_of, kept_of, publishes_of}
use Rattle.tf_main.proofs.Answered.{pulse_run}
use Rattle.tf_serving.proofs.run.Served+Forest+R+A+A+S+C+W.run_pulse.Goals as goal

pub returns : goal.returns
returns g c =
    pulse_run true journal_of clock_of kept_of publishes_of c.args.self.now.store.now.forest c.pulse-outcome.new.self.store.now.forest
    c.args.now c.args.max c.pulse-outcome.result c.clock.result _ _ c.write_pulsed.result c.clock.ensures
    c.pulse-outcome.ensures.run (ap (λ (s : Sealed). s.counts.publishes) c.pulse-outcome.ensures.sealed) c.write_pulsed.ensures
