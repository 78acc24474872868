use Rattle.std.proofs.Common.{true, map, take}
use Rattle.tf_script.specs.CommandViews.{command_view}
use Rattle.tf_serving.proofs.Views.{journal_of, clock_of, publishes_of}
use Rattle.tf_main.specs.Run.{HasRun}
use Rattle.tf_serving.proofs.run.Served+Forest+Rows+T+A+S+A+A+S+C+W.run_commands.Given as goal

abbrev pub invariant-loop-command : goal.invariant-loop-command
invariant-loop-command g l = HasRun true journal_of clock_of publishes_of l.self.store.now.forest
    (map command_view (take l.command-index l.commands)) (g.O.Write.contents l.initial.out) (g.O.Write.contents l.out)
