use Rattle.std.proofs.Common.{true, rules, [], map, take}
use Rattle.std.proofs.lemmas.List.{map_more}
use Rattle.std.proofs.lemmas.Result.{err_from_is_err_and}
use Rattle.tf_journal.specs.Lawful.{IsLawfulAt}
use Rattle.tf_script.specs.CommandViews.{command_view}
use Rattle.tf_serving.proofs.Views.{journal_of, clock_of, publishes_of}
use Rattle.tf_main.proofs.Fronts.{Appends-nothing}
use Rattle.tf_main.proofs.Stops.{has_run_more, has_run_nothing, stops_running}
use Rattle.tf_serving.proofs.run.Served+Forest+Rows+T+A+S+A+A+S+C+W.run_commands.Goals as goal

pub loop-command-init : goal.loop-command-init
loop-command-init g c =
    let lawful : IsLawfulAt 0 [] = search rules in
    has_run_nothing true journal_of clock_of publishes_of c.args.self.now.store.now.forest (g.O.Write.contents c.args.out.now)
    c.requires.journal c.requires.clock c.requires.published (Appends-nothing _) lawful

pub loop-command-preserved : goal.loop-command-preserved
loop-command-preserved g c =
    let more = map_more command_view c.args.commands.now c.loop-command.command-index c.command-item.result c.loop-command-test.true in
    rw (more, ← c.command-item.is)
    (has_run_more true journal_of clock_of publishes_of c.loop-command.self.store.now.forest c.run_command.new.self.store.now.forest
    (map command_view (take c.loop-command.command-index c.args.commands.now)) (command_view c.command-item.result)
    (g.O.Write.contents c.args.out.now) (g.O.Write.contents c.loop-command.out) (g.O.Write.contents c.run_command.new.out) c.in_ok-run_command.field-0
    c.loop-command.invariant c.in_ok-run_command.ensures.run)

pub returns-in_err-run_command-clause-fault : goal.returns-in_err-run_command-clause-fault
returns-in_err-run_command-clause-fault g c =
    let p = err_from_is_err_and c.from_residual.result c.from_residual.ensures.1 in
    rw (p.1, p.2)
    (stops_running true journal_of clock_of publishes_of command_view c.args.commands.now c.loop-command.command-index c.command-item.result c.loop-command-test.true c.command-item.is
    c.loop-command.self.store.now.forest c.run_command.new.self.store.now.forest _ (g.O.Write.contents c.loop-command.out) _ c.in_err-run_command.field-0.0
    c.loop-command.invariant c.in_err-run_command.ensures.run)
