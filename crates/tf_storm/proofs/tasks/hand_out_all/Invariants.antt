use Rattle.std.proofs.Common.{◌≡◌, ◌++◌, map}
use Rattle.std.specs.List.{flat_map}
use Rattle.tf_script.specs.CommandViews.{command_view}
use Rattle.tf_storm.specs.Tasks.{ask_view, asked_part, client_part, work_view}
use Rattle.tf_storm.proofs.tasks.hand_out_all.Given as goal

abbrev pub invariant-loop-command : goal.invariant-loop-command
invariant-loop-command l = (map work_view l.works.items ++ flat_map client_part (map command_view l.command-iterator.rest.items) ≡ flat_map client_part (map command_view l.fn.commands.items))
    × (map ask_view l.asks.items ++ flat_map asked_part (map command_view l.command-iterator.rest.items) ≡ map ask_view l.fn.asks.items ++ flat_map asked_part (map command_view l.fn.commands.items))
