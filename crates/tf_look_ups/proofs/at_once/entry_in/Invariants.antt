use Rattle.std.proofs.Common.{◌≡◌, take, None}
use Rattle.tf_table.specs.Content.{entry_of}
use Rattle.tf_registry.specs.Row.{lists_of}
use Rattle.tf_look_ups.proofs.at_once.entry_in.Given as goal

abbrev pub invariant-loop-place : goal.invariant-loop-place
invariant-loop-place g l = entry_of l.key (take l.place (lists_of l.references)) ≡ None
