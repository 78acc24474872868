use Rattle.std.proofs.Common.{◌≡◌, take, None}
use Rattle.tf_table.specs.Content.{entry_of}
use Rattle.tf_registry.specs.Row.{lists_of}
use Rattle.tf_look_ups.specs.Finder.{AreSilent}
use Rattle.tf_look_ups.proofs.finder.newest.Given as goal

abbrev pub invariant-loop-place : goal.invariant-loop-place
invariant-loop-place g l = record {
  absent : entry_of l.key (take l.place (lists_of l.references)) ≡ None;
  silent : AreSilent l.part (take l.place (lists_of l.references));
}
