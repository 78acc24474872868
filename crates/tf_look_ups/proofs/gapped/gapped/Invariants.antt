use Rattle.std.proofs.Common.{◌≡◌, length, take}
use Rattle.std.specs.Prelude.{vec_capacity}
use Rattle.tf_registry.specs.Row.{lists_of}
use Rattle.tf_look_ups.proofs.gapped.gapped.Given as goal

abbrev pub invariant-loop-place : goal.invariant-loop-place
invariant-loop-place g l = record {
  items : l.tables.items ≡ take l.place (lists_of l.references);
  room : vec_capacity l.tables ≡ length l.references;
}
