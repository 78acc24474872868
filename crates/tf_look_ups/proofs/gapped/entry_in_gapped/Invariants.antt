use Rattle.std.proofs.Common.{◌≡◌, take, None}
use Rattle.tf_table.specs.Content.{entry_of}
use Rattle.tf_manifest.specs.Rows.{key_of}
use Rattle.tf_look_ups.proofs.gapped.entry_in_gapped.Given as goal

abbrev pub invariant-loop-place : goal.invariant-loop-place
invariant-loop-place g l = record {
  same : l.tables ≡ l.initial.tables;
  none : entry_of (key_of l.value 0) (take l.place l.tables) ≡ None;
}
