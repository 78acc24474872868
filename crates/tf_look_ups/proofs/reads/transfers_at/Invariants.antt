use Rattle.std.proofs.Common.{◌≡◌, ◌+◌, ◌≤◌, ◌++◌, length}
use Rattle.std.specs.List.{filter_map}
use Rattle.std.specs.Prelude.{vec_capacity, vec_len}
use Rattle.tf_manifest.specs.declared.kind.Kind.TheVariants as kind
use Rattle.tf_manifest.specs.View.{tables_by}
use Rattle.tf_look_ups.specs.Reads.{transfer_in}
use Rattle.tf_look_ups.proofs.reads.transfers_at.Given as goal

abbrev pub invariant-loop-transfers : goal.invariant-loop-transfers
invariant-loop-transfers g l = record {
  found : l.rows.items ++ filter_map (transfer_in l.manifest) l.rest ≡ filter_map (transfer_in l.manifest) l.timestamps;
  few : vec_len l.rows + length l.rest ≤ length l.timestamps;
  tables : l.transfers ≡ tables_by l.manifest kind.Transfer;
  room : vec_capacity l.rows ≡ length l.timestamps;
}

abbrev pub decreases-loop-transfers : goal.decreases-loop-transfers
decreases-loop-transfers g l = length l.rest
