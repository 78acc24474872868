use Rattle.std.proofs.Common.{◌≡◌, map, take}
use Rattle.tf_mutable.specs.Mutable.{in_order}
use Rattle.tf_mutable_rows.specs.Indexes.{index_row}
use Rattle.tf_mutable_rows.proofs.transfers.index_keys.Given as goal

abbrev pub invariant-loop-object : goal.invariant-loop-object
invariant-loop-object g l = l.keys ≡ in_order (map (index_row l.field) (take l.object-index l.objects))
