use Rattle.std.proofs.Common.{◌≡◌, ◌+◌, ◌≤◌, ◌++◌, take}
use Rattle.std.specs.List.{filter_map}
use Rattle.std.specs.Prelude.{vec_capacity, vec_len}
use Rattle.tf_manifest.specs.declared.kind.Kind.TheVariants as kind
use Rattle.tf_manifest.specs.View.{tables_by}
use Rattle.tf_query.specs.Residual.{passing_in}
use Rattle.tf_query.proofs.passing.push_passing.Given as goal

abbrev pub invariant-loop-timestamp : goal.invariant-loop-timestamp
invariant-loop-timestamp g l = record {
  found : l.rows.items ≡ l.fn.rows.items ++ filter_map (passing_in l.manifest l.residual) (take l.timestamp-index l.timestamps);
  tables : l.transfers ≡ tables_by l.manifest kind.Transfer;
  few : vec_len l.rows ≤ l.most;
  short : vec_len l.rows ≤ vec_len l.fn.rows + l.timestamp-index;
  room : vec_capacity l.rows ≡ vec_capacity l.fn.rows;
}
