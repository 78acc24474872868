use Rattle.std.proofs.Common.{◌≡◌, ◌≤◌, length, take}
use Rattle.std.specs.List.{filter_map}
use Rattle.std.specs.Prelude.{vec_capacity, vec_len}
use Rattle.tf_manifest.specs.declared.kind.Kind.TheVariants as kind
use Rattle.tf_manifest.specs.View.{tables_by}
use Rattle.tf_look_ups.specs.Reads.{balance_in}
use Rattle.tf_query.proofs.balances.balances_at.Given as goal

abbrev pub invariant-loop-timestamp : goal.invariant-loop-timestamp
invariant-loop-timestamp g l = record {
  found : l.rows.items ≡ filter_map (balance_in l.manifest l.account_id) (take l.timestamp-index l.timestamps);
  few : vec_len l.rows ≤ l.timestamp-index;
  tables : l.sums ≡ tables_by l.manifest kind.Sums;
  room : vec_capacity l.rows ≡ length l.timestamps;
}
