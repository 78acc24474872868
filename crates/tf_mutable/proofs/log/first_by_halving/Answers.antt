use Rattle.std.proofs.Common.{◌≡◌, rules, ap, sym, ◌∙◌, Option}
use Rattle.std.specs.Option.{option_copied, option_map}
use Rattle.std.specs.Ordering.{is_le}
use Rattle.std.proofs.lemmas.List.Sorted.{IsPartitionPoint-from_clause}
use Rattle.tf_table.specs.declared.key.Key.{Key}
use Rattle.tf_table.specs.Content.{entry_at}
use Rattle.tf_table.specs.First.{IsFirstAbove}
use Rattle.tf_table.specs.Key.{key_cmp}
use Rattle.tf_table.proofs.First.{partitioned, first_at_partition, item_read}
use Rattle.tf_mutable.proofs.log.first_by_halving.Given as given
use Rattle.tf_mutable.proofs.log.first_by_halving.Goals as goal
use Rattle.tf_mutable.proofs.log.first_by_halving.Goals.{After-get}

-- the key of the row at the place, if there is one
there : (g : given.Over) (c : After-get g) (found : Option Key) → option_map (λ r. r.0) (option_copied c.get.result) ≡ found → IsFirstAbove c.args.key.now (λ key. entry_at key c.args.rows.now) found
there g c found e =
    let rows = c.args.rows.now in
    let key = c.args.key.now in
    let p = c.partition_point-place.result in
    let point = IsPartitionPoint-from_clause (λ (r : Key × Option g.row.V.Denot). is_le (key_cmp r.0 key)) rows p c.partition_point-place.ensures.partitioned (partitioned rows key c.requires) (λ a r q k. search rules) in
    first_at_partition key rows p found c.requires c.partition_point-place.ensures.bound point (ap (option_map (λ r. r.0)) (sym (item_read rows p c.get.result c.get.ensures.lookup)) ∙ e)

pub returns-in_err-get : goal.returns-in_err-get
returns-in_err-get g c = there g (goal.at.returns-in_err-get g c).After-get c.from_residual.result (ap (λ r. option_map (λ r. r.0) (option_copied r)) c.in_err-get.was ∙ sym c.from_residual.ensures)

pub returns : goal.returns
returns g c = there g (goal.at.returns g c).After-get _ (ap (λ r. option_map (λ r. r.0) (option_copied r)) c.in_ok-get.was)
