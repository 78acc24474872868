use Rattle.std.proofs.Common.{Some, ap, ◌∙◌}
use Rattle.tf_table.specs.Content.{entry_at}
use Rattle.tf_mutable_rows.proofs.Hashing.{equal_keys, found_in_order, hashed_eq}
use Rattle.tf_mutable_rows.proofs.hashed.HashedMutableTable.find.Goals as goal

pub returns-in-Some : goal.returns-in-Some
returns-in-Some g c =
    ap Some c.as_ref.ensures.value
    ∙ c.in-Some.ensures.value
    ∙ found_in_order hashed_eq equal_keys c.new-sought.result c.args.key.now c.self.inside.rows.entries c.new-sought.ensures
    ∙ ap (entry_at c.args.key.now) c.self.view_is

pub returns-in-None : goal.returns-in-None
returns-in-None g c =
    c.in-None.ensures.value
    ∙ found_in_order hashed_eq equal_keys c.new-sought.result c.args.key.now c.self.inside.rows.entries c.new-sought.ensures
    ∙ ap (entry_at c.args.key.now) c.self.view_is
