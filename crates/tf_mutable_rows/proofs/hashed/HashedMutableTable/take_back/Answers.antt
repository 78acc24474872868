use Rattle.std.proofs.Common.{None, Some, ap, sym, ◌∙◌}
use Rattle.tf_table.specs.Content.{entry_at}
use Rattle.tf_mutable.specs.Mutable.{given_back}
use Rattle.tf_mutable.proofs.Logged.{given_back-is}
use Rattle.tf_mutable_rows.proofs.Hashing.{equal_keys, found_in_order, hashed_eq, put_in_order, removed_in_order, there_not_none}
use Rattle.tf_mutable_rows.proofs.hashed.HashedMutableTable.take_back.Goals as goal

pub returns-in-None-clause-rows : goal.returns-in-None-clause-rows
returns-in-None-clause-rows g c =
    removed_in_order hashed_eq equal_keys c.new-sought.result c.args.key.now c.self.inside.rows.entries c.remove.new.self.entries c.args.self.now c.new-sought.ensures c.self.view_is c.requires c.remove.ensures.updates.0
    ∙ ap (λ before. given_back c.args.key.now before c.args.self.now) (sym c.in-None.is)

pub returns-in-None-clause-restores : goal.returns-in-None-clause-restores
returns-in-None-clause-restores g c = λ earlier entry rising put before.
    removed_in_order hashed_eq equal_keys c.new-sought.result c.args.key.now c.self.inside.rows.entries c.remove.new.self.entries c.args.self.now c.new-sought.ensures c.self.view_is c.requires c.remove.ensures.updates.0
    ∙ ap (given_back c.args.key.now None) put
    ∙ given_back-is c.args.key.now entry None earlier rising (sym c.in-None.is ∙ before)

pub returns-in-Ok-clause-rows : goal.returns-in-Ok-clause-rows
returns-in-Ok-clause-rows g c =
    put_in_order hashed_eq equal_keys c.new-sought.result c.args.key.now c.in-Some.entry c.self.inside.rows.entries c.insert.new.self.entries c.new-sought.ensures c.in-Ok.ensures.updates.0
    ∙ ap (given_back c.args.key.now (Some c.in-Some.entry)) c.self.view_is
    ∙ ap (λ before. given_back c.args.key.now before c.args.self.now) (sym c.in-Some.is)

pub returns-in-Ok-clause-restores : goal.returns-in-Ok-clause-restores
returns-in-Ok-clause-restores g c = λ earlier entry rising put before.
    put_in_order hashed_eq equal_keys c.new-sought.result c.args.key.now c.in-Some.entry c.self.inside.rows.entries c.insert.new.self.entries c.new-sought.ensures c.in-Ok.ensures.updates.0
    ∙ ap (given_back c.args.key.now (Some c.in-Some.entry)) (c.self.view_is ∙ put)
    ∙ given_back-is c.args.key.now entry (Some c.in-Some.entry) earlier rising (sym c.in-Some.is ∙ before)

pub unreachable-requires : goal.unreachable-requires
unreachable-requires g c =
    there_not_none (entry_at c.args.key.now c.args.self.now) c.requires
    (sym (found_in_order hashed_eq equal_keys c.new-sought.result c.args.key.now c.self.inside.rows.entries c.new-sought.ensures ∙ ap (entry_at c.args.key.now) c.self.view_is) ∙ c.in-Err.ensures.absent)
