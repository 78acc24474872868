use Rattle.std.proofs.Common.{Some, None, ap, sym, ◌∙◌}
use Rattle.tf_mutable.specs.Mutable.{given_back}
use Rattle.tf_mutable.proofs.Logged.{given_back-is}
use Rattle.tf_mutable.proofs.mutable.TreeKeyOptionMutableTable.take_back.Goals as goal

pub returns-in-None-clause-restores : goal.returns-in-None-clause-restores
returns-in-None-clause-restores g c = λ earlier entry rising put before.
    c.remove.ensures.rows ∙ ap (given_back c.args.key.now None) put ∙ given_back-is c.args.key.now entry None earlier rising (sym c.in-None.is ∙ before)

pub returns-in-Ok-clause-restores : goal.returns-in-Ok-clause-restores
returns-in-Ok-clause-restores g c = λ earlier entry rising put before.
    c.in-Ok.ensures.ok ∙ ap (given_back c.args.key.now (Some c.in-Some.entry)) put ∙ given_back-is c.args.key.now entry (Some c.in-Some.entry) earlier rising (sym c.in-Some.is ∙ before)
