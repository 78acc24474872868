use Rattle.std.proofs.Common.{◌+◌, sym, ap, Some, ◌∙◌, arith}
use Rattle.tf_registry.proofs.Maps.{read_at, read_one}
use Rattle.tf_registry.proofs.Picks.{some_same}
use Rattle.tf_registry.proofs.place.confirm.Goals as goal

pub agree-requires-clause-same : goal.agree-requires-clause-same
agree-requires-clause-same g c =
    some_same (sym (read_at _ c.args.references.now c.args.at c.index-references-at.result (omega (arith, c.requires.within)) c.index-references-at.is) ∙ c.requires.first)

pub agree-requires-2-clause-same : goal.agree-requires-2-clause-same
agree-requires-2-clause-same g c =
    some_same (sym (read_at _ c.args.references.now (c.args.at + 1) c.index-references-at-2.result c.requires.within c.index-references-at-2.is) ∙ c.requires.second)

pub returns-clause-first : goal.returns-clause-first
returns-clause-first g c =
    read_one c.args.references.now c.args.at c.index-references-at.result (omega (arith, c.requires.within)) c.index-references-at.is ∙ ap Some c.agree.ensures

pub returns-clause-second : goal.returns-clause-second
returns-clause-second g c =
    read_one c.args.references.now (c.args.at + 1) c.index-references-at-2.result c.requires.within c.index-references-at-2.is ∙ ap Some c.agree-2.ensures
