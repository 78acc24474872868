use Rattle.std.proofs.Common.{◌∙◌, sym, arith}
use Rattle.tf_query.proofs.Reading.{all-more, some-at}
use Rattle.tf_query.proofs.timestamps.count_within.Goals as goal

pub loop-place-preserved : goal.loop-place-preserved
loop-place-preserved c = all-more _ c.loop-place.place c.args.timestamps.now _ (omega arith) c.loop-place.invariant (sym c.contains.ensures ∙ c.if-not-contains.false)

pub returns-then-not-contains-clause-outside : goal.returns-then-not-contains-clause-outside
returns-then-not-contains-clause-outside c = some-at _ c.loop-place.place c.args.timestamps.now _ (omega arith) (sym c.contains.ensures ∙ c.if-not-contains.true)
