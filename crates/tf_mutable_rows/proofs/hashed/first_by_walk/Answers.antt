use Rattle.std.proofs.Common.{[], ◌∷◌, ◌++◌, List, Option, refl, ap, sym, ◌∙◌, subst}
use Rattle.std.specs.Ordering.{is_gt}
use Rattle.tf_table.specs.Content.{entry_at}
use Rattle.tf_table.specs.First.{IsFirstAbove}
use Rattle.tf_mutable_rows.specs.Hashed.{keyed}
use Rattle.tf_mutable_rows.specs.declared.hashed.HashedKey.{HashedKey}
use Rattle.tf_mutable_rows.proofs.Hashing.{one_more_above, one_more_other, walked, walked_all}
use Rattle.tf_mutable_rows.proofs.hashed.first_by_walk.Goals as goal

pub loop-hashed-init : goal.loop-hashed-init
loop-hashed-init g c = ([], (c.into_iter-hashed-iterator.ensures.into_iter_gives ∙ c.iter-hashed-items.ensures.rest, λ key above. refl))

pub loop-hashed-preserved-then-is_gt : goal.loop-hashed-preserved-then-is_gt
loop-hashed-preserved-then-is_gt g c =
    let seen = c.loop-hashed.invariant.0 in
    let row : HashedKey × Option g.row.V.Denot = (c.in-Some.hashed.now, c.in-Some.field-0-1.now) in (
      seen ++ row ∷ [],
      (
        walked seen row c.loop-hashed.hashed-iterator c.next.new.self c.args.rows.now.entries c.in-Some.ensures.steps c.loop-hashed.invariant.1.0,
        one_more_above c.args.key.now seen row c.key-row.result c.loop-hashed.first c.lesser-first.result c.key-row.ensures (sym (ap is_gt c.cmp.ensures) ∙ sym c.is_gt.ensures ∙ c.if-is_gt.true) c.lesser-first.ensures c.loop-hashed.invariant.1.1,
      ),
    )

pub loop-hashed-preserved : goal.loop-hashed-preserved
loop-hashed-preserved g c =
    let seen = c.loop-hashed.invariant.0 in
    let row : HashedKey × Option g.row.V.Denot = (c.in-Some.hashed.now, c.in-Some.field-0-1.now) in (
      seen ++ row ∷ [],
      (
        walked seen row c.loop-hashed.hashed-iterator c.next.new.self c.args.rows.now.entries c.in-Some.ensures.steps c.loop-hashed.invariant.1.0,
        one_more_other c.args.key.now seen row c.key-row.result c.loop-hashed.first c.key-row.ensures (sym (ap is_gt c.cmp.ensures) ∙ sym c.is_gt.ensures ∙ c.if-is_gt.false) c.loop-hashed.invariant.1.1,
      ),
    )

pub returns : goal.returns
returns g c =
    let seen = c.loop-hashed.invariant.0 in
    subst (λ (rows : List (HashedKey × Option g.row.V.Denot)). IsFirstAbove c.args.key.now (λ found. entry_at found (keyed rows)) c.loop-hashed.first)
    (walked_all seen c.loop-hashed.hashed-iterator c.args.rows.now.entries c.in-None.ensures.steps.0 c.loop-hashed.invariant.1.0)
    c.loop-hashed.invariant.1.1
