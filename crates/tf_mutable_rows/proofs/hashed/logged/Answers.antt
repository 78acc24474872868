use Rattle.std.proofs.Common.{[], ◌∷◌, ◌++◌, Option, ap, ◌∙◌}
use Rattle.tf_table.specs.Content.{entry_at}
use Rattle.tf_mutable.specs.Mutable.{in_order}
use Rattle.tf_mutable_rows.specs.Hashed.{keyed}
use Rattle.tf_mutable_rows.specs.declared.hashed.HashedKey.{HashedKey}
use Rattle.tf_mutable_rows.proofs.Hashing.{absent_so_far, equal_keys, hashed_eq, one_more_logged, walked, walked_all}
use Rattle.tf_mutable_rows.proofs.hashed.logged.Goals as goal

pub loop-hashed-init : goal.loop-hashed-init
loop-hashed-init g c = ([], (c.into_iter-hashed-iterator.ensures.into_iter_gives ∙ c.iter-hashed-items.ensures.rest, c.new_in-log.ensures))

pub put-requires : goal.put-requires
put-requires g c =
    let row : HashedKey × Option g.row.V.Denot = (c.in-Some.hashed.now, c.in-Some.entry.now) in
    ap (λ key. entry_at key c.loop-hashed.log) c.key.ensures
    ∙ absent_so_far hashed_eq equal_keys c.loop-hashed.invariant.0 row c.loop-hashed.hashed-iterator c.next.new.self c.args.rows.now.entries c.loop-hashed.log c.iter-hashed-items.ensures.unique c.in-Some.ensures.steps c.loop-hashed.invariant.1.0 c.loop-hashed.invariant.1.1

pub loop-hashed-preserved : goal.loop-hashed-preserved
loop-hashed-preserved g c =
    let seen = c.loop-hashed.invariant.0 in
    let row : HashedKey × Option g.row.V.Denot = (c.in-Some.hashed.now, c.in-Some.entry.now) in
    let absent = absent_so_far hashed_eq equal_keys seen row c.loop-hashed.hashed-iterator c.next.new.self c.args.rows.now.entries c.loop-hashed.log c.iter-hashed-items.ensures.unique c.in-Some.ensures.steps c.loop-hashed.invariant.1.0 c.loop-hashed.invariant.1.1 in (
      seen ++ row ∷ [],
      (
        walked seen row c.loop-hashed.hashed-iterator c.next.new.self c.args.rows.now.entries c.in-Some.ensures.steps c.loop-hashed.invariant.1.0,
        one_more_logged seen row c.key.result c.loop-hashed.log c.put.new.self c.key.ensures absent c.loop-hashed.invariant.1.1 c.in_ok-put.ensures.rows,
      ),
    )

pub returns-clause-rows : goal.returns-clause-rows
returns-clause-rows g c =
    c.loop-hashed.invariant.1.1
    ∙ ap (λ rows. in_order (keyed rows)) (walked_all c.loop-hashed.invariant.0 c.loop-hashed.hashed-iterator c.args.rows.now.entries c.in-None.ensures.steps.0 c.loop-hashed.invariant.1.0)
