use Rattle.std.proofs.Common.{◌≡◌, [], arith, ap, sym, ◌∙◌}
use Rattle.std.specs.Prelude.{slice_get}
use Rattle.tf_scan.specs.Place.{lists_left}
use Rattle.tf_scan.specs.Prefix.{prefix_of}
use Rattle.tf_scan.proofs.Moves.{HasMoved, moved-none, moved-run, moved-list, moved-rest, moved-full, moved-all, none-behind}
use Rattle.tf_scan.proofs.places.take_into.Given as given
use Rattle.tf_scan.proofs.places.take_into.Goals as goal

pub loop-taken-init : goal.loop-taken-init
loop-taken-init g c = record { right = c.requires.right; turn = c.requires.turn; moved = moved-none _ _ }

pub loop-taken-smaller : goal.loop-taken-smaller
loop-taken-smaller g c = omega (arith, c.take_some-to.ensures.moved.written.count)

pub loop-taken-preserved : goal.loop-taken-preserved
loop-taken-preserved g c =
    let run = c.take_some-to.ensures.moved in
    record {
      right = run.right;
      turn = c.take_some-to.ensures.turn;
      moved = moved-run _ _ _ _ _ c.loop-taken.invariant.moved run.ts _ _ _ run.front run.written;
    }

-- the last timestamps were moved
ended : (g : given.Over) (c : goal.Then-to-taken g)
    → HasMoved (prefix_of c.args.direction c.args.value (lists_left c.args.direction c.args.value c.args.places.now)) (prefix_of c.args.direction c.args.value (lists_left c.args.direction c.args.value c.take_some-to.new.places)) c.take_some-to.result c.args.out.now c.take_some-to.new.out
ended g c =
    let run = c.take_some-to.ensures.moved in
    moved-run _ _ _ _ _ c.loop-taken.invariant.moved run.ts _ _ _ run.front run.written

pub returns-then-to-taken-clause-count : goal.returns-then-to-taken-clause-count
returns-then-to-taken-clause-count g c =
    let run = c.take_some-to.ensures.moved in
    let left = prefix_of c.args.direction c.args.value (lists_left c.args.direction c.args.value c.take_some-to.new.places) in
    let none : left ≡ [] = none-behind run.ts left (sym (c.take_some-to.ensures.none (omega arith)) ∙ run.front) in
    moved-all _ _ _ _ _ (ended g c) (ap (λ ts. slice_get ts 0) (sym none))

pub returns-then-to-taken-clause-moved : goal.returns-then-to-taken-clause-moved
returns-then-to-taken-clause-moved g c = moved-list _ _ _ _ _ (ended g c)

pub returns-then-to-taken-clause-others : goal.returns-then-to-taken-clause-others
returns-then-to-taken-clause-others g c = moved-rest _ _ _ _ _ (ended g c)

pub returns-clause-count : goal.returns-clause-count
returns-clause-count g c = moved-full _ _ _ _ _ c.loop-taken.invariant.moved (omega arith)

pub returns-clause-moved : goal.returns-clause-moved
returns-clause-moved g c = moved-list _ _ _ _ _ c.loop-taken.invariant.moved

pub returns-clause-others : goal.returns-clause-others
returns-clause-others g c = moved-rest _ _ _ _ _ c.loop-taken.invariant.moved
