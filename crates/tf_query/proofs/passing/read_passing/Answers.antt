use Rattle.std.proofs.Common.{◌≡◌, ◌<◌, ◌≤◌, ◌∙◌, ℕ, ap, arith, inl, inr, length, subst, sym, vec_capacity}
use Rattle.std.proofs.lemmas.List.{length-take-le}
use Rattle.tf_scan.specs.declared.direction.Direction.{Direction}
use Rattle.tf_query.specs.Reading.{AreFrom}
use Rattle.tf_query.proofs.Reading.{part-in}
use Rattle.tf_query.proofs.Testing.{left-behind, tested-all, tested-first, tested-next}
use Rattle.tf_query.proofs.passing.read_passing.Goals as goal
use Rattle.tf_query.proofs.passing.read_passing.Goals.{else-loop-count-test, then-loop-count-test+else-len-window}

-- the room is enough for what was read, and no more than a window has
roomy : (count asked most room : ℕ) → count ≤ asked → asked ≤ most → (count < asked → room ≡ count) → (asked ≤ count → room ≡ most) → (count ≤ room) × (room ≤ most)
roomy count asked most room inside within few many = (grind arith, grind arith)

pub read_part-count-requires : goal.read_part-count-requires
read_part-count-requires g c = subst (λ (d : Direction). AreFrom d c.args.window.now c.seek_first.new.scan.left) (sym c.seek_first.ensures.direction) c.seek_first.ensures.from

pub slice_bounds-push_passing-end : goal.slice_bounds-push_passing-end
slice_bounds-push_passing-end g c = sym (length-take-le c.read_part-count.result _ c.read_part-count.ensures.part.inside)

pub push_passing-requires-clause-few : goal.push_passing-requires-clause-few
push_passing-requires-clause-few g c = omega (arith, ap length c.in-Ok.ensures.empty, c.in-Ok.rows.ok.0)

pub push_passing-requires-clause-room : goal.push_passing-requires-clause-room
push_passing-requires-clause-room g c =
    let long = length-take-le c.read_part-count.result _ c.read_part-count.ensures.part.inside in
    let part = part-in _ _ c.args.window.now c.min-asked.result c.read_part-count.result _ _ _ c.seek_first.ensures.direction c.read_part-count.ensures.part in
    let enough = roomy c.read_part-count.result c.min-asked.result c.args.window.now.most (vec_capacity c.in-Ok.rows) part.few (omega arith) c.in-Ok.ensures.few c.in-Ok.ensures.many in
    omega (arith, long, ap length c.in-Ok.ensures.empty, c.in-Ok.rows.ok.0, enough.0)

pub read_part-count-requires-in-loop-count : goal.read_part-count-requires-in-loop-count
read_part-count-requires-in-loop-count g c = subst (λ (d : Direction). AreFrom d c.args.window.now c.loop-count.scan.left) (sym c.loop-count.invariant.direction) c.loop-count.invariant.tested.left_from

pub slice_bounds-push_passing-end-in-loop-count : goal.slice_bounds-push_passing-end-in-loop-count
slice_bounds-push_passing-end-in-loop-count g c = sym (length-take-le c.read_part-count-in-loop-count.result _ c.read_part-count-in-loop-count.ensures.part.inside)

pub push_passing-requires-in-loop-count-clause-few : goal.push_passing-requires-in-loop-count-clause-few
push_passing-requires-in-loop-count-clause-few g c = omega (arith, c.loop-count.rows.ok.0, c.loop-count.invariant.tested.few)

pub push_passing-requires-in-loop-count-clause-room : goal.push_passing-requires-in-loop-count-clause-room
push_passing-requires-in-loop-count-clause-room g c = omega (arith, c.loop-count.invariant.enough c.loop-count-test.true)

pub loop-count-smaller : goal.loop-count-smaller
loop-count-smaller g c = omega (arith, left-behind _ _ _ _ _ _ _ c.read_part-count-in-loop-count.ensures.part)

pub returns-clause-ok : goal.returns-clause-ok
returns-clause-ok g c =
    let tested = c.loop-count.invariant.tested in
    tested-all _ _ _ _ _ _ _ _ _ tested (elim c.loop-count-test.branch [
      | then-loop-count-test+else-len-window w ↦ inr (omega (arith, w.len.ensures, w.if-len-window.false))
      | else-loop-count-test w ↦ inl (omega (arith, tested.inside, w.loop-count-test.false))
    ])

pub returns-clause-in_order : goal.returns-clause-in_order
returns-clause-in_order g c = c.seek_first.ensures.in_order

pub returns-clause-room : goal.returns-clause-room
returns-clause-room g c = c.loop-count.invariant.room

pub returns-clause-refusal : goal.returns-clause-refusal
returns-clause-refusal g c = tt

pub loop-count-init : goal.loop-count-init
loop-count-init g c =
    let part = part-in _ _ c.args.window.now c.min-asked.result c.read_part-count.result _ _ _ c.seek_first.ensures.direction c.read_part-count.ensures.part in
    record {
      direction = c.read_part-count.ensures.direction ∙ c.seek_first.ensures.direction;
      tested = tested-first c.args.manifest.now c.args.residual.now _ c.args.window.now _ _ _ _ _ _ _ _ c.seek_first.ensures.same c.in-Ok.ensures.empty part (omega arith) c.push_passing.ensures.items;
      room = omega (arith, c.push_passing.ensures.room, (roomy c.read_part-count.result c.min-asked.result c.args.window.now.most (vec_capacity c.in-Ok.rows) part.few (omega arith) c.in-Ok.ensures.few c.in-Ok.ensures.many).1);
      enough = λ e. c.push_passing.ensures.room ∙ c.in-Ok.ensures.many (omega (arith, e));
    }

pub loop-count-preserved : goal.loop-count-preserved
loop-count-preserved g c =
    let part = part-in _ _ c.args.window.now c.min-asked.result c.read_part-count-in-loop-count.result _ _ _ c.loop-count.invariant.direction c.read_part-count-in-loop-count.ensures.part in
    record {
      direction = c.read_part-count-in-loop-count.ensures.direction ∙ c.loop-count.invariant.direction;
      tested = tested-next c.args.manifest.now c.args.residual.now _ c.args.window.now c.loop-count.count _ _ _ _ _ _ _ _ c.loop-count.invariant.tested part (omega arith) c.push_passing-in-loop-count.ensures.items;
      room = omega (arith, c.push_passing-in-loop-count.ensures.room, c.loop-count.invariant.room);
      enough = λ e. c.push_passing-in-loop-count.ensures.room ∙ c.loop-count.invariant.enough c.loop-count-test.true;
    }
