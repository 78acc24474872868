use Rattle.tf_btree.proofs.Words.{◌≡◌, ◌≤◌, ◌+◌, ◌-◌, ap, length, sym, ◌∙◌, arith, rows_left_back, unboxed, rows_of, rows_at, rows_before}
use Rattle.tf_btree.proofs.Within.{back_step, back_refill}
use Rattle.tf_btree.proofs.back_cursor.BackCursorIterator.next.Goals as goal
use Rattle.tf_btree.proofs.back_cursor.BackCursorIterator.next.Goals.{then-self-eq0+in_ok-self-inside, else-self-eq0}

pub run_before-requires-clause-rising : goal.run_before-requires-clause-rising
run_before-requires-clause-rising g c = c.self.invariant.rising

pub run_before-requires-clause-filled : goal.run_before-requires-clause-filled
run_before-requires-clause-filled g c = c.self.invariant.filled

pub run_before-requires-clause-more : goal.run_before-requires-clause-more
run_before-requires-clause-more g c = c.self.invariant.more

pub returns-clause-steps : goal.returns-clause-steps
returns-clause-steps g c =
    let own = c.if-self-eq0.self-inside in
    let left : rows_left_back g.K.Ord.cmp own.root own.run.keys.now own.run.values.now own.at (unboxed own.run.leaves.now) own.run.further ≡ c.args.self.now = elim c.if-self-eq0.branch [
      | then-self-eq0+in_ok-self-inside w ↦ rw w.self-inside-is (back_refill _ _ _ _ _ _ _ _ _ _ _ _ w.in_ok-self-inside.ensures.some w.if-self-eq0.true c.self.view_is)
      | else-self-eq0 w ↦ rw w.self-inside-is c.self.view_is
    ] in
    let place : (length own.run.keys.now ≡ length own.run.values.now) × (own.at ≡ own.at - 1 + 1) × (own.at ≤ length own.run.keys.now) = elim c.if-self-eq0.branch [
      | then-self-eq0+in_ok-self-inside w ↦ let next = w.in_ok-self-inside.ensures.some in rw w.self-inside-is (next.same, omega (arith, next.some), omega arith)
      | else-self-eq0 w ↦ rw w.self-inside-is (c.self.invariant.same, omega (arith, w.if-self-eq0.false), c.self.invariant.within)
    ] in
    sym left ∙ back_step (rows_before g.K.Ord.cmp own.run.further (rows_at own.root)) (rows_of (unboxed own.run.leaves.now)) own.run.keys.now own.run.values.now own.at (own.at - 1) _ _ place.0 place.1 place.2

pub returns-clause-goes : goal.returns-clause-goes
returns-clause-goes g c =
    let long = ap length (returns-clause-steps g c) in
    record { on = λ ends. (tt, tt, omega (arith, long)); keeps = tt; rests = λ ends. tt }
