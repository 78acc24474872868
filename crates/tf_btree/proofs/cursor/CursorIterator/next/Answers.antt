use Rattle.tf_btree.proofs.Words.{◌≡◌, ◌<◌, ap, length, sym, ◌∙◌, arith, unboxed, rows_of, rows_after, rows_at}
use Rattle.tf_btree.specs.Cursor.{rows_left}
use Rattle.tf_btree.proofs.Steps.{step_on, refill}
use Rattle.tf_btree.proofs.cursor.CursorIterator.next.Goals as goal
use Rattle.tf_btree.proofs.cursor.CursorIterator.next.Goals.{then-self+in_ok-self-inside, else-self}

pub next_run-requires-clause-rising : goal.next_run-requires-clause-rising
next_run-requires-clause-rising g c = c.self.invariant.rising

pub next_run-requires-clause-filled : goal.next_run-requires-clause-filled
next_run-requires-clause-filled g c = c.self.invariant.filled

pub next_run-requires-clause-member : goal.next_run-requires-clause-member
next_run-requires-clause-member g c = c.self.invariant.member

pub returns-clause-steps : goal.returns-clause-steps
returns-clause-steps g c =
    let own = c.if-self.self-inside in
    let left : rows_left g.K.Ord.cmp own.root own.run.keys.now own.run.values.now own.at (unboxed own.run.leaves.now) own.run.further ≡ c.args.self.now = elim c.if-self.branch [
      | then-self+in_ok-self-inside w ↦ rw w.self-inside-is (refill _ _ _ _ _ _ _ _ _ _ _ _ w.in_ok-self-inside.ensures.some w.if-self.true c.self.view_is)
      | else-self w ↦ rw w.self-inside-is c.self.view_is
    ] in
    let place : (length own.run.keys.now ≡ length own.run.values.now) × (own.at < length own.run.keys.now) = elim c.if-self.branch [
      | then-self+in_ok-self-inside w ↦ let next = w.in_ok-self-inside.ensures.some in rw w.self-inside-is (next.same, next.some)
      | else-self w ↦ rw w.self-inside-is (c.self.invariant.same, omega (arith, w.if-self.false, c.self.invariant.within))
    ] in
    sym left ∙ step_on (rows_of (unboxed own.run.leaves.now)) (rows_after g.K.Ord.cmp own.run.further (rows_at own.root)) own.run.keys.now own.run.values.now own.at _ _ place.0 place.1

pub returns-clause-goes : goal.returns-clause-goes
returns-clause-goes g c =
    let long = ap length (returns-clause-steps g c) in
    record { on = λ ends. (tt, tt, omega (arith, long)); keeps = tt; rests = λ ends. tt }
