use Rattle.std.proofs.Common.{◌≡◌, ◌≤◌, length, take, drop}
use Rattle.tf_rows.specs.Changes.{CanStepAll, all_stepped}
use Rattle.tf_rows.proofs.change.take_steps.Given as goal

abbrev pub invariant-loop-steps : goal.invariant-loop-steps
invariant-loop-steps g l = record {
  many : l.left ≤ length l.steps;
  can : CanStepAll g.S.RowSet.has_row g.S.RowSet.fits g.S.RowSet.takes_any (drop l.left l.steps) (g.S.RowSet.parts l.set);
  left : take l.left l.steps ≡ take l.left l.fn.steps;
  rows : all_stepped (drop l.left l.steps) (g.S.RowSet.parts l.set) ≡ all_stepped (drop l.left l.fn.steps) (g.S.RowSet.parts l.fn.set);
  sealed : g.S.RowSet.sealed l.set ≡ g.S.RowSet.sealed l.fn.set;
}

abbrev pub decreases-loop-steps : goal.decreases-loop-steps
decreases-loop-steps g l = length l.steps
