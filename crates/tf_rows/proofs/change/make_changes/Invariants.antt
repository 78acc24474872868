use Rattle.std.proofs.Common.{◌≡◌, drop, length}
use Rattle.tf_rows.specs.Changes.{AreSingle, CanChangeAll, all_changed, present}
use Rattle.tf_rows.specs.Packed.{AreAdded}
use Rattle.tf_rows.proofs.change.make_changes.Given as goal

abbrev pub invariant-loop-change : goal.invariant-loop-change
invariant-loop-change g l = record {
  single : AreSingle (present (drop l.change-index l.changes));
  can : CanChangeAll g.S.RowSet.has_row g.S.RowSet.fits g.S.RowSet.takes_any (present (drop l.change-index l.changes)) (g.S.RowSet.parts l.set);
  steps : AreAdded g.S.RowSet.has_row g.S.RowSet.fits g.S.RowSet.takes_any l.fn.steps l.steps (g.S.RowSet.parts l.fn.set) (g.S.RowSet.parts l.set);
  rows : all_changed (present (drop l.change-index l.changes)) (g.S.RowSet.parts l.set) ≡ all_changed (present l.changes) (g.S.RowSet.parts l.fn.set);
  from : l.from ≡ length l.fn.steps;
  sealed : g.S.RowSet.sealed l.set ≡ g.S.RowSet.sealed l.fn.set;
}
