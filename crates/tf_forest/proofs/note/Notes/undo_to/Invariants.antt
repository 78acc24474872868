use Rattle.std.proofs.Common.{◌≡◌, ◌+◌, ◌≤◌, length, take}
use Rattle.tf_rows.specs.Spelled.{journal_in}
use Rattle.tf_forest.specs.Forest.{fresh_at_marks}
use Rattle.tf_forest.proofs.Notes.{IsUndone}
use Rattle.tf_forest.proofs.note.Notes.undo_to.Given as goal

abbrev pub invariant-loop-self : goal.invariant-loop-self
invariant-loop-self g l = record {
  undone : IsUndone g.S.RowSet.has_row g.S.RowSet.fits g.S.RowSet.takes_any (journal_in (g.S.RowSet.parts l.fn.rows)) (length l.fn.self) (g.S.RowSet.parts l.rows) l.self l.resident;
  left : l.left ≤ length l.self;
  marks : fresh_at_marks l.self (g.S.RowSet.parts l.rows) ≡ take (length l.self + 1) (fresh_at_marks l.fn.self (g.S.RowSet.parts l.fn.rows));
  sealed : g.S.RowSet.sealed l.rows ≡ g.S.RowSet.sealed l.fn.rows;
}

abbrev pub decreases-loop-self : goal.decreases-loop-self
decreases-loop-self g l = length l.self
