use Rattle.std.proofs.Common.{List, length}
use Rattle.tf_journal.specs.declared.entry.Entry.{Entry}
use Rattle.tf_manifest.specs.Shows.{Shows}
use Rattle.tf_rows.specs.DueSet.{AreHeld}
use Rattle.tf_rows.specs.Next.{content_in}
use Rattle.tf_rows.proofs.due_set.DueSet.sweep.Given as goal

abbrev pub invariant-loop-key : goal.invariant-loop-key
invariant-loop-key g l = (journal : List Entry) → Shows (content_in (g.S.RowSet.parts l.rows)) journal → AreHeld l.fn.self journal → AreHeld l.self-inside.keys journal

abbrev pub decreases-loop-key : goal.decreases-loop-key
decreases-loop-key g l = length l.self-inside.touched.items
