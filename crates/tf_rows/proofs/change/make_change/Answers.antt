use Rattle.tf_rows.proofs.Made.{noted}
use Rattle.tf_rows.proofs.change.make_change.Goals as goal

pub returns-in-Ok-clause-steps : goal.returns-in-Ok-clause-steps
returns-in-Ok-clause-steps g c =
    noted g.S.RowSet.has_row g.S.RowSet.fits g.S.RowSet.takes_any c.note.result c.args.change.now.row c.args.change.now.key c.in-Ok.before c.args.change.now.value
    (g.S.RowSet.parts c.args.set.now) (g.S.RowSet.parts c.put.new.self) (g.S.RowSet.parts c.note.new.set) c.args.steps.now c.note.new.steps
    c.requires.single c.requires.can.held c.in-Ok.ensures.kind c.in-Ok.ensures.put c.note.ensures.ok
