use Rattle.tf_rows.specs.Record.{record_changes}
use Rattle.tf_rows.proofs.Recorded.{recorded, refused_at_once}
use Rattle.tf_rows.proofs.change.make_record.Goals as goal

pub returns-in-Ok-clause-made : goal.returns-in-Ok-clause-made
returns-in-Ok-clause-made g c =
    recorded g.S.RowSet.has_row g.S.RowSet.fits g.S.RowSet.takes_any c.note_record.result c.args.transfer.now
    (g.S.RowSet.parts c.args.set.now) (g.S.RowSet.parts c.put_transfer.new.self) (g.S.RowSet.parts c.note_record.new.set) c.args.steps.now c.note_record.new.steps
    c.in-Ok.ensures.put c.in-Ok.ensures.there c.in-Ok.ensures.restores c.note_record.ensures.ok c.note_record.ensures.err c.note_record.ensures.refusal

pub returns-in-Err-clause-made : goal.returns-in-Err-clause-made
returns-in-Err-clause-made g c =
    refused_at_once g.S.RowSet.has_row g.S.RowSet.fits g.S.RowSet.takes_any (record_changes c.args.transfer.now) c.in-Err.refusal c.args.steps.now
    (g.S.RowSet.parts c.args.set.now) (g.S.RowSet.parts c.put_transfer.new.self) c.in-Err.ensures.err c.in-Err.ensures.refusal
