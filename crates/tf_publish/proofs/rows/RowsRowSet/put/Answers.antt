use Rattle.std.proofs.Common.{ap}
use Rattle.std.proofs.lemmas.Result.{IfOk-weaker}
use Rattle.tf_manifest.proofs.Maps.{on_err}
use Rattle.tf_rows.specs.Parts.{Entries, parts_of}
use Rattle.tf_publish.proofs.Sealed.{put_in_front}
use Rattle.tf_publish.proofs.rows.RowsRowSet.put.Goals as goal

pub returns-clause-put : goal.returns-clause-put
returns-clause-put g c =
    IfOk-weaker c.put.result _ _
    (λ before puts. put_in_front c.args.self.now.published.tables c.args.row c.args.key c.args.entry.now before (g.F.MutableRows.entries c.args.self.now.fresh) (g.F.MutableRows.entries c.put.new.self) puts)
    c.put.ensures.put

pub returns-clause-err : goal.returns-clause-err
returns-clause-err g c =
    on_err c.put.result _ _ (λ same. ap (λ (fresh : Entries). parts_of fresh c.args.self.now.published.tables) same) c.put.ensures.err
