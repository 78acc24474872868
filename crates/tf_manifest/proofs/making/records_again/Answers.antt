use Rattle.std.proofs.Common.{IfSome, subst}
use Rattle.tf_manifest.specs.Halves.{AreRecords}
use Rattle.tf_manifest.specs.View.{View}
use Rattle.tf_manifest.specs.Fields.{view_of}
use Rattle.tf_manifest.proofs.Halves.{records}
use Rattle.tf_manifest.proofs.making.records_again.Goals as goal

pub returns : goal.returns
returns g c =
    subst (λ (v : View). IfSome c.four.result (AreRecords v)) c.manifest.view_is
    (records (view_of c.manifest.inside) c.rows_again-stamps.result c.rows_again-accounts.result c.rows_again-transfers.result c.rows_again-ids.result c.four.result
    c.rows_again-stamps.ensures c.rows_again-accounts.ensures c.rows_again-transfers.ensures c.rows_again-ids.ensures c.four.ensures)
