use Rattle.std.proofs.Common.{◌∙◌, ap}
use Rattle.tf_manifest.specs.View.{View, content_in}
use Rattle.tf_publish.proofs.Sealed.{found_fresh, found_sealed}
use Rattle.tf_publish.proofs.rows.RowsRowSet.find.Goals as goal

pub returns-in-Some : goal.returns-in-Some
returns-in-Some g c = found_fresh (g.F.MutableRows.entries c.args.self.now.fresh) c.args.self.now.published.tables c.args.row c.args.key.now c.in-Some.entry c.in-Some.ensures

pub returns-in-None : goal.returns-in-None
returns-in-None g c = c.find.ensures ∙ ap (λ (v : View). content_in v c.args.row c.args.key.now) c.manifest.ensures ∙ found_sealed (g.F.MutableRows.entries c.args.self.now.fresh) c.args.self.now.published.tables c.args.row c.args.key.now c.in-None.ensures
