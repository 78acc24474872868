use Rattle.std.proofs.Common.{◌≡◌, ◌+◌, ◌∙◌, length, OnOk, ap, subst}
use Rattle.std.specs.Prelude.{IfErr}
use Rattle.tf_registry.specs.Install.{OnStale}
use Rattle.tf_manifest.specs.Jobs.{StandsIn, output_of}
use Rattle.tf_manifest.specs.View.{content_in}
use Rattle.tf_rows.specs.Counts.{Sealed}
use Rattle.tf_publish.proofs.Bounds.{installed_counts, publishes_stay, the_counts}
use Rattle.tf_publish.proofs.published.Published.install.Goals as goal

pub invariant_of-self : goal.invariant_of-self
invariant_of-self g c =
    publishes_stay {A = g.row.A.Denot} {N = g.row.N.Denot} c.self.inside.tables c.install.new.self c.args.merged c.self.inside.publishes c.install.result c.install.ensures.installs c.install.ensures.err c.self.invariant

pub returns-clause-counts : goal.returns-clause-counts
returns-clause-counts g c =
    let n = length (output_of c.args.merged).table.rows in
    let new = the_counts c.install.new.self.sealed c.install.new.self.held c.self.inside.publishes in
    subst (λ (s : Sealed). OnOk c.install.result (new ≡ record s.counts { rows_held = s.counts.rows_held + n })) c.self.view_is
    (installed_counts c.self.inside.tables c.install.new.self c.self.inside.publishes n c.install.result c.install.ensures.held c.install.ensures.sealed)

pub returns-clause-content : goal.returns-clause-content
returns-clause-content g c = λ row key. c.install.ensures.content row key ∙ ap (λ (s : Sealed). content_in s.tables row key) c.self.view_is

pub returns-clause-stale : goal.returns-clause-stale
returns-clause-stale g c = subst (λ (s : Sealed). IfErr c.install.result (λ e. OnStale e (StandsIn s.tables c.args.merged → ⊥))) c.self.view_is c.install.ensures.stale
