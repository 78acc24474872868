use Rattle.std.proofs.Common.{◌≡◌, ◌+◌, ◌∙◌, OnOk, sym, ap, subst, length}
use Rattle.std.specs.Prelude.{IfErr}
use Rattle.tf_registry.specs.Install.{OnStale}
use Rattle.tf_manifest.specs.Jobs.{StandsIn, output_of}
use Rattle.tf_manifest.specs.View.{View as Tables, content_in}
use Rattle.tf_forest.specs.Forest.{View}
use Rattle.tf_rows.specs.Spelled.{journal_in}
use Rattle.tf_rows.specs.Nest.{IsTree, fits_row, has_each}
use Rattle.tf_rows.specs.Parts.{Parts, parts_of}
use Rattle.tf_forest.proofs.Notes.{same_forest, same_journal}
use Rattle.tf_publish.proofs.Sealed.{same_in_front}
use Rattle.tf_forest.proofs.compaction.Forest+Rows+F+A+N+A.install.Goals as goal

pub invariant_of-self : goal.invariant_of-self
invariant_of-self g c =
    let fresh = g.F.MutableRows.entries c.self.inside.rows.fresh in
    let old : Parts = parts_of fresh c.self.inside.rows.published.tables in
    let new : Parts = parts_of fresh c.install.new.self.tables in
    let all : c.self.inside.kept ≡ length (journal_in old) =
    ap (λ (v : View). v.kept) c.self.view_is ∙ c.requires ∙ ap (λ (v : View). length v.journal) (sym c.self.view_is) in
    same_forest has_each fits_row IsTree c.rows_spell_the_journal_they_show.ensures old new c.self.inside.notes c.self.inside.kept c.self.inside.clock c.self.inside.floors c.self.inside.due c.self.inside.resident c.self.inside.used
    (same_in_front fresh c.self.inside.rows.published.tables c.install.new.self.tables c.install.ensures.content) c.self.invariant.shows.values c.self.invariant all

pub returns-clause-journal : goal.returns-clause-journal
returns-clause-journal g c =
    let fresh = g.F.MutableRows.entries c.self.inside.rows.fresh in
    let old : Parts = parts_of fresh c.self.inside.rows.published.tables in
    let new : Parts = parts_of fresh c.install.new.self.tables in
    same_journal c.rows_spell_the_journal_they_show.ensures old new
    (same_in_front fresh c.self.inside.rows.published.tables c.install.new.self.tables c.install.ensures.content) c.self.invariant.shows
    ∙ ap (λ (v : View). v.journal) c.self.view_is

pub returns-clause-content : goal.returns-clause-content
returns-clause-content g c = λ row key.
    c.install.ensures.content row key ∙ ap (λ (v : View). content_in v.sealed.tables row key) c.self.view_is

pub returns-clause-stale : goal.returns-clause-stale
returns-clause-stale g c =
    subst (λ (tables : Tables). IfErr c.install.result (λ e. OnStale e (StandsIn tables c.args.merged → ⊥)))
    (ap (λ (v : View). v.sealed.tables) c.self.view_is) c.install.ensures.stale

pub returns-clause-counts : goal.returns-clause-counts
returns-clause-counts g c =
    let n = length (output_of c.args.merged).table.rows in
    subst (λ (v : View). OnOk c.install.result (c.install.new.self.counts ≡ record v.sealed.counts { rows_held = v.sealed.counts.rows_held + n })) c.self.view_is c.install.ensures.counts

pub returns-clause-entries : goal.returns-clause-entries
returns-clause-entries g c = (ap (λ (v : View). v.fresh) c.self.view_is, ap (λ (v : View). v.waiting) c.self.view_is)
