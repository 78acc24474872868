use Rattle.std.proofs.Common.{◌≡◌, ◌+◌, ◌-◌, ◌∙◌, List, [], ◌∷◌, Some, length, ap, subst, sym, arith}
use Rattle.std.specs.Prelude.{slice_get}
use Rattle.tf_forest.proofs.Marks.{marks_present}
use Rattle.tf_forest.proofs.Notes.{all_kept}
use Rattle.tf_rows.specs.Spelled.{journal_in}
use Rattle.tf_forest.specs.Forest.{Noted, View, fresh_at_marks}
use Rattle.tf_rows.specs.Parts.{fresh_in}
use Rattle.tf_publish.specs.Tables.{Waits}
use Rattle.tf_publish.proofs.Tables.{listed_waits}
use Rattle.tf_forest.proofs.forest.Forest.facts.Goals as goal

pub returns-clause-waits : goal.returns-clause-waits
returns-clause-waits g c =
    subst (λ (v : View). Waits v.fresh v.sealed.tables v.needed v.waiting) c.self.view_is
    (listed_waits (fresh_in (g.S.RowSet.parts c.self.inside.rows)) (g.S.RowSet.sealed c.self.inside.rows).tables)

pub returns-clause-present : goal.returns-clause-present
returns-clause-present g c =
    let rows = g.S.RowSet.parts c.self.inside.rows in
    let count : length (journal_in rows) ≡ c.self.inside.kept + length c.self.inside.notes = c.self.invariant.count in
    let own : length (journal_in rows) - c.self.inside.kept ≡ length c.self.inside.notes = omega (arith, count) in
    subst (λ (v : View). slice_get v.marks (length v.journal - v.kept) ≡ Some v.fresh) c.self.view_is
    (ap (slice_get (fresh_at_marks c.self.inside.notes rows)) own ∙ marks_present c.self.inside.notes rows)

pub returns-clause-at_rest : goal.returns-clause-at_rest
returns-clause-at_rest g c = λ all.
    let rows = g.S.RowSet.parts c.self.inside.rows in
    let own : c.self.inside.kept ≡ length (journal_in rows) =
    ap (λ (v : View). v.kept) c.self.view_is ∙ all ∙ ap (λ (v : View). length v.journal) (sym c.self.view_is) in
    let none : c.self.inside.notes ≡ [] =
    all_kept g.S.RowSet.has_row g.S.RowSet.fits g.S.RowSet.takes_any rows c.self.inside.notes c.self.inside.kept c.self.inside.clock c.self.inside.floors c.self.inside.due c.self.inside.resident c.self.inside.used c.self.invariant own in
    subst (λ (v : View). v.marks ≡ v.fresh ∷ []) c.self.view_is (ap (λ (notes : List Noted). fresh_at_marks notes rows) none)
