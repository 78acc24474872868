use Rattle.std.proofs.Common.{◌≡◌, ◌∙◌, ℕ, List, [], ◌∷◌, sym, ap, subst}
use Rattle.tf_manifest.specs.declared.row.Row.{Row}
use Rattle.tf_rows.specs.DueSet.{Keys}
use Rattle.tf_rows.specs.Nest.{AreEmpty}
use Rattle.tf_rows.specs.Parts.{Part, Parts, fresh_in}
use Rattle.tf_publish.proofs.PublishRows.{none_needed, none_waits}
use Rattle.tf_publish.proofs.Tables.{nothing_listed}
use Rattle.tf_forest.specs.Forest.{IsForest, Noted, fresh_at_marks}
use Rattle.tf_rows.specs.declared.found.Party.{Party}
use Rattle.tf_forest.proofs.Marks.{Fresh}
use Rattle.tf_forest.proofs.Notes.{empty_forest, empty_journal}
use Rattle.tf_forest.proofs.forest.Forest.new.Goals as goal

pub invariant_of-result : goal.invariant_of-result
invariant_of-result g c =
    let rows : Parts = g.S.RowSet.parts c.args.rows in
    let IsNew : List Noted → Keys → List (ℕ × Party) → Type 0
    = λ notes due held. IsForest g.S.RowSet.has_row g.S.RowSet.fits g.S.RowSet.takes_any rows notes 0 0 c.new-2.result due held c.new-5.result in
    subst (IsNew c.new.result c.new-3.result) (sym c.new-4.ensures)
    (subst (λ (due : Keys). IsNew c.new.result due []) (sym c.new-3.ensures)
    (subst (λ (notes : List Noted). IsNew notes [] []) (sym c.new.ensures)
    (empty_forest g.S.RowSet.has_row g.S.RowSet.fits g.S.RowSet.takes_any c.rows_spell_the_journal_they_show.ensures rows c.requires c.new-2.result c.new-2.ensures c.new-5.result c.new-5.ensures)))

pub returns-clause-journal : goal.returns-clause-journal
returns-clause-journal g c =
    empty_journal c.rows_spell_the_journal_they_show.ensures (g.S.RowSet.parts c.args.rows) c.requires

none_fresh : (rows : Parts) → AreEmpty rows → (r : Row) → fresh_in rows r ≡ []
none_fresh rows empty r = ap (λ (part : Part). part.fresh) (empty r)

pub returns-clause-fresh : goal.returns-clause-fresh
returns-clause-fresh g c =
    let rows : Parts = g.S.RowSet.parts c.args.rows in
    let nothing = nothing_listed (fresh_in rows) (none_fresh rows c.requires) in
    (nothing, ap (λ (notes : List Noted). fresh_at_marks notes rows) c.new.ensures ∙ ap (λ (fresh : Fresh). fresh ∷ []) nothing)

pub returns-clause-nothing : goal.returns-clause-nothing
returns-clause-nothing g c =
    let rows : Parts = g.S.RowSet.parts c.args.rows in
    let none = none_fresh rows c.requires in
    (none_needed (fresh_in rows) (g.S.RowSet.sealed c.args.rows).tables none, none_waits (fresh_in rows) none)
