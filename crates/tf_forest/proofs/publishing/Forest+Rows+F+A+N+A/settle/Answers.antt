use Rattle.std.proofs.Common.{◌≡◌, ◌∙◌, ℕ, List, [], ◌∷◌, length, sym, ap, subst}
use Rattle.tf_journal.specs.declared.entry.Entry.{Entry}
use Rattle.tf_manifest.specs.View.{ShowsJournal}
use Rattle.tf_rows.specs.Counts.{IsReady, Sealed, settled}
use Rattle.tf_forest.specs.Forest.{Noted, View, fresh_at_marks}
use Rattle.tf_forest.proofs.Marks.{Fresh}
use Rattle.tf_rows.specs.Spelled.{journal_in}
use Rattle.tf_rows.specs.Nest.{IsTree, fits_row, has_each}
use Rattle.tf_rows.specs.Parts.{Entries, parts_of}
use Rattle.tf_publish.specs.Publish.{entries_waiting, tables_needed}
use Rattle.tf_publish.specs.Tables.{listed, nothing_fresh}
use Rattle.tf_forest.proofs.Notes.{all_kept, same_forest, same_journal}
use Rattle.tf_publish.proofs.PublishRows.{none_needed, none_waits}
use Rattle.tf_publish.proofs.Tables.{nothing_listed}
use Rattle.tf_forest.proofs.Refused.{logs_alone, values_alone}
use Rattle.tf_forest.proofs.publishing.Forest+Rows+F+A+N+A.settle.Goals as goal

pub settle-requires : goal.settle-requires
settle-requires g c = subst (λ (v : View). IsReady v.sealed c.args.prepared) (sym c.self.view_is) c.requires.ready

pub invariant_of-self : goal.invariant_of-self
invariant_of-self g c =
    let before : Entries = g.F.MutableRows.entries c.self.inside.rows.fresh in
    let after : Entries = g.F.MutableRows.entries c.clear.new.self in
    let old : Sealed = c.self.inside.rows.published in
    let new : Sealed = c.settle.new.self in
    let was : List Entry = journal_in (parts_of before old.tables) in
    let all : c.self.inside.kept ≡ length was =
    ap (λ (v : View). v.kept) c.self.view_is ∙ c.requires.kept ∙ ap (λ (v : View). length v.journal) (sym c.self.view_is) in
    let alone : ShowsJournal new.tables was =
    subst (λ (j : List Entry). ShowsJournal new.tables j) (sym (ap (λ (v : View). v.journal) c.self.view_is))
    (subst (λ (s : Sealed). ShowsJournal s.tables c.args.self.now.journal) (sym c.settle.ensures) c.requires.shows) in
    same_forest has_each fits_row IsTree c.rows_spell_the_journal_they_show.ensures (parts_of before old.tables) (parts_of after new.tables) c.self.inside.notes c.self.inside.kept c.self.inside.clock c.self.inside.floors c.self.inside.due c.self.inside.resident c.self.inside.used
    (values_alone after new.tables c.clear.ensures before old.tables was alone c.self.invariant.shows.shows) (logs_alone after new.tables c.clear.ensures) c.self.invariant all

pub returns : goal.returns
returns g c =
    let before : Entries = g.F.MutableRows.entries c.self.inside.rows.fresh in
    let after : Entries = g.F.MutableRows.entries c.clear.new.self in
    let old : Sealed = c.self.inside.rows.published in
    let new : Sealed = c.settle.new.self in
    let was : List Entry = journal_in (parts_of before old.tables) in
    let alone : ShowsJournal new.tables was =
    subst (λ (j : List Entry). ShowsJournal new.tables j) (sym (ap (λ (v : View). v.journal) c.self.view_is))
    (subst (λ (s : Sealed). ShowsJournal s.tables c.args.self.now.journal) (sym c.settle.ensures) c.requires.shows) in
    let journal : journal_in (parts_of after new.tables) ≡ was =
    same_journal c.rows_spell_the_journal_they_show.ensures (parts_of before old.tables) (parts_of after new.tables)
    (values_alone after new.tables c.clear.ensures before old.tables was alone c.self.invariant.shows.shows) c.self.invariant.shows in
    let all : c.self.inside.kept ≡ length was =
    ap (λ (v : View). v.kept) c.self.view_is ∙ c.requires.kept ∙ ap (λ (v : View). length v.journal) (sym c.self.view_is) in
    let none : c.self.inside.notes ≡ [] =
    all_kept has_each fits_row IsTree (parts_of before old.tables) c.self.inside.notes c.self.inside.kept c.self.inside.clock c.self.inside.floors c.self.inside.due c.self.inside.resident c.self.inside.used c.self.invariant all in
    let seen : List Entry → Sealed → Fresh → List Fresh → ℕ → ℕ → View = λ j s f ms n w. record { journal = j; sealed = s; fresh = f; marks = ms; needed = n; waiting = w; clock = c.self.inside.clock; kept = c.self.inside.kept } in
    ap (λ (j : List Entry). seen j new (listed after) (fresh_at_marks c.self.inside.notes (parts_of after new.tables)) (tables_needed after new.tables) (entries_waiting after)) journal
    ∙ ap (λ (ns : List Noted). seen was new (listed after) (fresh_at_marks ns (parts_of after new.tables)) (tables_needed after new.tables) (entries_waiting after)) none
    ∙ ap (λ (f : Fresh). seen was new f (f ∷ []) (tables_needed after new.tables) (entries_waiting after)) (nothing_listed after c.clear.ensures)
    ∙ ap (λ (n : ℕ). seen was new nothing_fresh (nothing_fresh ∷ []) n (entries_waiting after)) (none_needed after new.tables c.clear.ensures)
    ∙ ap (λ (n : ℕ). seen was new nothing_fresh (nothing_fresh ∷ []) 0 n) (none_waits after c.clear.ensures)
    ∙ ap (λ (s : Sealed). seen was s nothing_fresh (nothing_fresh ∷ []) 0 0) c.settle.ensures
    ∙ ap (λ (v : View). record v { sealed = settled c.args.prepared v.sealed; fresh = nothing_fresh; marks = nothing_fresh ∷ []; needed = 0; waiting = 0 }) c.self.view_is
