use Rattle.std.proofs.Common.{◌≡◌, ◌+◌, List, length, refl, sym, ◌∙◌, ap, subst, Option, Some, None, Result, Ok, Err, IfOk}
use Rattle.std.specs.Prelude.{IfNone, IfSome}
use Rattle.tf_journal.specs.declared.entry.Entry.{Entry}
use Rattle.tf_rows.specs.Counts.{Counted, Sealed, counted}
use Rattle.tf_forest.specs.Forest.{View, fresh_at_marks}
use Rattle.tf_rows.specs.Spelled.{journal_in}
use Rattle.tf_rows.specs.Nest.{IsTree, fits_row, has_each}
use Rattle.tf_rows.specs.Parts.{Entries, parts_of}
use Rattle.tf_publish.specs.Publish.{entries_waiting, tables_needed}
use Rattle.tf_publish.specs.Partly.{CountsParts}
use Rattle.tf_publish.specs.Tables.{Publishes, by_name, listed}
use Rattle.tf_manifest.specs.View.{ShowsJournal}
use Rattle.tf_forest.proofs.Notes.{all_kept, same_forest, same_journal}
use Rattle.tf_publish.proofs.Bounds.{nothing_lost}
use Rattle.tf_publish.proofs.Partly.{nothing_counted}
use Rattle.tf_publish.proofs.Tables.{listed_back}
use Rattle.tf_forest.proofs.Refused.{logs_stay, unpublished, values_stay}
use Rattle.tf_forest.proofs.publishing.Forest+Rows+F+A+N+A.prepare.Goals as goal

if_found : {X : Type 0} {E : Type 0} (result : Result (Option X) E) (P Q : X → Type 0) → ((x : X) → P x → Q x) → IfOk result (λ found. IfSome found P) → IfOk result (λ found. IfSome found Q)
if_found (Ok (Some x)) P Q f is = f x is
if_found (Ok None) P Q f is = tt
if_found (Err refusal) P Q f is = tt

pub returns-then-not-has_room-clause-waits : goal.returns-then-not-has_room-clause-waits
returns-then-not-has_room-clause-waits g c = record { is = refl; loses = nothing_lost c.args.self.now.sealed c.args.self.now.needed }

pub invariant_of-self : goal.invariant_of-self
invariant_of-self g c =
    let before : Entries = g.F.MutableRows.entries c.self.inside.rows.fresh in
    let after : Entries = g.F.MutableRows.entries c.prepare_rows.new.rows.fresh in
    let old : Sealed = c.self.inside.rows.published in
    let new : Sealed = c.prepare_rows.new.rows.published in
    let all : c.self.inside.kept ≡ length (journal_in (parts_of before old.tables)) =
    ap (λ (v : View). v.kept) c.self.view_is ∙ c.requires ∙ ap (λ (v : View). length v.journal) (sym c.self.view_is) in
    same_forest has_each fits_row IsTree c.rows_spell_the_journal_they_show.ensures (parts_of before old.tables) (parts_of after new.tables) c.self.inside.notes c.self.inside.kept c.self.inside.clock c.self.inside.floors c.self.inside.due c.self.inside.resident c.self.inside.used
    (values_stay before after old new (tables_needed before old.tables) c.prepare_rows.ensures.fresh c.prepare_rows.ensures.loses)
    (logs_stay before after old new (tables_needed before old.tables) c.prepare_rows.ensures.fresh c.prepare_rows.ensures.loses c.self.invariant.shows.values) c.self.invariant all

pub returns-clause-shows : goal.returns-clause-shows
returns-clause-shows g c =
    let before : Entries = g.F.MutableRows.entries c.self.inside.rows.fresh in
    let after : Entries = g.F.MutableRows.entries c.prepare_rows.new.rows.fresh in
    let old : Sealed = c.self.inside.rows.published in
    let new : Sealed = c.prepare_rows.new.rows.published in
    let journal = same_journal c.rows_spell_the_journal_they_show.ensures (parts_of before old.tables) (parts_of after new.tables)
    (values_stay before after old new (tables_needed before old.tables) c.prepare_rows.ensures.fresh c.prepare_rows.ensures.loses) c.self.invariant.shows in
    if_found c.prepare_rows.result _ _
    (λ (p : Counted) content. subst (λ (j : List Entry). ShowsJournal p.tables j) (sym journal) (λ r key. content r key ∙ c.self.invariant.shows.shows r key))
    c.prepare_rows.ensures.content

pub returns-clause-counted : goal.returns-clause-counted
returns-clause-counted g c =
    subst (λ (v : View). IfOk c.prepare_rows.result (λ found. IfSome found (λ (p : Counted). p.tables.pushed.count ≡ v.sealed.tables.pushed.count + v.needed))) c.self.view_is c.prepare_rows.ensures.count

pub returns-clause-sealed : goal.returns-clause-sealed
returns-clause-sealed g c =
    subst (λ (v : View). IfOk c.prepare_rows.result (λ found. IfSome found (λ (p : Counted). p.sealed ≡ v.sealed.counts.rows_sealed + v.waiting))) c.self.view_is c.prepare_rows.ensures.sealed

pub returns-clause-waits : goal.returns-clause-waits
returns-clause-waits g c =
    let before : Entries = g.F.MutableRows.entries c.self.inside.rows.fresh in
    let after : Entries = g.F.MutableRows.entries c.prepare_rows.new.rows.fresh in
    let old : Sealed = c.self.inside.rows.published in
    let new : Sealed = c.prepare_rows.new.rows.published in
    let all : c.self.inside.kept ≡ length (journal_in (parts_of before old.tables)) =
    ap (λ (v : View). v.kept) c.self.view_is ∙ c.requires ∙ ap (λ (v : View). length v.journal) (sym c.self.view_is) in
    unpublished before after old new (tables_needed before old.tables) c.prepare_rows.ensures.fresh c.prepare_rows.ensures.loses c.self.inside.notes c.self.inside.clock c.self.inside.kept c.args.self.now
    (all_kept has_each fits_row IsTree (parts_of before old.tables) c.self.inside.notes c.self.inside.kept c.self.inside.clock c.self.inside.floors c.self.inside.due c.self.inside.resident c.self.inside.used c.self.invariant all) c.self.view_is
    (ap (λ (v : View). v.needed) c.self.view_is)
    (same_journal c.rows_spell_the_journal_they_show.ensures (parts_of before old.tables) (parts_of after new.tables)
    (values_stay before after old new (tables_needed before old.tables) c.prepare_rows.ensures.fresh c.prepare_rows.ensures.loses) c.self.invariant.shows)

pub returns-clause-publishes : goal.returns-clause-publishes
returns-clause-publishes g c =
    let before : Entries = g.F.MutableRows.entries c.self.inside.rows.fresh in
    let old : Sealed = c.self.inside.rows.published in
    subst (λ (v : View). IfOk c.prepare_rows.result (λ found. IfSome found (λ (p : Counted). Publishes (by_name v.fresh) (counted v.sealed) p))) c.self.view_is
    (subst (λ (f : Entries). IfOk c.prepare_rows.result (λ found. IfSome found (λ (p : Counted). Publishes f (counted old) p))) (sym (listed_back before)) c.prepare_rows.ensures.publishes)

pub returns-clause-still : goal.returns-clause-still
returns-clause-still g c = λ none.
    let before : Entries = g.F.MutableRows.entries c.self.inside.rows.fresh in
    let after : Entries = g.F.MutableRows.entries c.prepare_rows.new.rows.fresh in
    let old : Sealed = c.self.inside.rows.published in
    let new : Sealed = c.prepare_rows.new.rows.published in
    let published = c.prepare_rows.ensures.still (ap (λ (v : View). v.waiting) c.self.view_is ∙ none) in
    let seen : Entries → Sealed → View = λ f s. record { journal = journal_in (parts_of f s.tables); sealed = s; fresh = listed f; marks = fresh_at_marks c.self.inside.notes (parts_of f s.tables); needed = tables_needed f s.tables; waiting = entries_waiting f; clock = c.self.inside.clock; kept = c.self.inside.kept } in
    ap (λ (f : Entries). seen f new) c.prepare_rows.ensures.fresh ∙ ap (λ (s : Sealed). seen before s) published ∙ c.self.view_is

pub returns-clause-none : goal.returns-clause-none
returns-clause-none g c =
    subst (λ (v : View). IfOk c.prepare_rows.result (λ found. IfNone found (v.waiting ≡ 0))) c.self.view_is c.prepare_rows.ensures.none

pub returns-clause-parts : goal.returns-clause-parts
returns-clause-parts g c =
    let before : Entries = g.F.MutableRows.entries c.self.inside.rows.fresh in
    let new : Sealed = c.prepare_rows.new.rows.published in
    subst (λ (v : View). CountsParts (by_name v.fresh) v.sealed new) c.self.view_is
    (subst (λ (f : Entries). CountsParts f c.self.inside.rows.published new) (sym (listed_back before)) c.prepare_rows.ensures.parts)

pub returns-then-not-has_room-clause-parts : goal.returns-then-not-has_room-clause-parts
returns-then-not-has_room-clause-parts g c = nothing_counted (by_name c.args.self.now.fresh) c.args.self.now.sealed
