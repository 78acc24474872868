use Rattle.std.specs.Prelude.{slice_get}
use Rattle.std.proofs.Common.{◌≡◌, ◌∙◌, List, [], ◌∷◌, ◌++◌, sym, ap, subst}
use Rattle.tf_journal.specs.declared.entry.Entry.{Entry}
use Rattle.tf_journal.specs.Ledger.{CanGrow}
use Rattle.tf_rows.specs.Parts.{Parts, fresh_in}
use Rattle.tf_rows.specs.declared.found.Found.{Found}
use Rattle.tf_rows.specs.Changes.{CanChangeAll, all_changed}
use Rattle.tf_rows.specs.Edits.{found_for}
use Rattle.tf_forest.specs.Forest.{IsForest, Noted, View, fresh_at_marks}
use Rattle.tf_rows.specs.Spelled.{journal_in}
use Rattle.tf_rows.specs.Nest.{LogsHaveValues}
use Rattle.tf_publish.specs.Publish.{entries_waiting, tables_needed}
use Rattle.tf_publish.specs.Tables.{listed}
use Rattle.tf_rows.specs.Range.{LeavesInRange}
use Rattle.tf_rows.specs.Counts.{Sealed}
use Rattle.tf_rows.proofs.CanChange.{can_any}
use Rattle.tf_rows.specs.Next.{changes, changes_by}
use Rattle.tf_forest.proofs.Notes.{IsGrown, grown_forest, grown_journal, holding_more}
use Rattle.tf_forest.proofs.Marks.{Fresh, first_behind, marks_last}
use Rattle.tf_forest.proofs.forest.Forest.add.Goals as goal

pub add-requires-clause-can : goal.add-requires-clause-can
add-requires-clause-can g c =
    let old : Parts = g.S.RowSet.parts c.self.inside.rows in
    let e : Entry = c.args.entry.now in
    let same : journal_in old ≡ c.args.self.now.journal = ap (λ (v : View). v.journal) c.self.view_is in
    let grows : CanGrow (journal_in old) e = subst (λ (j : List Entry). CanGrow j e) (sym same) c.requires in
    let is : c.look_up-found.result ≡ found_for (journal_in old) e = c.look_up-found.ensures.found (journal_in old) c.self.invariant.shows.sound c.self.invariant.shows.shows in
    subst (λ (f : Found). CanChangeAll g.S.RowSet.has_row g.S.RowSet.fits g.S.RowSet.takes_any (changes_by f e) old) (sym is)
    (can_any g.S.RowSet.has_row g.S.RowSet.fits g.S.RowSet.takes_any g.met.S.AllRows.has_all g.met.S.AllRows.fits_kind g.met.S.AllRows.takes_trees
    (changes (journal_in old) e) old
    (c.next_entry_can_be_added.ensures.can old (journal_in old) e c.self.invariant.shows.sound grows c.self.invariant.shows.shows c.self.invariant.shows.values))

pub invariant_of-self : goal.invariant_of-self
invariant_of-self g c =
    holding_more g.S.RowSet.has_row g.S.RowSet.fits g.S.RowSet.takes_any (g.S.RowSet.parts c.self.inside.rows) c.self.inside.notes c.self.inside.kept c.self.inside.clock c.self.inside.floors
    c.self.inside.due c.admit.new.self c.self.inside.resident c.self.inside.used c.self.inside.used c.admit.ensures.stays (λ journal known. known) c.self.invariant

pub invariant_of-self-in_err-admit-2 : goal.invariant_of-self-in_err-admit-2
invariant_of-self-in_err-admit-2 g c =
    holding_more g.S.RowSet.has_row g.S.RowSet.fits g.S.RowSet.takes_any (g.S.RowSet.parts c.self.inside.rows) c.self.inside.notes c.self.inside.kept c.self.inside.clock c.self.inside.floors
    c.self.inside.due c.admit.new.self c.self.inside.resident c.self.inside.used c.admit-2.new.self c.admit.ensures.stays c.admit-2.ensures.stays c.self.invariant

pub invariant_of-self-in-Err : goal.invariant_of-self-in-Err
invariant_of-self-in-Err g c =
    let Is : Parts → List Noted → Type 0
    = λ rows notes. IsForest g.S.RowSet.has_row g.S.RowSet.fits g.S.RowSet.takes_any rows notes c.self.inside.kept c.self.inside.clock c.self.inside.floors c.admit.new.self c.self.inside.resident c.admit-2.new.self in
    subst (λ (rows : Parts). Is rows c.add.new.self) (sym c.in-Err.ensures.err.0)
    (subst (Is (g.S.RowSet.parts c.self.inside.rows)) (sym c.in-Err.ensures.err.1)
    (holding_more g.S.RowSet.has_row g.S.RowSet.fits g.S.RowSet.takes_any (g.S.RowSet.parts c.self.inside.rows) c.self.inside.notes c.self.inside.kept c.self.inside.clock c.self.inside.floors
    c.self.inside.due c.admit.new.self c.self.inside.resident c.self.inside.used c.admit-2.new.self c.admit.ensures.stays c.admit-2.ensures.stays c.self.invariant))

pub invariant_of-self-2 : goal.invariant_of-self-2
invariant_of-self-2 g c =
    let old : Parts = g.S.RowSet.parts c.self.inside.rows in
    let new : Parts = g.S.RowSet.parts c.add.new.rows in
    let e : Entry = c.args.entry.now in
    let same : journal_in old ≡ c.args.self.now.journal = ap (λ (v : View). v.journal) c.self.view_is in
    let grows : CanGrow (journal_in old) e = subst (λ (j : List Entry). CanGrow j e) (sym same) c.requires in
    let is : c.look_up-found.result ≡ found_for (journal_in old) e = c.look_up-found.ensures.found (journal_in old) c.self.invariant.shows.sound c.self.invariant.shows.shows in
    let note : Noted = record { steps = c.in-Ok.ensures.noted.steps; formers = c.formers_of-formers.result } in
    let grown : IsGrown g.S.RowSet.has_row g.S.RowSet.fits g.S.RowSet.takes_any old new e note = record {
      shows = c.in-Ok.ensures.shows (journal_in old) c.self.invariant.shows.sound grows is c.self.invariant.shows.shows;
      values = subst LogsHaveValues (sym (c.in-Ok.ensures.rows ∙ ap (λ (f : Found). all_changed (changes_by f e) old) is)) (c.next_entry_can_be_added.ensures.values old (journal_in old) e c.self.invariant.shows.values);
      can = c.in-Ok.ensures.noted.can;
      back = c.in-Ok.ensures.noted.back;
      accounts = c.formers_of-formers.ensures.back (journal_in old) c.self.invariant.shows.sound grows is;
    } in
    subst (λ (ns : List Noted). IsForest g.S.RowSet.has_row g.S.RowSet.fits g.S.RowSet.takes_any new ns c.self.inside.kept c.self.inside.clock c.after-self-inside.result c.admit.new.self c.after.new.self c.admit-2.new.self) (sym c.in-Ok.ensures.noted.is)
    (grown_forest g.S.RowSet.has_row g.S.RowSet.fits g.S.RowSet.takes_any c.rows_spell_the_journal_they_show.ensures old new c.self.inside.notes note c.self.inside.kept c.self.inside.clock c.self.inside.floors c.self.inside.due c.self.inside.resident c.self.inside.used e c.self.invariant grows grown
    c.after-self-inside.result c.admit.new.self c.after.new.self c.admit-2.new.self (c.after-self-inside.ensures.holds (journal_in old) c.self.inside.kept c.self.invariant.shows.sound grows is c.self.invariant.floors)
    (c.in_ok-admit.ensures.holds (journal_in old) c.self.inside.kept c.self.invariant.shows.sound grows c.self.invariant.due)
    (c.after.ensures (journal_in old) c.self.invariant.shows.sound grows is c.self.invariant.resident)
    (c.in_ok-admit-2.ensures.holds (journal_in old) c.self.invariant.used))

pub returns-clause-addition : goal.returns-clause-addition
returns-clause-addition g c =
    let old : Parts = g.S.RowSet.parts c.self.inside.rows in
    let new : Parts = g.S.RowSet.parts c.add.new.rows in
    let e : Entry = c.args.entry.now in
    let same : journal_in old ≡ c.args.self.now.journal = ap (λ (v : View). v.journal) c.self.view_is in
    let grows : CanGrow (journal_in old) e = subst (λ (j : List Entry). CanGrow j e) (sym same) c.requires in
    let is : c.look_up-found.result ≡ found_for (journal_in old) e = c.look_up-found.ensures.found (journal_in old) c.self.invariant.shows.sound c.self.invariant.shows.shows in
    let note : Noted = record { steps = c.in-Ok.ensures.noted.steps; formers = c.formers_of-formers.result } in
    let grown : IsGrown g.S.RowSet.has_row g.S.RowSet.fits g.S.RowSet.takes_any old new e note = record {
      shows = c.in-Ok.ensures.shows (journal_in old) c.self.invariant.shows.sound grows is c.self.invariant.shows.shows;
      values = subst LogsHaveValues (sym (c.in-Ok.ensures.rows ∙ ap (λ (f : Found). all_changed (changes_by f e) old) is)) (c.next_entry_can_be_added.ensures.values old (journal_in old) e c.self.invariant.shows.values);
      can = c.in-Ok.ensures.noted.can;
      back = c.in-Ok.ensures.noted.back;
      accounts = c.formers_of-formers.ensures.back (journal_in old) c.self.invariant.shows.sound grows is;
    } in
    record {
      ok = grown_journal g.S.RowSet.has_row g.S.RowSet.fits g.S.RowSet.takes_any c.rows_spell_the_journal_they_show.ensures old new c.self.inside.notes note c.self.inside.kept c.self.inside.clock c.self.inside.floors c.self.inside.due c.self.inside.resident c.self.inside.used e c.self.invariant grows grown
          ∙ ap (λ (j : List Entry). j ++ e ∷ []) same;
      err = tt;
      refusal = tt;
      clock = ap (λ (v : View). v.clock) c.self.view_is;
      kept = ap (λ (v : View). v.kept) c.self.view_is;
    }

pub add-requires-clause-range : goal.add-requires-clause-range
add-requires-clause-range g c =
    let old : Parts = g.S.RowSet.parts c.self.inside.rows in
    let e : Entry = c.args.entry.now in
    let same : journal_in old ≡ c.args.self.now.journal = ap (λ (v : View). v.journal) c.self.view_is in
    let grows : CanGrow (journal_in old) e = subst (λ (j : List Entry). CanGrow j e) (sym same) c.requires in
    let is : c.look_up-found.result ≡ found_for (journal_in old) e = c.look_up-found.ensures.found (journal_in old) c.self.invariant.shows.sound c.self.invariant.shows.shows in
    subst (λ (f : Found). LeavesInRange f e) (sym is) (c.entries_leave_sums_in_range.ensures (journal_in old) e c.self.invariant.shows.sound grows)

pub returns-in-Err-clause-addition : goal.returns-in-Err-clause-addition
returns-in-Err-clause-addition g c = record {
  ok = tt;
  err = ap journal_in c.in-Err.ensures.err.0 ∙ ap (λ (v : View). v.journal) c.self.view_is;
  refusal = c.in-Err.ensures.refusal;
  clock = ap (λ (v : View). v.clock) c.self.view_is;
  kept = ap (λ (v : View). v.kept) c.self.view_is;
}

pub returns-in-Err-clause-err : goal.returns-in-Err-clause-err
returns-in-Err-clause-err g c =
    let seen : Parts → Sealed → View = λ rows sealed. record { journal = journal_in rows; sealed = sealed; fresh = listed (fresh_in rows); marks = fresh_at_marks c.add.new.self rows; needed = tables_needed (fresh_in rows) sealed.tables; waiting = entries_waiting (fresh_in rows); clock = c.self.inside.clock; kept = c.self.inside.kept } in
    ap (λ (rows : Parts). seen rows (g.S.RowSet.sealed c.add.new.rows)) c.in-Err.ensures.err.0
    ∙ ap (λ (sealed : Sealed). seen (g.S.RowSet.parts c.self.inside.rows) sealed) c.in-Err.ensures.sealed
    ∙ ap (λ (notes : List Noted). record (seen (g.S.RowSet.parts c.self.inside.rows) (g.S.RowSet.sealed c.self.inside.rows)) { marks = fresh_at_marks notes (g.S.RowSet.parts c.self.inside.rows) }) c.in-Err.ensures.err.1
    ∙ c.self.view_is

pub after-requires : goal.after-requires
after-requires g c =
    let old : Parts = g.S.RowSet.parts c.self.inside.rows in
    let e : Entry = c.args.entry.now in
    let same : journal_in old ≡ c.args.self.now.journal = ap (λ (v : View). v.journal) c.self.view_is in
    let grows : CanGrow (journal_in old) e = subst (λ (j : List Entry). CanGrow j e) (sym same) c.requires in
    let is : c.look_up-found.result ≡ found_for (journal_in old) e = c.look_up-found.ensures.found (journal_in old) c.self.invariant.shows.sound c.self.invariant.shows.shows in
    subst (λ (f : Found). LeavesInRange f e) (sym is) (c.entries_leave_sums_in_range.ensures (journal_in old) e c.self.invariant.shows.sound grows)

pub look_up-found-requires-clause-held : goal.look_up-found-requires-clause-held
look_up-found-requires-clause-held g c = λ id party there.
    c.rows_answer_look_ups.ensures.parties _ _ c.self.invariant.shows.sound c.self.invariant.shows.shows id ∙ c.self.invariant.resident id party there

pub returns-clause-marks : goal.returns-clause-marks
returns-clause-marks g c =
    let new : Parts = g.S.RowSet.parts c.add.new.rows in
    let note : Noted = record { steps = c.in-Ok.ensures.noted.steps; formers = c.formers_of-formers.result } in
    ap (λ (notes : List Noted). fresh_at_marks notes new) c.in-Ok.ensures.noted.is ∙ marks_last c.self.inside.notes note new
    ∙ ap (λ (rows : Parts). fresh_at_marks c.self.inside.notes rows ++ listed (fresh_in new) ∷ []) c.in-Ok.ensures.noted.back
    ∙ ap (λ (v : View). v.marks ++ listed (fresh_in new) ∷ []) c.self.view_is

pub returns-clause-first : goal.returns-clause-first
returns-clause-first g c =
    let old : Parts = g.S.RowSet.parts c.self.inside.rows in
    let new : Parts = g.S.RowSet.parts c.add.new.rows in
    let note : Noted = record { steps = c.in-Ok.ensures.noted.steps; formers = c.formers_of-formers.result } in
    ap (λ (notes : List Noted). slice_get (fresh_at_marks notes new) 0) c.in-Ok.ensures.noted.is
    ∙ ap (λ (marks : List Fresh). slice_get marks 0) (marks_last c.self.inside.notes note new)
    ∙ ap (λ (rows : Parts). slice_get (fresh_at_marks c.self.inside.notes rows ++ listed (fresh_in new) ∷ []) 0) c.in-Ok.ensures.noted.back
    ∙ first_behind c.self.inside.notes old (listed (fresh_in new) ∷ [])
    ∙ ap (λ (v : View). slice_get v.marks 0) c.self.view_is

pub returns-in-Err-clause-first : goal.returns-in-Err-clause-first
returns-in-Err-clause-first g c =
    ap (λ (rows : Parts). slice_get (fresh_at_marks c.add.new.self rows) 0) c.in-Err.ensures.err.0
    ∙ ap (λ (notes : List Noted). slice_get (fresh_at_marks notes (g.S.RowSet.parts c.self.inside.rows)) 0) c.in-Err.ensures.err.1
    ∙ ap (λ (v : View). slice_get v.marks 0) c.self.view_is
