use Rattle.std.proofs.Common.{◌≡◌, ◌+◌, ℕ, List, [], ◌∷◌, length, ap, subst, sym, ◌∙◌, arith, rules}
use Rattle.std.proofs.lemmas.List.{take_all}
use Rattle.tf_journal.specs.Journal.{IsUpTo}
use Rattle.tf_manifest.specs.declared.row.Row.TheVariants as row
use Rattle.tf_rows.specs.Edits.{party_of}
use Rattle.tf_rows.specs.DueSet.{StayHeld}
use Rattle.tf_rows.specs.Floors.{HaveFloors}
use Rattle.tf_forest.specs.Forest.{Noted, View, fresh_at_marks}
use Rattle.tf_rows.specs.Spelled.{journal_in}
use Rattle.tf_rows.specs.Next.{content_in}
use Rattle.tf_rows.specs.Counts.{Sealed}
use Rattle.tf_rows.specs.Parts.{Parts, fresh_in}
use Rattle.tf_publish.specs.Publish.{entries_waiting, tables_needed}
use Rattle.tf_publish.specs.Tables.{listed}
use Rattle.tf_rows.proofs.HeldKeys.{Free}
use Rattle.tf_rows.proofs.Unvalued.{none_for_good, none_now}
use Rattle.tf_forest.proofs.Notes.{noted_length}
use Rattle.tf_forest.proofs.forest.Forest.keep.Goals as goal

pub overflow_add-self : goal.overflow_add-self
overflow_add-self g c =
    let bound = noted_length g.S.RowSet.has_row g.S.RowSet.fits g.S.RowSet.takes_any _ c.self.inside.notes c.self.inside.kept c.self.inside.clock c.len.result c.self.inside.floors c.self.inside.due c.self.inside.resident c.self.inside.used c.self.invariant (search rules) in
    omega (arith, bound)

pub invariant_of-self : goal.invariant_of-self
invariant_of-self g c =
    let rows : Parts = (g.S.RowSet.parts c.self.inside.rows) in
    let all : length (journal_in rows) ≡ c.self.inside.kept + c.len.result = omega (arith, c.self.invariant.count) in
    record {
      shows = c.self.invariant.shows;
      right = search rules;
      count = search (rules, all);
      floors = subst (λ (n : ℕ). HaveFloors c.at-self-inside.result (journal_in rows) n) all
          (c.at-self-inside.ensures.holds (journal_in rows) (content_in rows) c.self.inside.floors.present c.self.invariant.shows.shows c.self.invariant.floors.present c.first_from-first.ensures);
      due = subst (StayHeld c.sweep.new.self (journal_in rows)) all (none_for_good (Free c.sweep.new.self) (journal_in rows) (c.sweep.ensures (journal_in rows) c.self.invariant.shows.shows (none_now (Free c.self.inside.due) c.self.inside.kept (journal_in rows) c.self.invariant.due)));
      resident = c.make_place.ensures.among (party_of (journal_in rows)) c.self.invariant.resident;
      used = c.self.invariant.used;
      up_to =
          subst (IsUpTo c.args.moment) (sym (take_all (c.self.inside.kept + c.len.result) (journal_in rows) (omega (arith, all))))
          (subst (IsUpTo c.args.moment) (sym (ap (λ (v : View). v.journal) c.self.view_is)) c.requires.up_to);
    }

pub sweep-requires : goal.sweep-requires
sweep-requires g c = g.met.S.AllRows.has_all row.Expiry

pub first_from-first-requires-clause-has : goal.first_from-first-requires-clause-has
first_from-first-requires-clause-has g c = g.met.S.AllRows.has_all row.Expiry

pub first_from-first-requires-clause-held : goal.first_from-first-requires-clause-held
first_from-first-requires-clause-held g c = λ key free.
    let rows : Parts = g.S.RowSet.parts c.self.inside.rows in
    c.self.invariant.shows.shows row.Expiry key
    ∙ c.sweep.ensures (journal_in rows) c.self.invariant.shows.shows (none_now (Free c.self.inside.due) c.self.inside.kept (journal_in rows) c.self.invariant.due) key free

pub returns-clause-rest : goal.returns-clause-rest
returns-clause-rest g c =
    let rows : Parts = (g.S.RowSet.parts c.self.inside.rows) in
    let sealed : Sealed = g.S.RowSet.sealed c.self.inside.rows in
    let all : c.self.inside.kept + c.len.result ≡ length (journal_in rows) = omega (arith, c.self.invariant.count) in
    let seen : List Noted → ℕ → View = λ ns n. record { journal = journal_in rows; sealed = sealed; fresh = listed (fresh_in rows); marks = fresh_at_marks ns rows; needed = tables_needed (fresh_in rows) sealed.tables; waiting = entries_waiting (fresh_in rows); clock = c.args.moment; kept = n } in
    ap (λ (ns : List Noted). seen ns (c.self.inside.kept + c.len.result)) c.clear.ensures ∙ ap (seen []) all
    ∙ ap (λ (v : View). record v { marks = v.fresh ∷ []; clock = c.args.moment; kept = length v.journal }) c.self.view_is
