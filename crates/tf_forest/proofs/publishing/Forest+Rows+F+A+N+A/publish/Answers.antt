use Rattle.std.proofs.Common.{◌≡◌, ◌∙◌, ◌+◌, ℕ, cond, length, sym, ap, subst, arith}
use Rattle.std.specs.Prelude.{◌==◌}
use Rattle.tf_manifest.specs.View.{ShowsJournal}
use Rattle.tf_registry.specs.Limit.{Pushed}
use Rattle.tf_rows.specs.Counts.{Counted, Sealed, counted}
use Rattle.tf_publish.specs.Tables.{Publishes, by_name}
use Rattle.tf_publish.proofs.Tables.{nothing_waits_fresh, nothing_waits_needed}
use Rattle.tf_forest.specs.Forest.{View}
use Rattle.tf_forest.proofs.Idle.{publishes_nothing}
use Rattle.tf_forest.proofs.publishing.Forest+Rows+F+A+N+A.publish.Goals as goal

pub settle-requires : goal.settle-requires
settle-requires g c = record {
  kept = ap (λ (v : View). v.kept) c.prepare.ensures.waits.is ∙ c.requires ∙ ap (λ (v : View). length v.journal) (sym c.prepare.ensures.waits.is);
  shows = rw c.in-Ok-Some.field-0-is at c.in-Ok-Some.ensures.shows;
  ready = rw c.in-Ok-Some.field-0-is at c.in-Ok-Some.ensures.ready;
}

pub returns-in-Ok-Some-clause-journal : goal.returns-in-Ok-Some-clause-journal
returns-in-Ok-Some-clause-journal g c = ap (λ (v : View). v.journal) c.settle.ensures ∙ ap (λ (v : View). v.journal) c.prepare.ensures.waits.is

pub returns-in-Ok-Some-clause-clock_kept : goal.returns-in-Ok-Some-clause-clock_kept
returns-in-Ok-Some-clause-clock_kept g c = ap (λ (v : View). v.clock) c.settle.ensures ∙ ap (λ (v : View). v.clock) c.prepare.ensures.waits.is

pub returns-in-Ok-Some-clause-length_kept : goal.returns-in-Ok-Some-clause-length_kept
returns-in-Ok-Some-clause-length_kept g c = ap (λ (v : View). v.kept) c.settle.ensures ∙ ap (λ (v : View). v.kept) c.prepare.ensures.waits.is

pub returns-in-Ok-Some-clause-shows : goal.returns-in-Ok-Some-clause-shows
returns-in-Ok-Some-clause-shows g c = subst (λ (v : View). ShowsJournal v.sealed.tables v.journal) (sym c.settle.ensures) (rw c.in-Ok-Some.field-0-is at c.in-Ok-Some.ensures.shows)

pub returns-in-Ok-Some-clause-all : goal.returns-in-Ok-Some-clause-all
returns-in-Ok-Some-clause-all g c = (ap (λ (v : View). v.needed) c.settle.ensures, ap (λ (v : View). v.waiting) c.settle.ensures)

pub returns-in-Ok-Some-clause-counted : goal.returns-in-Ok-Some-clause-counted
returns-in-Ok-Some-clause-counted g c = ap (λ (v : View). v.sealed.tables.pushed.count) c.settle.ensures ∙ (rw c.in-Ok-Some.field-0-is at c.in-Ok-Some.ensures.counted)

pub returns-in-Ok-Some-clause-sealed : goal.returns-in-Ok-Some-clause-sealed
returns-in-Ok-Some-clause-sealed g c = ap (λ (v : View). v.sealed.counts.rows_sealed) c.settle.ensures ∙ (rw c.in-Ok-Some.field-0-is at c.in-Ok-Some.ensures.sealed)

pub returns-in-Ok-Some-clause-publishes : goal.returns-in-Ok-Some-clause-publishes
returns-in-Ok-Some-clause-publishes g c =
    let loses = c.prepare.ensures.waits.loses in
    let old : Sealed = c.args.self.now.sealed in
    let lost : c.prepare.new.self.sealed.tables.pushed.count ≡ old.tables.pushed.count + loses.tables = ap (λ (s : Sealed). s.tables.pushed.count) loses.is in
    let counted = (rw c.in-Ok-Some.field-0-is at c.in-Ok-Some.ensures.counted) in
    let ready = ap (λ (p : Pushed). p.count) (rw c.in-Ok-Some.field-0-is at c.in-Ok-Some.ensures.ready).pushed in
    let needed : loses.tables ≡ c.args.self.now.needed = omega (arith, lost, counted, ready) in
    ap (λ (v : View). v.sealed.counts.publishes) c.settle.ensures
    ∙ ap (λ (s : Sealed). s.counts.publishes) loses.is
    ∙ ap (λ (n : ℕ). old.counts.publishes + cond (n == 0) 0 1) needed

pub returns-in-Ok-Some-clause-rows : goal.returns-in-Ok-Some-clause-rows
returns-in-Ok-Some-clause-rows g c =
    let fresh = c.args.self.now.fresh in
    let old : Counted = counted c.args.self.now.sealed in
    let p : Counted = c.in-Ok-Some.prepared in
    let ready = rw c.in-Ok-Some.field-0-is at c.in-Ok-Some.ensures.ready in
    subst (λ (v : View). Publishes (by_name fresh) old (counted v.sealed)) (sym c.settle.ensures)
    (subst (λ (h : ℕ). Publishes (by_name fresh) old (record { tables = p.tables; sealed = p.sealed; held = h })) ready.held (rw c.in-Ok-Some.field-0-is at c.in-Ok-Some.ensures.publishes))

pub returns-in-Ok-Some-clause-empty : goal.returns-in-Ok-Some-clause-empty
returns-in-Ok-Some-clause-empty g c = ap (λ (v : View). v.fresh) c.settle.ensures

pub returns-in-Ok-Some-clause-still : goal.returns-in-Ok-Some-clause-still
returns-in-Ok-Some-clause-still g c = λ none.
    let is = rw c.in-Ok-Some.field-0-is at c.in-Ok-Some.ensures.idle none in
    cc

pub returns-in-Ok-None-clause-shows : goal.returns-in-Ok-None-clause-shows
returns-in-Ok-None-clause-shows g c =
    let none = rw c.in-Ok-None.field-0-is at c.in-Ok-None.ensures.none in
    subst (λ (v : View). ShowsJournal v.sealed.tables v.journal) (sym (c.prepare.ensures.still none)) (c.facts_of_rows.ensures.alone none)

pub returns-in-Ok-None-clause-rows : goal.returns-in-Ok-None-clause-rows
returns-in-Ok-None-clause-rows g c =
    let none = rw c.in-Ok-None.field-0-is at c.in-Ok-None.ensures.none in
    let fresh = c.args.self.now.fresh in
    let old : Counted = counted c.args.self.now.sealed in
    subst (λ (v : View). Publishes (by_name fresh) old (counted v.sealed)) (sym (c.prepare.ensures.still none))
    (publishes_nothing (by_name fresh) old (sym c.facts.ensures.waits.waiting ∙ none))

pub returns-in-Ok-None-clause-empty : goal.returns-in-Ok-None-clause-empty
returns-in-Ok-None-clause-empty g c =
    let none = rw c.in-Ok-None.field-0-is at c.in-Ok-None.ensures.none in
    let old : View = c.args.self.now in
    ap (λ (v : View). v.fresh) (c.prepare.ensures.still none) ∙ nothing_waits_fresh old.fresh old.sealed.tables old.needed old.waiting c.facts.ensures.waits none

pub returns-in-Ok-None-clause-all : goal.returns-in-Ok-None-clause-all
returns-in-Ok-None-clause-all g c =
    let none = rw c.in-Ok-None.field-0-is at c.in-Ok-None.ensures.none in
    let old : View = c.args.self.now in
    let same = c.prepare.ensures.still none in
    (ap (λ (v : View). v.needed) same ∙ nothing_waits_needed old.fresh old.sealed.tables old.needed old.waiting c.facts.ensures.waits none, ap (λ (v : View). v.waiting) same ∙ none)

pub returns-in-Ok-None-clause-counted : goal.returns-in-Ok-None-clause-counted
returns-in-Ok-None-clause-counted g c =
    let none = rw c.in-Ok-None.field-0-is at c.in-Ok-None.ensures.none in
    let old : View = c.args.self.now in
    let needed : old.needed ≡ 0 = nothing_waits_needed old.fresh old.sealed.tables old.needed old.waiting c.facts.ensures.waits none in
    let same = ap (λ (v : View). v.sealed.tables.pushed.count) (c.prepare.ensures.still none) in
    omega (arith, same, needed)

pub returns-in-Ok-None-clause-sealed : goal.returns-in-Ok-None-clause-sealed
returns-in-Ok-None-clause-sealed g c =
    let none : c.args.self.now.waiting ≡ 0 = rw c.in-Ok-None.field-0-is at c.in-Ok-None.ensures.none in
    let same = ap (λ (v : View). v.sealed.counts.rows_sealed) (c.prepare.ensures.still none) in
    omega (arith, same, none)

pub returns-in-Ok-None-clause-publishes : goal.returns-in-Ok-None-clause-publishes
returns-in-Ok-None-clause-publishes g c =
    let none = rw c.in-Ok-None.field-0-is at c.in-Ok-None.ensures.none in
    let old : View = c.args.self.now in
    let needed : old.needed ≡ 0 = nothing_waits_needed old.fresh old.sealed.tables old.needed old.waiting c.facts.ensures.waits none in
    let none_more : old.sealed.counts.publishes ≡ old.sealed.counts.publishes + 0 = omega arith in
    ap (λ (v : View). v.sealed.counts.publishes) (c.prepare.ensures.still none)
    ∙ none_more
    ∙ ap (λ (n : ℕ). old.sealed.counts.publishes + cond (n == 0) 0 1) (sym needed)

pub returns-in-Err-clause-parts : goal.returns-in-Err-clause-parts
returns-in-Err-clause-parts g c = c.prepare.ensures.parts

pub returns-in-Err-clause-still : goal.returns-in-Err-clause-still
returns-in-Err-clause-still g c = c.prepare.ensures.still

pub returns-in-Ok-Some-clause-fits : goal.returns-in-Ok-Some-clause-fits
returns-in-Ok-Some-clause-fits g c = c.in-Ok-Some.ensures.fits

pub returns-in-Ok-Some-clause-full : goal.returns-in-Ok-Some-clause-full
returns-in-Ok-Some-clause-full g c = λ full. absurd (cc)

pub returns-in-Ok-None-clause-journal : goal.returns-in-Ok-None-clause-journal
returns-in-Ok-None-clause-journal g c = ap (λ (v : View). v.journal) c.prepare.ensures.waits.is

pub returns-in-Ok-None-clause-clock_kept : goal.returns-in-Ok-None-clause-clock_kept
returns-in-Ok-None-clause-clock_kept g c = ap (λ (v : View). v.clock) c.prepare.ensures.waits.is

pub returns-in-Ok-None-clause-length_kept : goal.returns-in-Ok-None-clause-length_kept
returns-in-Ok-None-clause-length_kept g c = ap (λ (v : View). v.kept) c.prepare.ensures.waits.is

pub returns-in-Ok-None-clause-fits : goal.returns-in-Ok-None-clause-fits
returns-in-Ok-None-clause-fits g c = c.in-Ok-None.ensures.fits

pub returns-in-Ok-None-clause-still : goal.returns-in-Ok-None-clause-still
returns-in-Ok-None-clause-still g c = c.prepare.ensures.still

pub returns-in-Ok-None-clause-full : goal.returns-in-Ok-None-clause-full
returns-in-Ok-None-clause-full g c = λ full. absurd (cc)

pub returns-in-Err-clause-journal : goal.returns-in-Err-clause-journal
returns-in-Err-clause-journal g c = ap (λ (v : View). v.journal) c.prepare.ensures.waits.is

pub returns-in-Err-clause-clock_kept : goal.returns-in-Err-clause-clock_kept
returns-in-Err-clause-clock_kept g c = ap (λ (v : View). v.clock) c.prepare.ensures.waits.is

pub returns-in-Err-clause-length_kept : goal.returns-in-Err-clause-length_kept
returns-in-Err-clause-length_kept g c = ap (λ (v : View). v.kept) c.prepare.ensures.waits.is

pub returns-in-Err-clause-err : goal.returns-in-Err-clause-err
returns-in-Err-clause-err g c = c.prepare.ensures.waits

pub returns-in-Err-clause-idle : goal.returns-in-Err-clause-idle
returns-in-Err-clause-idle g c = λ none.
    let ok = c.in-Err.ensures.idle none in
    absurd (cc)

pub returns-in-Err-clause-full : goal.returns-in-Err-clause-full
returns-in-Err-clause-full g c = λ full. c.in-Err.ensures.full (cc)

pub returns-in-Err-clause-refused : goal.returns-in-Err-clause-refused
returns-in-Err-clause-refused g c = c.in-Err.ensures.refused
