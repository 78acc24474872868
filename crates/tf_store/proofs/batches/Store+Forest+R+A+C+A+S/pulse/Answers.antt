use Rattle.std.proofs.Common.{◌≡◌, ◌∙◌, ℕ, Result, Ok, Err, OnErr, ap, length, subst, sym}
use Rattle.tf_records.specs.declared.refusal.Refusal.{Refusal}
use Rattle.tf_pending.specs.Pulse.{IsPulseRun}
use Rattle.tf_forest.specs.Forest as forest
use Rattle.tf_store.specs.Store.{View}
use Rattle.tf_store.proofs.Kept.{all_wait_on, same_receipts, store_grows}
use Rattle.tf_store.proofs.Unchanged.{unchanged_forest}
use Rattle.tf_store.proofs.batches.Store+Forest+R+A+C+A+S.pulse.Goals as goal

-- what is kept is all, after a pulse too
pulse_kept : (old new : forest.View) (now most : ℕ) (result : Result ℕ Refusal) → IsPulseRun (λ (f : forest.View). f.journal) (λ f. f.clock) (λ f. f.kept) old new now most result
    → old.kept ≡ length old.journal → new.kept ≡ length new.journal
pulse_kept old new now most (Ok count) run kept = run.kept
pulse_kept old new now most (Err fault) run kept = run.unchanged.kept ∙ kept ∙ ap length (sym run.unchanged.journal)

pub run_pulse-count-requires-clause-lawful : goal.run_pulse-count-requires-clause-lawful
run_pulse-count-requires-clause-lawful g c = c.self.invariant.lawful

pub run_pulse-count-requires-clause-counted : goal.run_pulse-count-requires-clause-counted
run_pulse-count-requires-clause-counted g c = c.self.invariant.counted

pub invariant_of-self : goal.invariant_of-self
invariant_of-self g c =
    let old = c.self.inside.forest in
    let new = c.run_pulse-count.new.ledger in
    let store = c.self.invariant in
    let ran = c.run_pulse-count.ensures in
    let waiting = c.self.inside.queue.waiting in
    store_grows old new c.self.inside.tally c.run_pulse-count.new.tally c.self.inside.public waiting waiting
    store ran.run.lawful (pulse_kept old new c.args.now c.args.max c.run_pulse-count.result ran.run store.kept)
    ran.lasting ran.begins ran.counted (all_wait_on old.journal new.journal waiting ran.begins store.waits)

pub returns-clause-waiting : goal.returns-clause-waiting
returns-clause-waiting g c =
    same_receipts c.self.inside.forest.journal c.run_pulse-count.new.ledger.journal c.self.inside.queue.waiting c.run_pulse-count.ensures.begins c.self.invariant.waits
    ∙ ap (λ (v : View). v.waiting) c.self.view_is

pub returns-clause-run : goal.returns-clause-run
returns-clause-run g c =
    subst (λ (v : View). IsPulseRun (λ f. f.journal) (λ f. f.clock) (λ f. f.kept) v.forest c.run_pulse-count.new.ledger c.args.now c.args.max c.run_pulse-count.result) c.self.view_is c.run_pulse-count.ensures.run

pub returns-clause-sealed : goal.returns-clause-sealed
returns-clause-sealed g c = c.run_pulse-count.ensures.lasting ∙ ap (λ (v : View). v.forest.sealed) c.self.view_is

pub returns-clause-readable : goal.returns-clause-readable
returns-clause-readable g c = ap (λ (v : View). v.readable) c.self.view_is

pub returns-clause-share : goal.returns-clause-share
returns-clause-share g c = c.run_pulse-count.ensures.share

pub returns-clause-refused : goal.returns-clause-refused
returns-clause-refused g c = c.run_pulse-count.ensures.refused

pub returns-clause-unchanged : goal.returns-clause-unchanged
returns-clause-unchanged g c =
    subst (λ (v : View). OnErr c.run_pulse-count.result (c.run_pulse-count.new.ledger ≡ v.forest)) c.self.view_is
    (unchanged_forest c.self.inside.forest c.run_pulse-count.new.ledger c.run_pulse-count.result c.run_pulse-count.ensures.run.unchanged c.run_pulse-count.ensures.unchanged c.self.invariant.kept
    (record { at_rest = c.facts.ensures.at_rest; waits = c.facts.ensures.waits }) (record { at_rest = c.facts-2.ensures.at_rest; waits = c.facts-2.ensures.waits }))
