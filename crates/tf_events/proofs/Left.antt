-- What is left of a batch, chain by chain.
use Rattle.std.proofs.Common.{◌≡◌, ℕ, ◌+◌, ◌≤◌, List, [], ◌∷◌, ◌++◌, subst, sym, ap, arith, drop, length, take, append_assoc, refl, ◌∙◌}
use Rattle.std.proofs.lemmas.List.{drop-drop, drop_all}
use Rattle.tf_records.specs.declared.reply.Failure.{Failure}
use Rattle.tf_journal.specs.declared.entry.Entry.{Entry}
use Rattle.tf_events.specs.Batch.{chains_of, chains_step, placed}
use Rattle.tf_events.specs.Chain.{Kind, Chain, Step, chain_step}
use Rattle.tf_events.specs.Walk.{Extends, IsStepTaken, chain_length}
use Rattle.tf_events.proofs.Cuts.{chains_from-cut}

-- chains behind others take their steps from the journal that those leave
chains_step-append : {E : Type 0} (kind : Kind E) (journal : List Entry) (chains more : List (Chain E))
    → let first = chains_step kind journal chains in
    let rest = chains_step kind first.journal more in
    ((chains_step kind journal (chains ++ more)).journal ≡ rest.journal) × ((chains_step kind journal (chains ++ more)).failures ≡ first.failures ++ rest.failures)
chains_step-append kind journal [] more = (refl, refl)
chains_step-append kind journal (chain ∷ chains) more =
    let step = chain_step kind journal chain in
    let later = chains_step-append kind step.journal chains more in
    let inner = chains_step kind step.journal chains in
    let rest = chains_step kind inner.journal more in
    (later.0, ap (λ f. step.failures ++ f) later.1 ∙ sym (append_assoc step.failures inner.failures rest.failures))

-- the step of the events from this place on
abbrev pub left_from : {E : Type 0} → Kind E → List Entry → ℕ → ℕ → List E → Step
left_from kind journal before start events = chains_step kind journal (chains_of kind (placed start (before + start + 1) (drop start events)))

-- behind the last event nothing is left
pub left_none : {E : Type 0} (kind : Kind E) (journal : List Entry) (before start : ℕ) (events : List E) → length events ≤ start
    → left_from kind journal before start events ≡ record { journal = journal; failures = [] }
left_none kind journal before start events past = ap (λ es. chains_step kind journal (chains_of kind (placed start (before + start + 1) es))) (drop_all start events past)

-- one more chain: what is stored and noted, followed by the step of what is left, stays the whole
pub left_more : {E : Type 0} (kind : Kind E) (journal after : List Entry) (before start n : ℕ) (events rest : List E) (failures noted : List Failure) (whole : Step)
    → rest ≡ drop start events → n ≡ chain_length kind rest
    → IsStepTaken (chains_step kind journal (chains_of kind (placed start (before + start + 1) (take n rest)))) after failures noted
    → (left_from kind journal before start events).journal ≡ whole.journal → failures ++ (left_from kind journal before start events).failures ≡ whole.failures
    → ((left_from kind after before (start + n) events).journal ≡ whole.journal) × (noted ++ (left_from kind after before (start + n) events).failures ≡ whole.failures)
left_more kind journal after before start n events rest failures noted whole same first taken stored told =
    let timestamp = before + start + 1 in
    let front = chains_of kind (placed start timestamp (take n rest)) in
    let behind = chains_of kind (placed (start + n) (before + (start + n) + 1) (drop (start + n) events)) in
    let later : timestamp + n ≡ before + (start + n) + 1 = omega arith in
    let behind_is : chains_of kind (placed (start + n) (timestamp + n) (drop n rest)) ≡ behind =
    rw (same, drop-drop n start events, later) refl in
    let P : ℕ → Type 0 = λ m. chains_of kind (placed start timestamp rest)
    ≡ chains_of kind (placed start timestamp (take m rest)) ++ chains_of kind (placed (start + m) (timestamp + m) (drop m rest)) in
    let cut : chains_of kind (placed start timestamp (drop start events)) ≡ front ++ behind =
    ap (λ l. chains_of kind (placed start timestamp l)) (sym same)
    ∙ subst P (sym first) (chains_from-cut kind [] start timestamp rest)
    ∙ ap (λ chains. front ++ chains) behind_is in
    let one = chains_step kind journal front in
    let left = chains_step kind one.journal behind in
    let both = chains_step-append kind journal front behind in
    rw (taken.stored, taken.failures) (
      sym both.0 ∙ ap (λ chains. (chains_step kind journal chains).journal) (sym cut) ∙ stored,
      append_assoc failures one.failures left.failures ∙ ap (λ f. failures ++ f) (sym both.1 ∙ ap (λ chains. (chains_step kind journal chains).failures) (sym cut)) ∙ told,
    )

pub extends_more : (a b c : List Entry) → Extends a b → Extends b c → Extends a c
extends_more a b c first second = record {
  more = first.more ++ second.more;
  is = rw (second.is, first.is) (append_assoc a first.more second.more);
}
