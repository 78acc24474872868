-- The events of a chain, stored one after another.
use Rattle.std.proofs.Common.{◌≡◌, ℕ, ◌+◌, ◌<◌, ◌≤◌, List, [], ◌∷◌, ◌++◌, Option, Some, None, false, true, subst, sym, ap, arith, drop, take, length, get_or, append_assoc, append-nil, refl, ◌∙◌, ◌≢◌, eq-eqb, ne_eqb, IfErr, IfSome, Result, Ok, Err, OnOk}
use Rattle.std.proofs.lemmas.List.{drop_all, drop_more, length-append, take_at}
use Rattle.std.proofs.lemmas.List.Elements.{All-nil, All-weaker}
use Rattle.std.specs.List.{All}
use Rattle.std.specs.Option.{is_some, option_map}
use Rattle.tf_records.specs.declared.outcome.Outcome.{Outcome}
use Rattle.tf_records.specs.declared.outcome.Outcome.TheVariants as outcome
use Rattle.tf_records.specs.declared.refusal.Refusal.{Refusal}
use Rattle.tf_records.specs.declared.refusal.Refusal.TheVariants.{NoMemory}
use Rattle.tf_records.specs.declared.reply.Failure.{Failure}
use Rattle.tf_journal.specs.declared.entry.Entry.{Entry}
use Rattle.tf_journal.specs.Journal.{timestamp_of, last_timestamp}
use Rattle.tf_journal.specs.Lawful.{IsAdmitted}
use Rattle.tf_journal.specs.Ledger.{CanGrow}
use Rattle.tf_journal.specs.Verdict.{is_accepted}
use Rattle.tf_journal.proofs.Sound.{journal_push, sound_push, up_to_later, up_to_push}
use Rattle.tf_events.specs.Batch.{placed}
use Rattle.tf_events.specs.Chain.{Chain, Kind, OwnFailure, Placed, Step, chain_step, entries_left, failed_step, failures_of, first_failure, outcome_in, step_of_chain, with_events}
use Rattle.tf_events.specs.Walk.{Extends, GoesOn, IsAccepted, IsSoundAt, IsStepTaken, KeepsEvents, own_failure_of}
use Rattle.tf_events.specs.declared.own_fault.OwnFault.{OwnFault}

-- the events from one on are that one and those behind it
pub drop_read : {E : Type 0} (events : List E) (i : ℕ) (e : E) → i < length events → e ≡ get_or events i e → drop i events ≡ e ∷ drop (i + 1) events
drop_read events i e within is = drop_more events i e within ∙ ap (λ x. x ∷ drop (i + 1) events) (sym is)

-- the same of placed events
pub placed-drop : {E : Type 0} (index timestamp : ℕ) (events : List E) (i : ℕ) (e : E) → i < length events → e ≡ get_or events i e
    → placed (index + i) (timestamp + i) (drop i events)
    ≡ record { index = index + i; timestamp = timestamp + i; event = e } ∷ placed (index + (i + 1)) (timestamp + (i + 1)) (drop (i + 1) events)
placed-drop index timestamp events i e within is =
    let left : drop i events ≡ e ∷ drop (i + 1) events = drop_read events i e within is in
    let later : timestamp + (i + 1) ≡ timestamp + i + 1 = omega arith in
    let next : index + (i + 1) ≡ index + i + 1 = omega arith in
    rw (left, later, next) refl

pub extends_itself : (journal : List Entry) → Extends journal journal
extends_itself journal = record { more = []; is = sym (append-nil journal) }

pub extends_push : (first journal : List Entry) (e : Entry) → Extends first journal → Extends first (journal ++ e ∷ [])
extends_push first journal e extends = record {
  more = extends.more ++ e ∷ [];
  is = rw (extends.is) (append_assoc first extends.more (e ∷ []));
}

-- an admitted entry at a later timestamp goes on with a sound journal
pub can_grow : (before : ℕ) (journal : List Entry) (e : Entry) → IsSoundAt before journal → before < timestamp_of e → timestamp_of e ≤ last_timestamp
    → IsAdmitted journal e → CanGrow journal e
can_grow before journal e sound later in_range admitted = record {
  is_journal = journal_push before journal e sound.sound.is_journal sound.up_to later in_range;
  admitted = admitted;
}

pub sound_at_later : (before later : ℕ) (journal : List Entry) → before ≤ later → IsSoundAt before journal → IsSoundAt later journal
sound_at_later before later journal h at = record { sound = at.sound; up_to = up_to_later before later journal h at.up_to }

pub sound_at_push : (before : ℕ) (journal : List Entry) (e : Entry) → IsSoundAt before journal → CanGrow journal e → before < timestamp_of e
    → IsSoundAt (timestamp_of e) (journal ++ e ∷ [])
sound_at_push before journal e at grows later = record {
  sound = sound_push journal e at.sound grows;
  up_to = up_to_push (timestamp_of e) journal e (up_to_later before (timestamp_of e) journal (omega arith) at.up_to) (omega arith);
}

-- what an accepted event is stored as has its timestamp, and the journal can grow by it
pub entry_timestamp : {E : Type 0} (kind : Kind E) (keeps : KeepsEvents kind) (journal : List Entry) (timestamp : ℕ) (e : E) (entry : Entry)
    → IsAccepted kind journal timestamp e entry → timestamp_of entry ≡ timestamp
entry_timestamp kind keeps journal timestamp e entry is = ap timestamp_of is.entry_is ∙ keeps.timestamp journal timestamp e

-- one more event that is accepted: the first failure and the journal in the end stay those of the whole
pub accepted_more : {E : Type 0} (kind : Kind E) (journal after : List Entry) (index timestamp i : ℕ) (events : List E) (e : E) (entry : Entry)
    → i < length events → e ≡ get_or events i e → IsAccepted kind journal (timestamp + i) e entry → after ≡ journal ++ entry ∷ []
    → let here = placed (index + i) (timestamp + i) (drop i events) in
    let rest = placed (index + (i + 1)) (timestamp + (i + 1)) (drop (i + 1) events) in
    (first_failure kind after rest ≡ first_failure kind journal here) × (with_events kind after rest ≡ with_events kind journal here)
accepted_more kind journal after index timestamp i events e entry within is accepted grown =
    let here = placed-drop index timestamp events i e within is in
    let ok : is_accepted (kind.verdict journal (timestamp + i) e) ≡ true = ap is_accepted accepted.verdict in
    let same : after ≡ journal ++ kind.entry journal (timestamp + i) e ∷ [] = rw (grown, accepted.entry_is) refl in
    rw (here, ok, same) (refl, refl)

-- the events from one on have a first
pub drop_first : {E : Type 0} (events : List E) (i : ℕ) → i < length events → (e : E) × (drop i events ≡ e ∷ drop (i + 1) events)
drop_first [] i within = absurd (omega (arith, within))
drop_first (e ∷ events) i within = (get_or (e ∷ events) i e, drop_more (e ∷ events) i e within)

-- one more event noted with its result: what is noted with what is left stays the whole
pub noted_more : {E : Type 0} (own : Option (OwnFailure E)) (before noted : List Failure) (index timestamp i : ℕ) (events : List E) (o : Outcome)
    → i < length events → ((t : ℕ) (e : E) → o ≡ outcome_in own (record { index = index + i; timestamp = t; event = e }))
    → noted ≡ before ++ record { index = index + i; outcome = o } ∷ []
    → noted ++ failures_of own (placed (index + (i + 1)) (timestamp + (i + 1)) (drop (i + 1) events))
    ≡ before ++ failures_of own (placed (index + i) (timestamp + i) (drop i events))
noted_more own before noted index timestamp i events o within outcome_is told =
    let first = drop_first events i within in
    let later : timestamp + (i + 1) ≡ timestamp + i + 1 = omega arith in
    let next : index + (i + 1) ≡ index + i + 1 = omega arith in
    rw (told, first.1, later, next, outcome_is (timestamp + i) first.0)
    (append_assoc before (record { index = index + i; outcome = outcome_in own (record { index = index + i; timestamp = timestamp + i; event = first.0 }) } ∷ [])
    (failures_of own (placed (index + i + 1) (timestamp + i + 1) (drop (i + 1) events))))

-- the event that failed by itself has its own result
pub outcome_in-own : {E : Type 0} (own : Option (OwnFault E)) (o : OwnFault E) (index timestamp : ℕ) (e : E) → own ≡ Some o → o.index ≡ index
    → outcome_in (option_map own_failure_of own) (record { index = index; timestamp = timestamp; event = e }) ≡ o.outcome
outcome_in-own own o index timestamp e is here = rw (is, eq-eqb o.index index here) refl

-- and every other event of the chain that a linked one failed
pub outcome_in-other : {E : Type 0} (own : Option (OwnFault E)) (o : OwnFault E) (index timestamp : ℕ) (e : E) → own ≡ Some o → o.index ≢ index
    → outcome_in (option_map own_failure_of own) (record { index = index; timestamp = timestamp; event = e }) ≡ outcome.LinkedEventFailed
outcome_in-other own o index timestamp e is there = rw (is, ne_eqb o.index index there) refl

-- a sound journal can grow by an accepted event at a later timestamp
pub accepted_grows : {E : Type 0} (kind : Kind E) (keeps : KeepsEvents kind) (before : ℕ) (journal : List Entry) (timestamp : ℕ) (e : E) (entry : Entry)
    → IsSoundAt before journal → IsAccepted kind journal timestamp e entry → before < timestamp → timestamp ≤ last_timestamp → CanGrow journal entry
accepted_grows kind keeps before journal timestamp e entry sound accepted later in_range =
    let at = entry_timestamp kind keeps journal timestamp e entry accepted in
    can_grow before journal entry sound (omega arith) (omega arith) accepted.admitted

-- and is sound with it
pub accepted_sound : {E : Type 0} (kind : Kind E) (keeps : KeepsEvents kind) (before : ℕ) (journal : List Entry) (timestamp : ℕ) (e : E) (entry : Entry)
    → IsSoundAt before journal → IsAccepted kind journal timestamp e entry → before < timestamp → timestamp ≤ last_timestamp
    → IsSoundAt timestamp (journal ++ entry ∷ [])
accepted_sound kind keeps before journal timestamp e entry sound accepted later in_range =
    let at = entry_timestamp kind keeps journal timestamp e entry accepted in
    sound_at_later (timestamp_of entry) timestamp (journal ++ entry ∷ []) (omega arith)
    (sound_at_push before journal entry sound (accepted_grows kind keeps before journal timestamp e entry sound accepted later in_range) (omega arith))

-- cutting a longer journal back to where it began
pub cut_back : (journal longer : List Entry) (n : ℕ) → n ≡ length journal → Extends journal longer → take n longer ≡ journal
cut_back journal longer n is extends = rw (extends.is) (take_at journal extends.more n (sym is))

-- a journal that was cut back to where it began goes on with what was stored since
pub goes_on_back : {L X Y Z : Type 0} (journal_of : L → List Entry) (clock_of kept_of : L → ℕ) (old stored back new : L)
    (first : Result X Refusal) (second : Result Y Refusal) (result : Result Z Refusal) (n : ℕ)
    → GoesOn journal_of clock_of kept_of old stored first → journal_of back ≡ take n (journal_of stored) → n ≡ length (journal_of old)
    → clock_of back ≡ clock_of stored → kept_of back ≡ kept_of stored → GoesOn journal_of clock_of kept_of back new second
    → IfErr result (λ refusal. refusal ≡ NoMemory) → GoesOn journal_of clock_of kept_of old new result
goes_on_back journal_of clock_of kept_of old stored back new first second result n before cut present clock kept after refusal = record {
  extends = subst (λ j. Extends j (journal_of new)) (cut ∙ cut_back (journal_of old) (journal_of stored) n present before.extends) after.extends;
  refusal = refusal;
  clock = after.clock ∙ clock ∙ before.clock;
  kept = after.kept ∙ kept ∙ before.kept;
}

-- of a chain that is open nothing is stored but what its failed event leaves
failed_if_open : {E : Type 0} (kind : Kind E) (journal : List Entry) (chain : Chain E) (own : Option (OwnFailure E)) (end : Placed E)
    → step_of_chain kind journal chain own (Some end) ≡ failed_step kind journal chain own
failed_if_open kind journal chain None end = refl
failed_if_open kind journal chain (Some own) end = refl

pub open_taken : {E : Type 0} (kind : Kind E) (journal stored back left : List Entry) (n : ℕ) (events : List (Placed E)) (end : Placed E) (own : Option (OwnFailure E))
    (before noted told : List Failure)
    → own ≡ first_failure kind journal events → back ≡ take n stored → n ≡ length journal → Extends journal stored → left ≡ back ++ entries_left kind own
    → noted ≡ before ++ failures_of own events → told ≡ noted ++ record { index = end.index; outcome = outcome.LinkedEventChainOpen } ∷ []
    → IsStepTaken (chain_step kind journal (record { events = events; open_end = Some end })) left before told
open_taken kind journal stored back left n events end own before noted told first cut present extends stays notes tells =
    let chain : Chain _ = record { events = events; open_end = Some end } in
    let step : chain_step kind journal chain ≡ failed_step kind journal chain own =
    ap (λ o. step_of_chain kind journal chain o (Some end)) (sym first) ∙ failed_if_open kind journal chain own end in
    subst (λ (s : Step). IsStepTaken s left before told) (sym step) (record {
      stored = stays ∙ ap (λ j. j ++ entries_left kind own) (cut ∙ cut_back journal stored n present extends);
      failures = tells ∙ ap (λ f. f ++ record { index = end.index; outcome = outcome.LinkedEventChainOpen } ∷ []) notes
          ∙ append_assoc before (failures_of own events) (record { index = end.index; outcome = outcome.LinkedEventChainOpen } ∷ []);
    })

-- nor of one with an event that failed, and all of one without
pub closed_taken : {E : Type 0} (kind : Kind E) (journal stored back left : List Entry) (n : ℕ) (events : List (Placed E)) (own : Option (OwnFault E))
    (before noted : List Failure)
    → is_some own ≡ true → option_map own_failure_of own ≡ first_failure kind journal events → back ≡ take n stored → n ≡ length journal → Extends journal stored
    → left ≡ back ++ entries_left kind (option_map own_failure_of own) → noted ≡ before ++ failures_of (option_map own_failure_of own) events
    → IsStepTaken (chain_step kind journal (record { events = events; open_end = None })) left before noted
closed_taken kind journal stored back left n events None before noted failed first cut present extends stays notes = absurd (cc)
closed_taken kind journal stored back left n events (Some o) before noted failed first cut present extends stays notes =
    let own = Some (own_failure_of o) in
    subst (λ own. IsStepTaken (step_of_chain kind journal (record { events = events; open_end = None }) own None) left before noted) first (record {
      stored = stays ∙ ap (λ j. j ++ entries_left kind own) (cut ∙ cut_back journal stored n present extends);
      failures = notes ∙ ap (λ f. before ++ f) (sym (append-nil (failures_of own events)));
    })

pub closed_stored : {E : Type 0} (kind : Kind E) (journal stored : List Entry) (events : List (Placed E)) (own : Option (OwnFault E)) (before : List Failure)
    → is_some own ≡ false → option_map own_failure_of own ≡ first_failure kind journal events → (own ≡ None → stored ≡ with_events kind journal events)
    → IsStepTaken (chain_step kind journal (record { events = events; open_end = None })) stored before before
closed_stored kind journal stored events (Some o) before fine first all = absurd (cc)
closed_stored kind journal stored events None before fine first all =
    subst (λ own. IsStepTaken (step_of_chain kind journal (record { events = events; open_end = None }) own None) stored before before) first
    (record { stored = all refl; failures = sym (append-nil before) })

-- a sound journal can grow by what the event that failed by itself leaves
pub left_grows : {E : Type 0} (kind : Kind E) (keeps : KeepsEvents kind) (before moment : ℕ) (journal : List Entry) (own : Option (OwnFault E))
    → IsSoundAt before journal → All (IsAdmitted journal) (entries_left kind (option_map own_failure_of own))
    → IfSome own (λ o. before < o.timestamp) → IfSome own (λ o. o.timestamp ≤ moment) → moment ≤ last_timestamp
    → All (CanGrow journal) (entries_left kind (option_map own_failure_of own))
left_grows kind keeps before moment journal None sound admitted later earlier in_range = All-nil (CanGrow journal)
left_grows kind keeps before moment journal (Some o) sound admitted later earlier in_range =
    λ k d within.
    let at = keeps.left o.timestamp o.event o.outcome k d within in
    can_grow before journal (get_or (kind.left_by o.timestamp o.event o.outcome) k d) sound (omega (arith, at, later)) (omega (arith, at, earlier)) (admitted k d within)

sound_at_left : (before moment : ℕ) (journal left : List Entry) → length left ≤ 1 → before ≤ moment → IsSoundAt before journal → All (CanGrow journal) left
    → All (λ e. before < timestamp_of e) left → All (λ e. timestamp_of e ≤ moment) left → IsSoundAt moment (journal ++ left)
sound_at_left before moment journal [] one later sound grows after within =
    subst (IsSoundAt moment) (sym (append-nil journal)) (sound_at_later before moment journal later sound)
sound_at_left before moment journal (e ∷ []) one later sound grows after within =
    sound_at_later (timestamp_of e) moment (journal ++ e ∷ []) (within 0 e (omega arith))
    (sound_at_push before journal e sound (grows 0 e (omega arith)) (after 0 e (omega arith)))
sound_at_left before moment journal (e ∷ f ∷ left) one later sound grows after within = absurd (omega (arith, one))

-- and is sound with it
pub left_sound : {E : Type 0} (kind : Kind E) (keeps : KeepsEvents kind) (before moment : ℕ) (journal : List Entry) (own : Option (OwnFault E))
    → IsSoundAt before journal → All (CanGrow journal) (entries_left kind (option_map own_failure_of own)) → before ≤ moment
    → IfSome own (λ o. before < o.timestamp) → IfSome own (λ o. o.timestamp ≤ moment)
    → IsSoundAt moment (journal ++ entries_left kind (option_map own_failure_of own))
left_sound kind keeps before moment journal None sound grows later after within =
    sound_at_left before moment journal [] (omega arith) later sound grows (All-nil (λ e. before < timestamp_of e)) (All-nil (λ e. timestamp_of e ≤ moment))
left_sound kind keeps before moment journal (Some o) sound grows later after within =
    let left = kind.left_by o.timestamp o.event o.outcome in
    let at = keeps.left o.timestamp o.event o.outcome in
    sound_at_left before moment journal left (keeps.one_left o.timestamp o.event o.outcome) later sound grows
    (All-weaker (λ e. timestamp_of e ≡ o.timestamp) (λ e. before < timestamp_of e) (λ e p. omega (arith, p, after)) left at)
    (All-weaker (λ e. timestamp_of e ≡ o.timestamp) (λ e. timestamp_of e ≤ moment) (λ e p. omega (arith, p, within)) left at)

-- what the failed event leaves can be stored on the journal that was gone back to
pub left_can_follow : {E : Type 0} (kind : Kind E) (keeps : KeepsEvents kind) (before moment : ℕ) (journal stored back : List Entry) (n : ℕ) (own : Option (OwnFault E))
    → IsSoundAt before journal → All (IsAdmitted journal) (entries_left kind (option_map own_failure_of own))
    → IfSome own (λ o. before < o.timestamp) → IfSome own (λ o. o.timestamp ≤ moment) → moment ≤ last_timestamp
    → back ≡ take n stored → n ≡ length journal → Extends journal stored
    → All (CanGrow back) (entries_left kind (option_map own_failure_of own))
left_can_follow kind keeps before moment journal stored back n own sound admitted later earlier in_range cut present extends =
    subst (λ j. All (CanGrow j) (entries_left kind (option_map own_failure_of own))) (sym (cut ∙ cut_back journal stored n present extends))
    (left_grows kind keeps before moment journal own sound admitted later earlier in_range)

-- and that journal is sound with it
pub left_stands : {E : Type 0} (kind : Kind E) (keeps : KeepsEvents kind) (before moment : ℕ) (journal stored back left : List Entry) (n : ℕ) (own : Option (OwnFault E))
    → IsSoundAt before journal → All (IsAdmitted journal) (entries_left kind (option_map own_failure_of own))
    → IfSome own (λ o. before < o.timestamp) → IfSome own (λ o. o.timestamp ≤ moment) → moment ≤ last_timestamp → before ≤ moment
    → back ≡ take n stored → n ≡ length journal → Extends journal stored → left ≡ back ++ entries_left kind (option_map own_failure_of own)
    → IsSoundAt moment left
left_stands kind keeps before moment journal stored back left n own sound admitted later earlier in_range rises cut present extends is =
    let grows = left_grows kind keeps before moment journal own sound admitted later earlier in_range in
    subst (IsSoundAt moment) (sym (is ∙ ap (λ j. j ++ entries_left kind (option_map own_failure_of own)) (cut ∙ cut_back journal stored n present extends)))
    (left_sound kind keeps before moment journal own sound grows rises later earlier)

pub on_ok : {X F : Type 0} {P : Type 0} (r : Result X F) → P → OnOk r P
on_ok (Ok x) p = p
on_ok (Err f) p = tt

pub on_ok_map : {X F : Type 0} {P Q : Type 0} (r : Result X F) → (P → Q) → OnOk r P → OnOk r Q
on_ok_map (Ok x) f p = f p
on_ok_map (Err e) f p = tt

-- a journal that went on is no shorter
pub extends_longer : (journal longer : List Entry) (n : ℕ) → n ≡ length journal → Extends journal longer → n ≤ length longer
extends_longer journal longer n is extends = rw (extends.is) (omega (arith, is, length-append journal extends.more))

-- from the first place on, all events are left
pub placed-all : {E : Type 0} (index timestamp : ℕ) (events : List E) → placed (index + 0) (timestamp + 0) (drop 0 events) ≡ placed index timestamp events
placed-all index timestamp events =
    let first : index + 0 ≡ index = omega arith in
    let start : timestamp + 0 ≡ timestamp = omega arith in
    rw (first, start) refl

-- behind the last event nothing is left to note
pub noted-all : {E : Type 0} (own : Option (OwnFailure E)) (noted whole : List Failure) (index timestamp i : ℕ) (events : List E) → length events ≤ i
    → noted ++ failures_of own (placed (index + i) (timestamp + i) (drop i events)) ≡ whole → noted ≡ whole
noted-all own noted whole index timestamp i events past is =
    sym (ap (λ es. noted ++ failures_of own (placed (index + i) (timestamp + i) es)) (drop_all i events past) ∙ append-nil noted) ∙ is
