-- A chain's step leaves no linked record without its next one.
use Rattle.std.proofs.Common.{◌≡◌, ℕ, ◌+◌, ◌-◌, ◌<◌, List, [], ◌∷◌, ◌++◌, Option, Some, None, false, subst, sym, ap, arith, take, length, get_or, append_assoc, append-nil, ◌∙◌, inl, inr}
use Rattle.std.proofs.lemmas.Bool.{false≢true}
use Rattle.std.proofs.lemmas.List.{get_or_default}
use Rattle.std.specs.List.{All}
use Rattle.std.proofs.lemmas.List.Elements.{All-head, All-tail}
use Rattle.tf_journal.specs.declared.entry.Entry.{Entry}
use Rattle.tf_journal.specs.Lawful.{AreChained, IsNextOf, is_linked_entry}
use Rattle.tf_events.specs.Batch.{chains_of, chains_step, placed}
use Rattle.tf_events.specs.Chain.{Kind, Placed, OwnFailure, first_failure, step_of_chain, with_event, with_events}
use Rattle.tf_events.specs.Walk.{KeepsEvents, chain_length}
use Rattle.tf_events.proofs.Cuts.{linked_or_not, place, single_closed, single_open, split_last}

chained_append : (journal more : List Entry) → AreChained journal → AreChained more → AreChained (journal ++ more)
chained_append [] more chained next = next
chained_append (x ∷ []) [] chained next = chained
chained_append (x ∷ []) (y ∷ more) chained next = (λ linked. absurd (false≢true (sym chained ∙ linked)), next)
chained_append (x ∷ y ∷ journal) more chained next = (chained.0, chained_append (y ∷ journal) more chained.1 next)

chained_unlinked : (entries : List Entry) → All (λ e. is_linked_entry e ≡ false) entries → AreChained entries
chained_unlinked [] unlinked = tt
chained_unlinked (e ∷ []) unlinked = All-head (λ x. is_linked_entry x ≡ false) e [] unlinked
chained_unlinked (e ∷ f ∷ entries) unlinked =
    let first = All-head (λ x. is_linked_entry x ≡ false) e (f ∷ entries) unlinked in
    (λ linked. absurd (false≢true (sym first ∙ linked)), chained_unlinked (f ∷ entries) (All-tail (λ x. is_linked_entry x ≡ false) e (f ∷ entries) unlinked))

-- the records of events, behind a journal
abbrev records : {E : Type 0} → Kind E → List Entry → List (Placed E) → List Entry
records kind journal [] = []
records kind journal (e ∷ events) = kind.entry journal e.timestamp e.event ∷ records kind (with_event kind journal e) events

with_events-records : {E : Type 0} (kind : Kind E) (journal : List Entry) (events : List (Placed E)) → with_events kind journal events ≡ journal ++ records kind journal events
with_events-records kind journal [] = sym (append-nil journal)
with_events-records kind journal (e ∷ events) =
    with_events-records kind (with_event kind journal e) events
    ∙ append_assoc journal (kind.entry journal e.timestamp e.event ∷ []) (records kind (with_event kind journal e) events)

-- the last of these events isn't linked
abbrev EndsUnlinked : {E : Type 0} → Kind E → List E → Type 0
EndsUnlinked kind [] = Unit {0}
EndsUnlinked kind (e ∷ []) = kind.linked e ≡ false
EndsUnlinked kind (e ∷ f ∷ events) = EndsUnlinked kind (f ∷ events)

ends_unlinked : {E : Type 0} (kind : Kind E) (front : List E) (last : E) → kind.linked last ≡ false → EndsUnlinked kind (front ++ last ∷ [])
ends_unlinked kind [] last ends = ends
ends_unlinked kind (e ∷ []) last ends = ends
ends_unlinked kind (e ∷ f ∷ front) last ends = ends_unlinked kind (f ∷ front) last ends

chained_records : {E : Type 0} (kind : Kind E) (keeps : KeepsEvents kind) (journal : List Entry) (index timestamp : ℕ) (events : List E) → EndsUnlinked kind events
    → AreChained (records kind journal (placed index timestamp events))
chained_records kind keeps journal index timestamp [] ends = tt
chained_records kind keeps journal index timestamp (e ∷ []) ends = keeps.linked journal timestamp e ∙ ends
chained_records kind keeps journal index timestamp (e ∷ f ∷ events) ends =
    let after = with_event kind journal (place index timestamp e) in
    let next : IsNextOf (kind.entry journal timestamp e) (kind.entry after (timestamp + 1) f) = record {
      kind = keeps.one_kind journal after timestamp (timestamp + 1) e f;
      timestamp = keeps.timestamp after (timestamp + 1) f ∙ ap (λ t. t + 1) (sym (keeps.timestamp journal timestamp e));
    } in
    (λ linked. next, chained_records kind keeps after (index + 1) (timestamp + 1) (f ∷ events) ends)

-- what a chain that isn't open leaves, by what failed in it
chained_closed : {E : Type 0} (kind : Kind E) (keeps : KeepsEvents kind) (journal : List Entry) (index timestamp : ℕ) (events : List E) (own : Option (OwnFailure E))
    → EndsUnlinked kind events → AreChained journal
    → AreChained (step_of_chain kind journal (record { events = placed index timestamp events; open_end = None }) own None).journal
chained_closed kind keeps journal index timestamp events None ends chained =
    subst AreChained (sym (with_events-records kind journal (placed index timestamp events)))
    (chained_append journal (records kind journal (placed index timestamp events)) chained (chained_records kind keeps journal index timestamp events ends))
chained_closed kind keeps journal index timestamp events (Some own) ends chained =
    let left = kind.left_by own.failed.timestamp own.failed.event own.outcome in
    chained_append journal left chained (chained_unlinked left (keeps.unlinked own.failed.timestamp own.failed.event own.outcome))

-- and what an open one leaves
chained_open : {E : Type 0} (kind : Kind E) (keeps : KeepsEvents kind) (journal : List Entry) (events : List (Placed E)) (end : Placed E) (own : Option (OwnFailure E))
    → AreChained journal → AreChained (step_of_chain kind journal (record { events = events; open_end = Some end }) own (Some end)).journal
chained_open kind keeps journal events end None chained = subst AreChained (sym (append-nil journal)) chained
chained_open kind keeps journal events end (Some own) chained =
    let left = kind.left_by own.failed.timestamp own.failed.event own.outcome in
    chained_append journal left chained (chained_unlinked left (keeps.unlinked own.failed.timestamp own.failed.event own.outcome))

chained_one_with : {E : Type 0} (kind : Kind E) (keeps : KeepsEvents kind) (journal : List Entry) (index timestamp : ℕ) (front : List E) (last : E)
    → chain_length kind (front ++ last ∷ []) ≡ length (front ++ last ∷ []) → AreChained journal
    → AreChained (chains_step kind journal (chains_of kind (placed index timestamp (front ++ last ∷ [])))).journal
chained_one_with kind keeps journal index timestamp front last one chained =
    let events = front ++ last ∷ [] in
    elim (linked_or_not (kind.linked last)) [
      | inl linked ↦ subst (λ chains. AreChained (chains_step kind journal chains).journal) (sym (single_open kind [] index timestamp front last one linked))
          (chained_open kind keeps journal (placed index timestamp front) (place (index + length front) (timestamp + length front) last)
          (first_failure kind journal (placed index timestamp front)) chained)
      | inr ends ↦ subst (λ chains. AreChained (chains_step kind journal chains).journal) (sym (single_closed kind [] index timestamp front last one ends))
          (chained_closed kind keeps journal index timestamp events (first_failure kind journal (placed index timestamp events)) (ends_unlinked kind front last ends) chained)
    ]

-- the step of one chain keeps a journal chained
pub chained_one : {E : Type 0} (kind : Kind E) (keeps : KeepsEvents kind) (journal : List Entry) (index timestamp : ℕ) (events : List E)
    → chain_length kind events ≡ length events → 0 < length events → AreChained journal
    → AreChained (chains_step kind journal (chains_of kind (placed index timestamp events))).journal
chained_one kind keeps journal index timestamp [] one some chained = absurd (omega (arith, some))
chained_one kind keeps journal index timestamp (e ∷ rest) one some chained =
    let events = e ∷ rest in
    let last = get_or events (length events - 1) e in
    let is : last ≡ get_or events (length events - 1) last = get_or_default events (length events - 1) e last (omega arith) in
    let split = split_last events last some is in
    subst (λ all. AreChained (chains_step kind journal (chains_of kind (placed index timestamp all))).journal) (sym split)
    (chained_one_with kind keeps journal index timestamp (take (length events - 1) events) last (subst (λ all. chain_length kind all ≡ length all) split one) chained)
