-- What a batch or a pulse stores is counted by its events and its reply.
use mathlib.Core.List.{IsPrefix}
use Rattle.std.proofs.Common.{◌≡◌, ℕ, ◌+◌, ◌≤◌, List, [], ◌∷◌, ◌++◌, Option, Some, None, Bool, true, false, refl, sym, subst, ap, arith, take, length, length-append, length-take-le, append_assoc, append-nil, ◌∙◌}
use Rattle.std.specs.Prelude.{if◌then◌else◌, map, max}
use Rattle.tf_records.specs.declared.outcome.Outcome.{Outcome}
use Rattle.tf_records.specs.declared.transfer.Transfer.{Transfer}
use Rattle.tf_journal.specs.declared.entry.Entry.{Entry}
use Rattle.tf_journal.specs.declared.entry.Entry.TheVariants as entry
use Rattle.tf_journal.specs.Due.{due, expiries_of, pulse_count, pulse_step}
use Rattle.tf_journal.specs.Verdict.{is_transient}
use Rattle.tf_events.specs.Batch.{batch_step, chains_from, chains_of, chains_step, placed}
use Rattle.tf_events.specs.Chain.{Kind, Placed, Chain, OwnFailure, Step, chain_step, entries_left, failures_of, first_failure, open_failure, step_of_chain, with_event, with_events}
use Rattle.tf_events.specs.Chain as kind
use Rattle.tf_store.specs.Book.{book_of, counts, fails, failed_of}
use Rattle.tf_store.specs.Receipt.{Batch, accounts, transfers, count_of, step_of}

pub begins_itself : (journal : List Entry) → IsPrefix journal journal
begins_itself journal = ([], append-nil journal)

pub begins_more : (first second third : List Entry) → IsPrefix first second → IsPrefix second third → IsPrefix first third
begins_more first second third (more, is) (further, goes) =
    (more ++ further, sym (append_assoc first more further) ∙ ap (λ l. l ++ further) is ∙ goes)

-- a list's image grows as the list does
pub map-append : {X Y : Type 0} (f : X → Y) (xs : List X) (y : X) → map f (xs ++ y ∷ []) ≡ map f xs ++ f y ∷ []
map-append f [] y = refl
map-append f (x ∷ xs) y = ap (λ l. f x ∷ l) (map-append f xs y)

pub book-append : (journal more : List Entry) → book_of (journal ++ more) ≡ book_of journal + book_of more
book-append [] more = omega arith
book-append (e ∷ journal) more = omega (arith, book-append journal more)

counted_once : (e : Entry) → counts e + fails e ≡ 1
counted_once (entry.Account account) = refl
counted_once (entry.Transfer transfer) = refl
counted_once (entry.Expiry timestamp pending) = refl
counted_once (entry.Failed timestamp id) = refl

-- each entry counts or is a failed id
pub book_and_failed : (journal : List Entry) → book_of journal + failed_of journal ≡ length journal
book_and_failed [] = refl
book_and_failed (e ∷ journal) = omega (arith, book_and_failed journal, counted_once e)

pub book_begins : (first whole : List Entry) → IsPrefix first whole → book_of first ≤ book_of whole
book_begins first whole (more, is) = subst (λ l. book_of first ≤ book_of l) is (omega (arith, book-append first more))

-- what a kind of event stores counts, and what a failure leaves doesn't
pub record CountsEvents {E : Type 0} (kind : Kind E) : Type 0 where
  pub entry : (journal : List Entry) (timestamp : ℕ) (e : E) → counts (kind.entry journal timestamp e) ≡ 1
  pub left : (timestamp : ℕ) (e : E) (o : Outcome) → book_of (kind.left_by timestamp e o) ≡ 0

-- a step that starts from a journal, stores some of so many events, and names the others
pub record Grew (journal : List Entry) (step : Step) (size : ℕ) : Type 0 where
  pub begins : IsPrefix journal step.journal
  pub all : book_of step.journal + length step.failures ≡ book_of journal + size

abbrev pub size_of : {E : Type 0} → Chain E → ℕ
size_of chain = length chain.events + length (open_failure chain.open_end)

abbrev pub total : {E : Type 0} → List (Chain E) → ℕ
total [] = 0
total (chain ∷ chains) = size_of chain + total chains

begins_one_more : (journal : List Entry) (e : Entry) → IsPrefix journal (journal ++ e ∷ [])
begins_one_more journal e = (e ∷ [], refl)

events_begin : {E : Type 0} (kind : Kind E) (journal : List Entry) (events : List (Placed E)) → IsPrefix journal (with_events kind journal events)
events_begin kind journal [] = begins_itself journal
events_begin kind journal (e ∷ events) =
    begins_more journal (with_event kind journal e) (with_events kind (with_event kind journal e) events)
    (begins_one_more journal (kind.entry journal e.timestamp e.event)) (events_begin kind (with_event kind journal e) events)

events_count : {E : Type 0} (kind : Kind E) → CountsEvents kind → (journal : List Entry) (events : List (Placed E))
    → book_of (with_events kind journal events) ≡ book_of journal + length events
events_count kind one journal [] = omega arith
events_count kind one journal (e ∷ events) =
    let stored = kind.entry journal e.timestamp e.event in
    omega (arith, events_count kind one (with_event kind journal e) events, book-append journal (stored ∷ []), one.entry journal e.timestamp e.event)

left_count : {E : Type 0} (kind : Kind E) → CountsEvents kind → (own : Option (OwnFailure E)) → book_of (entries_left kind own) ≡ 0
left_count kind one None = refl
left_count kind one (Some own) = one.left own.failed.timestamp own.failed.event own.outcome

length-failures : {E : Type 0} (own : Option (OwnFailure E)) (events : List (Placed E)) → length (failures_of own events) ≡ length events
length-failures own [] = refl
length-failures own (e ∷ events) = omega (arith, length-failures own events)

length-both : {X : Type 0} (xs ys : List X) → length (xs ++ ys) ≡ length xs + length ys
length-both xs ys = length-append xs ys

failed_grew : {E : Type 0} (kind : Kind E) → CountsEvents kind → (journal : List Entry) (events : List (Placed E)) (end : Option (Placed E)) (own : Option (OwnFailure E))
    → Grew journal (record { journal = journal ++ entries_left kind own; failures = failures_of own events ++ open_failure end }) (length events + length (open_failure end))
failed_grew kind one journal events end own = record {
  begins = (entries_left kind own, refl);
  all = omega (arith, book-append journal (entries_left kind own), left_count kind one own, length-both (failures_of own events) (open_failure end), length-failures own events);
}

chain_grew : {E : Type 0} (kind : Kind E) → CountsEvents kind → (journal : List Entry) (events : List (Placed E)) (own : Option (OwnFailure E)) (end : Option (Placed E))
    → Grew journal (step_of_chain kind journal (record { events = events; open_end = end }) own end) (length events + length (open_failure end))
chain_grew kind one journal events None None = record {
  begins = events_begin kind journal events;
  all = omega (arith, events_count kind one journal events);
}
chain_grew kind one journal events None (Some end) = failed_grew kind one journal events (Some end) None
chain_grew kind one journal events (Some own) None = failed_grew kind one journal events None (Some own)
chain_grew kind one journal events (Some own) (Some end) = failed_grew kind one journal events (Some end) (Some own)

pub chains_grew : {E : Type 0} (kind : Kind E) → CountsEvents kind → (journal : List Entry) (chains : List (Chain E)) → Grew journal (chains_step kind journal chains) (total chains)
chains_grew kind one journal [] = record { begins = begins_itself journal; all = omega arith }
chains_grew kind one journal (chain ∷ chains) =
    let step = chain_step kind journal chain in
    let first : Grew journal step (size_of chain) = chain_grew kind one journal chain.events (first_failure kind journal chain.events) chain.open_end in
    let rest = chains_grew kind one step.journal chains in
    record {
      begins = begins_more journal step.journal (chains_step kind step.journal chains).journal first.begins rest.begins;
      all = omega (arith, first.all, rest.all, length-both step.failures (chains_step kind step.journal chains).failures);
    }

total-from : {E : Type 0} (kind : Kind E) (begun : List (Placed E)) (e : Placed E) (events : List (Placed E))
    → total (chains_from kind begun (e ∷ events)) ≡ length begun + length (e ∷ events)
total-from kind begun e [] = last (kind.linked e.event) where
  last : (linked : Bool) → total ((if linked then record { events = begun; open_end = Some e } else record { events = begun ++ e ∷ []; open_end = None }) ∷ []) ≡ length begun + 1
  last true = omega arith
  last false = omega (arith, length-both begun (e ∷ []))
total-from kind begun e (f ∷ events) = next (kind.linked e.event) (total-from kind (begun ++ e ∷ []) f events) (omega (arith, total-from kind [] f events)) where
  next : (linked : Bool) → total (chains_from kind (begun ++ e ∷ []) (f ∷ events)) ≡ length (begun ++ e ∷ []) + length (f ∷ events)
      → total (chains_from kind [] (f ∷ events)) ≡ length (f ∷ events)
      → total (if linked then chains_from kind (begun ++ e ∷ []) (f ∷ events) else record { events = begun ++ e ∷ []; open_end = None } ∷ chains_from kind [] (f ∷ events))
      ≡ length begun + length (e ∷ f ∷ events)
  next true linked apart = omega (arith, linked, length-both begun (e ∷ []))
  next false linked apart = omega (arith, apart, length-both begun (e ∷ []))

total-of : {E : Type 0} (kind : Kind E) (events : List (Placed E)) → total (chains_of kind events) ≡ length events
total-of kind [] = refl
total-of kind (e ∷ events) = omega (arith, total-from kind [] e events)

length-placed : {E : Type 0} (index timestamp : ℕ) (events : List E) → length (placed index timestamp events) ≡ length events
length-placed index timestamp [] = refl
length-placed index timestamp (e ∷ events) = omega (arith, length-placed (index + 1) (timestamp + 1) events)

batch_grew : {E : Type 0} (kind : Kind E) → CountsEvents kind → (journal : List Entry) (clock : ℕ) (events : List E) (now : ℕ)
    → Grew journal (batch_step kind journal clock events now) (length events)
batch_grew kind one journal clock events now =
    let all = placed 0 (max now clock + 1) events in
    subst (Grew journal (batch_step kind journal clock events now)) (total-of kind all ∙ length-placed 0 (max now clock + 1) events)
    (chains_grew kind one journal (chains_of kind all))

accounts_count : CountsEvents kind.accounts
accounts_count = record { entry = λ journal timestamp e. refl; left = λ timestamp e o. refl }

left_failed : (timestamp : ℕ) (e : Transfer) (transient : Bool) → book_of (if transient then entry.Failed timestamp e.id ∷ [] else []) ≡ 0
left_failed timestamp e true = refl
left_failed timestamp e false = refl

transfers_count : CountsEvents kind.transfers
transfers_count = record { entry = λ journal timestamp e. refl; left = λ timestamp e o. left_failed timestamp e (is_transient o) }

-- what a batch of either kind stores and what it answers are all of its events
pub step_grew : (events : Batch) (journal : List Entry) (clock now : ℕ) → Grew journal (step_of events journal clock now) (count_of events)
step_grew (accounts events) journal clock now = batch_grew kind.accounts accounts_count journal clock events now
step_grew (transfers events) journal clock now = batch_grew kind.transfers transfers_count journal clock events now

expiries_count : (timestamp : ℕ) (expired : List Transfer) → book_of (expiries_of timestamp expired) ≡ length expired
expiries_count timestamp [] = refl
expiries_count timestamp (first ∷ expired) = omega (arith, expiries_count (timestamp + 1) expired)

-- what a pulse stores is what it answers
pub pulse_grew : (journal : List Entry) (clock now most : ℕ) → IsPrefix journal (pulse_step journal clock now most).journal
pulse_grew journal clock now most = (expiries_of (max now clock + 1) (take (pulse_count journal (max now clock) most) (due journal (max now clock))), refl)

pub pulse_counts : (journal : List Entry) (clock now most : ℕ)
    → book_of (pulse_step journal clock now most).journal ≡ book_of journal + (pulse_step journal clock now most).count
pulse_counts journal clock now most =
    let moment = max now clock in
    let count = pulse_count journal moment most in
    let expired = take count (due journal moment) in
    omega (arith, book-append journal (expiries_of (moment + 1) expired), expiries_count (moment + 1) expired, length-take-le count (due journal moment) (omega arith))
