-- Events cut into chains.
use Rattle.std.proofs.Common.{◌≡◌, ℕ, ◌+◌, ◌-◌, ◌<◌, ◌≤◌, List, [], ◌∷◌, ◌++◌, Some, None, Bool, true, false, subst, sym, ap, arith, drop, take, length, get_or, append_assoc, append-nil, refl, ◌∙◌, suc, add-one, inl, inr, ◌⊎◌}
use Rattle.std.proofs.lemmas.List.{drop_more, length-append, length-drop, length-take, length-take-le, take_all, take_more, take_rest}
use Rattle.tf_records.specs.declared.reply.Failure.{Failure}
use Rattle.tf_journal.specs.declared.entry.Entry.{Entry}
use Rattle.tf_events.specs.Batch.{chains_from, chains_of, chains_step, placed}
use Rattle.tf_events.specs.Chain.{Kind, Placed, chain_step}
use Rattle.tf_events.specs.Walk.{IsStepTaken, chain_length}

-- an event in its place
abbrev pub place : {E : Type 0} → ℕ → ℕ → E → Placed E
place index timestamp e = record { index = index; timestamp = timestamp; event = e }

-- an event that isn't linked ends its chain
chains_from-end : {E : Type 0} (kind : Kind E) (begun : List (Placed E)) (e : Placed E) (events : List (Placed E)) → kind.linked e.event ≡ false
    → chains_from kind begun (e ∷ events) ≡ record { events = begun ++ e ∷ []; open_end = None } ∷ chains_from kind [] events
chains_from-end kind begun e [] ends = rw ends refl
chains_from-end kind begun e (f ∷ events) ends = rw ends refl

-- a linked event goes on with its chain
chains_from-linked : {E : Type 0} (kind : Kind E) (begun : List (Placed E)) (e : Placed E) (events : List (Placed E)) → kind.linked e.event ≡ true
    → 0 < length events → chains_from kind begun (e ∷ events) ≡ chains_from kind (begun ++ e ∷ []) events
chains_from-linked kind begun e [] linked more = absurd (omega (arith, more))
chains_from-linked kind begun e (f ∷ events) linked more = rw linked refl

-- a linked event at the end of all leaves its chain open
chains_from-open : {E : Type 0} (kind : Kind E) (begun : List (Placed E)) (e : Placed E) → kind.linked e.event ≡ true
    → chains_from kind begun (e ∷ []) ≡ record { events = begun; open_end = Some e } ∷ []
chains_from-open kind begun e linked = rw linked refl

pub length-placed : {E : Type 0} (index timestamp : ℕ) (events : List E) → length (placed index timestamp events) ≡ length events
length-placed index timestamp [] = refl
length-placed index timestamp (e ∷ events) = ap suc (length-placed (index + 1) (timestamp + 1) events)

-- what an event's link says of the first chain's length
chain_length-linked : {E : Type 0} (kind : Kind E) (e : E) (events : List E) → kind.linked e ≡ true → chain_length kind (e ∷ events) ≡ chain_length kind events + 1
chain_length-linked kind e events linked = rw linked refl

chain_length-end : {E : Type 0} (kind : Kind E) (e : E) (events : List E) → kind.linked e ≡ false → chain_length kind (e ∷ events) ≡ 1
chain_length-end kind e events ends = rw ends refl

-- an event is linked, or it isn't
pub linked_or_not : (linked : Bool) → (linked ≡ true) ⊎ (linked ≡ false)
linked_or_not true = inl refl
linked_or_not false = inr refl

-- events have a first chain, which is no longer than they are
pub chain_length-some : {E : Type 0} (kind : Kind E) (events : List E) → 0 < length events → 0 < chain_length kind events
chain_length-some kind [] some = absurd (omega (arith, some))
chain_length-some kind (e ∷ events) some =
    elim (linked_or_not (kind.linked e)) [
      | inl linked ↦ omega (arith, chain_length-linked kind e events linked)
      | inr ends ↦ omega (arith, chain_length-end kind e events ends)
    ]

pub chain_length-within : {E : Type 0} (kind : Kind E) (events : List E) → chain_length kind events ≤ length events
chain_length-within kind [] = omega arith
chain_length-within kind (e ∷ events) =
    elim (linked_or_not (kind.linked e)) [
      | inl linked ↦ omega (arith, chain_length-linked kind e events linked, chain_length-within kind events)
      | inr ends ↦ omega (arith, chain_length-end kind e events ends)
    ]

-- the first chain by itself is one chain
pub chain_length-take : {E : Type 0} (kind : Kind E) (events : List E) → chain_length kind (take (chain_length kind events) events) ≡ chain_length kind events
chain_length-take kind [] = refl
chain_length-take kind (e ∷ events) =
    elim (linked_or_not (kind.linked e)) [
      | inl linked ↦
          let n = chain_length kind events in
          let here : chain_length kind (e ∷ events) ≡ suc n = chain_length-linked kind e events linked ∙ add-one n in
          subst (λ m. chain_length kind (take m (e ∷ events)) ≡ m) (sym here)
          (chain_length-linked kind e (take n events) linked ∙ ap (λ m. m + 1) (chain_length-take kind events) ∙ add-one n)
      | inr ends ↦
          subst (λ m. chain_length kind (take m (e ∷ events)) ≡ m) (sym (chain_length-end kind e events ends)) (chain_length-end kind e [] ends)
    ]

-- the first chain's events, cut off
pub first_chain_length : {E : Type 0} (kind : Kind E) (events : List E) (n : ℕ) → n ≡ chain_length kind events → length (take n events) ≡ n
first_chain_length kind events n is = length-take-le n events (omega (arith, is, chain_length-within kind events))

pub first_chain_one : {E : Type 0} (kind : Kind E) (events : List E) (n : ℕ) → n ≡ chain_length kind events → chain_length kind (take n events) ≡ length (take n events)
first_chain_one kind events n is =
    subst (λ m. chain_length kind (take m events) ≡ m) (sym is) (chain_length-take kind events) ∙ sym (first_chain_length kind events n is)

-- the cut of events that begin with a linked one, from that of those behind it
cut_linked : {E : Type 0} (kind : Kind E) (begun : List (Placed E)) (index timestamp : ℕ) (e : E) (events : List E) → kind.linked e ≡ true
    → let here = place index timestamp e in
    let n = chain_length kind events in
    let rest = placed (index + 1) (timestamp + 1) events in
    (chains_from kind (begun ++ here ∷ []) rest
    ≡ chains_from kind (begun ++ here ∷ []) (placed (index + 1) (timestamp + 1) (take n events)) ++ chains_of kind (placed (index + 1 + n) (timestamp + 1 + n) (drop n events)))
    → chains_from kind begun (here ∷ rest)
    ≡ chains_from kind begun (here ∷ placed (index + 1) (timestamp + 1) (take n events)) ++ chains_of kind (placed (index + suc n) (timestamp + suc n) (drop n events))
cut_linked kind begun index timestamp e [] linked later = sym (append-nil (chains_from kind begun (place index timestamp e ∷ [])))
cut_linked kind begun index timestamp e (f ∷ events) linked later =
    let here = place index timestamp e in
    let n = chain_length kind (f ∷ events) in
    let front = placed (index + 1) (timestamp + 1) (take n (f ∷ events)) in
    let some : 0 < n = chain_length-some kind (f ∷ events) (omega arith) in
    let within : n ≤ length (f ∷ events) = chain_length-within kind (f ∷ events) in
    let front_some : 0 < length front = omega (arith, length-placed (index + 1) (timestamp + 1) (take n (f ∷ events)), length-take n (f ∷ events)) in
    let next : index + suc n ≡ index + 1 + n = omega arith in
    let after : timestamp + suc n ≡ timestamp + 1 + n = omega arith in
    rw (next, after, chains_from-linked kind begun here front linked front_some)
    (chains_from-linked kind begun here (placed (index + 1) (timestamp + 1) (f ∷ events)) linked (omega arith) ∙ later)

-- events are cut behind their first chain
pub chains_from-cut : {E : Type 0} (kind : Kind E) (begun : List (Placed E)) (index timestamp : ℕ) (events : List E)
    → let n = chain_length kind events in
    chains_from kind begun (placed index timestamp events)
    ≡ chains_from kind begun (placed index timestamp (take n events)) ++ chains_of kind (placed (index + n) (timestamp + n) (drop n events))
chains_from-cut kind begun index timestamp [] = refl
chains_from-cut kind begun index timestamp (e ∷ events) =
    let here = place index timestamp e in
    let P : ℕ → Type 0 = λ m. chains_from kind begun (here ∷ placed (index + 1) (timestamp + 1) events)
    ≡ chains_from kind begun (placed index timestamp (take m (e ∷ events))) ++ chains_of kind (placed (index + m) (timestamp + m) (drop m (e ∷ events))) in
    elim (linked_or_not (kind.linked e)) [
      | inl linked ↦ subst P (sym (chain_length-linked kind e events linked ∙ add-one (chain_length kind events)))
          (cut_linked kind begun index timestamp e events linked (chains_from-cut kind (begun ++ here ∷ []) (index + 1) (timestamp + 1) events))
      | inr ends ↦ subst P (sym (chain_length-end kind e events ends))
          (chains_from-end kind begun here (placed (index + 1) (timestamp + 1) events) ends
          ∙ ap (λ chains. chains ++ chains_from kind [] (placed (index + 1) (timestamp + 1) events)) (sym (chains_from-end kind begun here [] ends)))
    ]

-- where one chain has all events, an event with others behind it is linked, and those are one chain
all_linked : {E : Type 0} (kind : Kind E) (e : E) (rest : List E) → 0 < length rest → chain_length kind (e ∷ rest) ≡ length (e ∷ rest)
    → (kind.linked e ≡ true) × (chain_length kind rest ≡ length rest)
all_linked kind e rest more one =
    elim (linked_or_not (kind.linked e)) [
      | inl linked ↦ (linked, omega (arith, chain_length-linked kind e rest linked, one))
      | inr ends ↦ absurd (omega (arith, chain_length-end kind e rest ends, one, more))
    ]

-- the one chain of events whose last isn't linked
pub single_closed : {E : Type 0} (kind : Kind E) (begun : List (Placed E)) (index timestamp : ℕ) (front : List E) (last : E)
    → chain_length kind (front ++ last ∷ []) ≡ length (front ++ last ∷ []) → kind.linked last ≡ false
    → chains_from kind begun (placed index timestamp (front ++ last ∷ []))
    ≡ record { events = begun ++ placed index timestamp (front ++ last ∷ []); open_end = None } ∷ []
single_closed kind begun index timestamp [] last one ends = chains_from-end kind begun (place index timestamp last) [] ends
single_closed kind begun index timestamp (e ∷ front) last one ends =
    let here = place index timestamp e in
    let rest = front ++ last ∷ [] in
    let more : length rest ≡ length front + 1 = length-append front (last ∷ []) in
    let linked = all_linked kind e rest (omega (arith, more)) one in
    chains_from-linked kind begun here (placed (index + 1) (timestamp + 1) rest) linked.0 (omega (arith, length-placed (index + 1) (timestamp + 1) rest, more))
    ∙ single_closed kind (begun ++ here ∷ []) (index + 1) (timestamp + 1) front last linked.1 ends
    ∙ ap (λ events. record { events = events; open_end = None } ∷ []) (append_assoc begun (here ∷ []) (placed (index + 1) (timestamp + 1) rest))

-- the one chain of events that are all linked
pub single_open : {E : Type 0} (kind : Kind E) (begun : List (Placed E)) (index timestamp : ℕ) (front : List E) (last : E)
    → chain_length kind (front ++ last ∷ []) ≡ length (front ++ last ∷ []) → kind.linked last ≡ true
    → chains_from kind begun (placed index timestamp (front ++ last ∷ []))
    ≡ record { events = begun ++ placed index timestamp front; open_end = Some (place (index + length front) (timestamp + length front) last) } ∷ []
single_open kind begun index timestamp [] last one linked =
    let next : index + 0 ≡ index = omega arith in
    let after : timestamp + 0 ≡ timestamp = omega arith in
    rw (next, after, append-nil begun) (chains_from-open kind begun (place index timestamp last) linked)
single_open kind begun index timestamp (e ∷ front) last one linked =
    let here = place index timestamp e in
    let rest = front ++ last ∷ [] in
    let more : length rest ≡ length front + 1 = length-append front (last ∷ []) in
    let before = all_linked kind e rest (omega (arith, more)) one in
    let next : index + suc (length front) ≡ index + 1 + length front = omega arith in
    let after : timestamp + suc (length front) ≡ timestamp + 1 + length front = omega arith in
    rw (next, after) (chains_from-linked kind begun here (placed (index + 1) (timestamp + 1) rest) before.0 (omega (arith, length-placed (index + 1) (timestamp + 1) rest, more))
    ∙ single_open kind (begun ++ here ∷ []) (index + 1) (timestamp + 1) front last before.1 linked
    ∙ ap (λ events. record { events = events; open_end = Some (place (index + 1 + length front) (timestamp + 1 + length front) last) } ∷ [])
    (append_assoc begun (here ∷ []) (placed (index + 1) (timestamp + 1) front)))

-- events are those but the last, and the last
pub split_last : {E : Type 0} (events : List E) (last : E) → 0 < length events → last ≡ get_or events (length events - 1) last
    → events ≡ take (length events - 1) events ++ last ∷ []
split_last events last some is =
    let n = length events - 1 in
    let all : n + 1 ≡ length events = omega arith in
    sym (take_all (n + 1) events (omega arith)) ∙ take_more events n last (omega arith) ∙ ap (λ x. take n events ++ x ∷ []) (sym is)

-- a chain that isn't open is stepped through by itself
pub step_closed : {E : Type 0} (kind : Kind E) (journal after : List Entry) (index timestamp : ℕ) (events : List E) (last : E) (before noted : List Failure)
    → chain_length kind events ≡ length events → 0 < length events → last ≡ get_or events (length events - 1) last → kind.linked last ≡ false
    → IsStepTaken (chain_step kind journal (record { events = placed index timestamp events; open_end = None })) after before noted
    → IsStepTaken (chains_step kind journal (chains_of kind (placed index timestamp events))) after before noted
step_closed kind journal after index timestamp events last before noted one some is ends taken =
    let split = split_last events last some is in
    let front = take (length events - 1) events in
    let chains : chains_of kind (placed index timestamp events) ≡ record { events = placed index timestamp events; open_end = None } ∷ [] =
    subst (λ all. chains_of kind (placed index timestamp all) ≡ record { events = placed index timestamp all; open_end = None } ∷ []) (sym split)
    (single_closed kind [] index timestamp front last (subst (λ all. chain_length kind all ≡ length all) split one) ends) in
    let step = chain_step kind journal (record { events = placed index timestamp events; open_end = None }) in
    rw chains (record { stored = taken.stored; failures = taken.failures ∙ ap (λ f. before ++ f) (sym (append-nil step.failures)) })

-- and so is one that is open
pub step_open : {E : Type 0} (kind : Kind E) (journal after : List Entry) (index timestamp : ℕ) (events : List E) (last : E) (before noted : List Failure)
    → chain_length kind events ≡ length events → 0 < length events → last ≡ get_or events (length events - 1) last → kind.linked last ≡ true
    → let front = take (length events - 1) events in
    let end = place (index + length front) (timestamp + length front) last in
    IsStepTaken (chain_step kind journal (record { events = placed index timestamp front; open_end = Some end })) after before noted
    → IsStepTaken (chains_step kind journal (chains_of kind (placed index timestamp events))) after before noted
step_open kind journal after index timestamp events last before noted one some is linked taken =
    let split = split_last events last some is in
    let front = take (length events - 1) events in
    let end = place (index + length front) (timestamp + length front) last in
    let chains : chains_of kind (placed index timestamp events) ≡ record { events = placed index timestamp front; open_end = Some end } ∷ [] =
    subst (λ all. chains_of kind (placed index timestamp all) ≡ record { events = placed index timestamp front; open_end = Some end } ∷ []) (sym split)
    (single_open kind [] index timestamp front last (subst (λ all. chain_length kind all ≡ length all) split one) linked) in
    let step = chain_step kind journal (record { events = placed index timestamp front; open_end = Some end }) in
    rw chains (record { stored = taken.stored; failures = taken.failures ∙ ap (λ f. before ++ f) (sym (append-nil step.failures)) })

-- all but the last of some events
pub length-front : {E : Type 0} (events : List E) → 0 < length events → length (take (length events - 1) events) + 1 ≡ length events
length-front events some = omega (arith, length-take-le (length events - 1) events (omega arith))

-- after a linked event the first chain goes on with the next
pub linked_more : {E : Type 0} (kind : Kind E) (events : List E) (i : ℕ) (e : E) → i < length events → e ≡ get_or events i e → kind.linked e ≡ true
    → chain_length kind events ≡ chain_length kind (drop i events) + i → chain_length kind events ≡ chain_length kind (drop (i + 1) events) + (i + 1)
linked_more kind events i e within is linked so_far =
    let next : drop i events ≡ e ∷ drop (i + 1) events = drop_more events i e within ∙ ap (λ x. x ∷ drop (i + 1) events) (sym is) in
    omega (arith, so_far, ap (chain_length kind) next ∙ chain_length-linked kind e (drop (i + 1) events) linked)

-- and ends with one that isn't linked
pub unlinked_last : {E : Type 0} (kind : Kind E) (events : List E) (i : ℕ) (e : E) → i < length events → e ≡ get_or events i e → kind.linked e ≡ false
    → chain_length kind events ≡ chain_length kind (drop i events) + i → i + 1 ≡ chain_length kind events
unlinked_last kind events i e within is ends so_far =
    let next : drop i events ≡ e ∷ drop (i + 1) events = drop_more events i e within ∙ ap (λ x. x ∷ drop (i + 1) events) (sym is) in
    omega (arith, so_far, ap (chain_length kind) next ∙ chain_length-end kind e (drop (i + 1) events) ends)

-- the first chain of what is left of some events ends within them
pub first_within : {E : Type 0} (kind : Kind E) (events : List E) (start n : ℕ) → start < length events → n ≡ chain_length kind (take (length events - start) (drop start events))
    → start + length (take n (take (length events - start) (drop start events))) ≤ length events
first_within kind events start n more is =
    let rest = take (length events - start) (drop start events) in
    omega (arith, first_chain_length kind rest n is, is, chain_length-within kind rest, ap length (take_rest events start), length-drop start events)
