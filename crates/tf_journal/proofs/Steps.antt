-- How one more entry changes the sums of an account.
use Rattle.std.proofs.Common.{◌≡◌, ℕ, ◌+◌, Bool, true, false, not, ◌&&◌, List, [], ◌∷◌, ◌++◌, get_or, Option, Some, None, refl, ap, sym, ◌∙◌, subst, arith, inl, inr}
use Rattle.std.specs.Prelude.{◌==◌, if◌then◌else◌}
use Rattle.std.specs.List.{cons_option, filter_map, find, sum_by}
use Rattle.std.specs.Option.{option_map_or}
use Rattle.std.proofs.lemmas.Bool.{and_cases, and_from, and_left, both_ways, eqb-true, eqb-false, eq-eqb, ne_eqb, not_from_true, not_from_false, and_right}
use Rattle.std.proofs.lemmas.Option.{same_Some}
use Rattle.std.proofs.lemmas.List.Sums.{sum_by-cons, sum_by_push}
use Rattle.tf_records.specs.declared.transfer.Transfer.{Transfer}
use Rattle.tf_journal.specs.declared.entry.Entry.{Entry}
use Rattle.tf_journal.specs.declared.entry.Entry.TheVariants as entry
use Rattle.tf_journal.specs.declared.side.Side.{Side}
use Rattle.tf_journal.specs.Balances.{account_on, pending_amount, pending_by, pending_on, posted_amount, posted_by, posted_on}
use Rattle.tf_journal.specs.Flags.{is_pending, is_settling}
use Rattle.tf_journal.specs.Journal.{transfer_in, transfers_of}
use Rattle.tf_journal.specs.Laws.{settles}
use Rattle.tf_journal.specs.Lawful.{IsAdmitted, IsSound}
use Rattle.tf_journal.specs.Ledger.{CanGrow}
use Rattle.tf_journal.specs.Lookup.{transfer_with_id}
use Rattle.tf_journal.specs.Status.{is_open}
use Rattle.tf_journal.specs.Steps.{amount_on, released, set_aside}
use Rattle.tf_journal.proofs.Accepted.{IsNewSettling, transfer_is_new, transfer_new}
use Rattle.tf_journal.proofs.Lists.{IsRare, find_passes, sum_by_same, sum_by_step}
use Rattle.tf_journal.proofs.Settling.{IsNewExpiry, expiry_names, expiry_new, is_pending_at, moving_settles_nothing, new_is_open, open_push, pending_at_is_rare, settles_its_own, settles_no_other}
use Rattle.tf_journal.proofs.Sound.{all_earlier}
use Rattle.tf_journal.proofs.Unique.{sound_unique}

-- what one more entry posts
pub posted_push : (journal : List Entry) (e : Entry) (side : Side) (id : ℕ) → posted_on (journal ++ e ∷ []) side id ≡ posted_on journal side id + posted_by side id e
posted_push journal e side id = sum_by_push (posted_by side id) journal e

-- a sum over what a function gives of the elements is a sum over the elements
pub sum_by-filter_map : {X Y : Type 0} (h : X → Option Y) (over : X → ℕ) (f : Y → ℕ) → ((x : X) → over x ≡ option_map_or f (h x) 0)
    → (xs : List X) → sum_by over xs ≡ sum_by f (filter_map h xs)
sum_by-filter_map h over f is [] = refl
sum_by-filter_map h over f is (x ∷ xs) =
    let rest = sum_by-filter_map h over f is xs in
    let cases : (o : Option _) → over x ≡ option_map_or f o 0 → over x + sum_by f (filter_map h xs) ≡ sum_by f (cons_option o (filter_map h xs)) = elim [
      | None ↦ λ here. omega (arith, here)
      | Some y ↦ λ here. omega (arith, here, sum_by-cons f y (filter_map h xs))
    ] in
    omega (arith, sum_by-cons over x xs, rest, cases (h x) (is x))

-- what a transfer sets aside on a side of an account, after a journal
abbrev pub pending_of : List Entry → Side → ℕ → Transfer → ℕ
pending_of journal side id transfer = if account_on side transfer == id then pending_amount journal transfer else 0

pending_in : (journal : List Entry) (side : Side) (id : ℕ) (e : Entry) → pending_by journal side id e ≡ option_map_or (pending_of journal side id) (transfer_in e) 0
pending_in journal side id (entry.Account account) = refl
pending_in journal side id (entry.Transfer transfer) = refl
pending_in journal side id (entry.Expiry timestamp pending) = refl
pending_in journal side id (entry.Failed timestamp failed) = refl

-- what is pending is a sum over the transfers
pub pending_sum : (journal of : List Entry) (side : Side) (id : ℕ) → sum_by (pending_by journal side id) of ≡ sum_by (pending_of journal side id) (transfers_of of)
pending_sum journal of side id = sum_by-filter_map transfer_in (pending_by journal side id) (pending_of journal side id) (pending_in journal side id) of

-- what a transfer posts to a side of an account
abbrev pub posted_of : Side → ℕ → Transfer → ℕ
posted_of side id transfer = if account_on side transfer == id then posted_amount transfer else 0

posted_in : (side : Side) (id : ℕ) (e : Entry) → posted_by side id e ≡ option_map_or (posted_of side id) (transfer_in e) 0
posted_in side id (entry.Account account) = refl
posted_in side id (entry.Transfer transfer) = refl
posted_in side id (entry.Expiry timestamp pending) = refl
posted_in side id (entry.Failed timestamp failed) = refl

-- what is posted is a sum over the transfers
pub posted_sum : (journal : List Entry) (side : Side) (id : ℕ) → posted_on journal side id ≡ sum_by (posted_of side id) (transfers_of journal)
posted_sum journal side id = sum_by-filter_map transfer_in (posted_by side id) (posted_of side id) (posted_in side id) journal

and-true : (b : Bool) → (b && true) ≡ b
and-true true = refl
and-true false = refl

-- an entry leaves what a transfer sets aside where it doesn't settle it, or where the transfer isn't pending
unsettled_kept : (journal : List Entry) (e : Entry) (side : Side) (id : ℕ) (transfer : Transfer) → (is_pending transfer && settles transfer e) ≡ false
    → pending_of journal side id transfer ≡ pending_of (journal ++ e ∷ []) side id transfer
unsettled_kept journal e side id transfer not_settled =
    let value = λ (is_pending is_open : Bool). if account_on side transfer == id then (if is_pending && is_open then transfer.amount else 0) else 0 in
    elim (and_cases (is_pending transfer) (settles transfer e) not_settled) [
      | inl not_pending ↦
          ap (λ b. value b (is_open journal transfer)) not_pending ∙ sym (ap (λ b. value b (is_open (journal ++ e ∷ []) transfer)) not_pending)
      | inr other ↦
          let same : is_open (journal ++ e ∷ []) transfer ≡ is_open journal transfer
          = open_push journal e transfer ∙ ap (λ b. is_open journal transfer && not b) other ∙ and-true (is_open journal transfer) in
          ap (value (is_pending transfer)) (sym same)
    ]

-- an entry takes off what the transfer that it settles sets aside
settled_off : (journal : List Entry) (e : Entry) (side : Side) (id : ℕ) (transfer : Transfer) → is_pending transfer ≡ true → is_open journal transfer ≡ true
    → settles transfer e ≡ true → pending_of journal side id transfer ≡ pending_of (journal ++ e ∷ []) side id transfer + amount_on side id transfer
settled_off journal e side id transfer pending before settled =
    let after : is_open (journal ++ e ∷ []) transfer ≡ false
    = open_push journal e transfer ∙ and_right (is_open journal transfer) (not (settles transfer e)) (not_from_true (settles transfer e) settled) in
    let value = λ (is_pending is_open here : Bool). if here then (if is_pending && is_open then transfer.amount else 0) else 0 in
    let cases : (here : Bool) → value true true here ≡ value true false here + (if here then transfer.amount else 0) = elim [ true ↦ omega arith | false ↦ refl ] in
    let here = account_on side transfer == id in
    let whole : value (is_pending transfer) (is_open journal transfer) here ≡ value true true here
    = ap (λ b. value b (is_open journal transfer) here) pending ∙ ap (λ b. value true b here) before in
    let none : value (is_pending transfer) (is_open (journal ++ e ∷ []) transfer) here ≡ value true false here
    = ap (λ b. value b (is_open (journal ++ e ∷ []) transfer) here) pending ∙ ap (λ b. value true b here) after in
    whole ∙ cases here ∙ ap (λ n. n + amount_on side id transfer) (sym none)

-- what an entry takes off what was pending before it
abbrev TakesOff : List Entry → Entry → Side → ℕ → Type 0
TakesOff journal e side id =
    sum_by (pending_by journal side id) journal ≡ sum_by (pending_by (journal ++ e ∷ []) side id) journal + released journal side id e

takes_off_nothing : (journal : List Entry) (e : Entry) (side : Side) (id : ℕ) → ((transfer : Transfer) → settles transfer e ≡ false)
    → sum_by (pending_by journal side id) journal ≡ sum_by (pending_by (journal ++ e ∷ []) side id) journal
takes_off_nothing journal e side id none =
    pending_sum journal journal side id
    ∙ sum_by_same (pending_of journal side id) (pending_of (journal ++ e ∷ []) side id) (transfers_of journal) (λ k d within. let transfer = get_or (transfers_of journal) k d in unsettled_kept journal e side id transfer (and_right (is_pending transfer) (settles transfer e) (none transfer)))
    ∙ sym (pending_sum (journal ++ e ∷ []) journal side id)

takes_off_named : (journal : List Entry) (e : Entry) (side : Side) (id : ℕ) (names : Transfer → Bool) → IsRare names (transfers_of journal)
    → ((transfer : Transfer) → names transfer ≡ false → (is_pending transfer && settles transfer e) ≡ false)
    → ((transfer : Transfer) → find names (transfers_of journal) ≡ Some transfer → (is_pending transfer ≡ true) × (is_open journal transfer ≡ true) × (settles transfer e ≡ true))
    → sum_by (pending_by journal side id) journal
    ≡ sum_by (pending_by (journal ++ e ∷ []) side id) journal + option_map_or (amount_on side id) (find names (transfers_of journal)) 0
takes_off_named journal e side id names rare others named =
    let step = sum_by_step (pending_of journal side id) (pending_of (journal ++ e ∷ []) side id) (amount_on side id) names (transfers_of journal) rare
    (λ k d within failed. let transfer = get_or (transfers_of journal) k d in unsettled_kept journal e side id transfer (others transfer failed))
    (λ transfer found. let is = named transfer found in settled_off journal e side id transfer is.0 is.1 is.2) in
    omega (arith, step, pending_sum journal journal side id, pending_sum (journal ++ e ∷ []) journal side id)

-- whether a transfer has this id, as one of a sound journal at most does
abbrev pub has_id : ℕ → Transfer → Bool
has_id id transfer = transfer.id == id

pub has_id_is_rare : (journal : List Entry) (id : ℕ) → IsSound journal → IsRare (has_id id) (transfers_of journal)
has_id_is_rare journal id sound i j d before within passed =
    let first = get_or (transfers_of journal) i d in
    let second = get_or (transfers_of journal) j d in
    let same = eqb-true first.id id passed in
    ne_eqb second.id id (λ is. (sound_unique journal sound).transfers i j d before within (same ∙ sym is))

settling_takes_off : (journal : List Entry) (transfer : Transfer) (side : Side) (id : ℕ) → IsSound journal → IsNewSettling journal transfer
    → sum_by (pending_by journal side id) journal
    ≡ sum_by (pending_by (journal ++ entry.Transfer transfer ∷ []) side id) journal + option_map_or (amount_on side id) (transfer_with_id journal transfer.pending_id) 0
settling_takes_off journal transfer side id sound new =
    takes_off_named journal (entry.Transfer transfer) side id (has_id transfer.pending_id) (has_id_is_rare journal transfer.pending_id sound)
    (λ pending other. and_right (is_pending pending) (settles pending (entry.Transfer transfer)) (settles_no_other transfer pending (eqb-false pending.id transfer.pending_id other)))
    (λ pending found.
    let same : new.pending ≡ pending = same_Some new.pending pending (sym new.named ∙ found) in
    let own = eqb-true pending.id transfer.pending_id (find_passes (has_id transfer.pending_id) (transfers_of journal) pending found) in
    (subst (λ t. is_pending t ≡ true) same new.pending_is, subst (λ t. is_open journal t ≡ true) same new.pending_open, settles_its_own transfer pending new.settling own))

expiry_takes_off : (journal : List Entry) (timestamp expired : ℕ) (side : Side) (id : ℕ) → IsSound journal → IsNewExpiry journal timestamp expired
    → TakesOff journal (entry.Expiry timestamp expired) side id
expiry_takes_off journal timestamp expired side id sound new =
    takes_off_named journal (entry.Expiry timestamp expired) side id (is_pending_at expired) (pending_at_is_rare journal expired sound)
    (λ pending other. elim (and_cases (is_pending pending) (pending.timestamp == expired) other) [
      | inl not_pending ↦ and_left (is_pending pending) (expired == pending.timestamp) not_pending
      | inr later ↦ and_right (is_pending pending) (expired == pending.timestamp)
          (ne_eqb expired pending.timestamp (λ same. eqb-false pending.timestamp expired later (sym same)))
    ])
    (λ pending found.
    let same : new.transfer ≡ pending = same_Some new.transfer pending (sym (expiry_names journal timestamp expired sound new) ∙ found) in
    (subst (λ t. is_pending t ≡ true) same new.pending_is, subst (λ t. is_open journal t ≡ true) same new.pending_open, eq-eqb expired pending.timestamp (sym new.at ∙ ap (λ t. t.timestamp) same)))

takes_off_released : (journal : List Entry) (e : Entry) (side : Side) (id : ℕ) → IsSound journal → IsAdmitted journal e → TakesOff journal e side id
takes_off_released journal (entry.Account account) side id sound admitted =
    omega (arith, takes_off_nothing journal (entry.Account account) side id (λ transfer. refl))
takes_off_released journal (entry.Transfer transfer) side id sound admitted =
    let named = option_map_or (amount_on side id) (transfer_with_id journal transfer.pending_id) 0 in
    elim (transfer_new journal transfer admitted) [
      | inl new ↦
          let off : (if is_settling transfer then named else 0) ≡ named = ap (λ b. if b then named else 0) new.settling in
          omega (arith, settling_takes_off journal transfer side id sound new, off)
      | inr new ↦
          let off : (if is_settling transfer then named else 0) ≡ 0 = ap (λ b. if b then named else 0) new.moving in
          omega (arith, takes_off_nothing journal (entry.Transfer transfer) side id (λ pending. moving_settles_nothing transfer pending new.moving), off)
    ]
takes_off_released journal (entry.Expiry timestamp expired) side id sound admitted =
    expiry_takes_off journal timestamp expired side id sound (expiry_new journal timestamp expired admitted)
takes_off_released journal (entry.Failed timestamp failed) side id sound admitted =
    omega (arith, takes_off_nothing journal (entry.Failed timestamp failed) side id (λ transfer. refl))

-- a new pending transfer is open
pub new_pending_open : (journal : List Entry) (transfer : Transfer) → IsSound journal → CanGrow journal (entry.Transfer transfer) → is_pending transfer ≡ true
    → is_open (journal ++ entry.Transfer transfer ∷ []) transfer ≡ true
new_pending_open journal transfer sound grows pending =
    let e = entry.Transfer transfer in
    let id = (transfer_is_new journal transfer grows.admitted).not_stored in
    let before = new_is_open journal sound transfer id (all_earlier journal e grows.is_journal) in
    let other : settles transfer e ≡ false = elim (transfer_new journal transfer grows.admitted) [
      | inl new ↦ absurd (both_ways (is_pending transfer) new.not_pending pending)
      | inr new ↦ moving_settles_nothing transfer transfer new.moving
    ] in
    open_push journal e transfer ∙ and_from (is_open journal transfer) (not (settles transfer e)) before (not_from_false (settles transfer e) other)

aside_is : (pending is_open here : Bool) (amount : ℕ) → (pending ≡ true → is_open ≡ true)
    → (if here then (if pending && is_open then amount else 0) else 0) ≡ (if pending then (if here then amount else 0) else 0)
aside_is true true here amount opens = refl
aside_is true false here amount opens = let wrong = opens refl in cc
aside_is false is_open true amount opens = refl
aside_is false is_open false amount opens = refl

new_set_aside : (journal : List Entry) (e : Entry) (side : Side) (id : ℕ) → IsSound journal → CanGrow journal e
    → pending_by (journal ++ e ∷ []) side id e ≡ set_aside side id e
new_set_aside journal (entry.Account account) side id sound grows = refl
new_set_aside journal (entry.Transfer transfer) side id sound grows =
    aside_is (is_pending transfer) (is_open (journal ++ entry.Transfer transfer ∷ []) transfer) (account_on side transfer == id) transfer.amount
    (new_pending_open journal transfer sound grows)
new_set_aside journal (entry.Expiry timestamp expired) side id sound grows = refl
new_set_aside journal (entry.Failed timestamp failed) side id sound grows = refl

-- what one more entry does to what is pending: it releases, and it sets aside
pub pending_push : (journal : List Entry) (e : Entry) (side : Side) (id : ℕ) → IsSound journal → CanGrow journal e
    → pending_on (journal ++ e ∷ []) side id + released journal side id e ≡ pending_on journal side id + set_aside side id e
pending_push journal e side id sound grows =
    omega (arith, sum_by_push (pending_by (journal ++ e ∷ []) side id) journal e, takes_off_released journal e side id sound grows.admitted, new_set_aside journal e side id sound grows)
