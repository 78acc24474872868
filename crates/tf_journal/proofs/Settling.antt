-- Which pending transfer an entry posts, voids or expires.
use Rattle.std.proofs.Common.{◌≡◌, ◌≢◌, ℕ, ◌<◌, ◌-◌, Bool, true, false, not, ◌&&◌, ◌||◌, cond, List, [], ◌∷◌, ◌++◌, length, get_or, Some, None, refl, ap, sym, ◌∙◌, subst, arith, inl, inr}
use Rattle.std.specs.Prelude.{◌==◌, if◌then◌else◌}
use Rattle.std.specs.List.{All, Contains, filter, find, fold, list_any}
use Rattle.std.proofs.lemmas.Bool.{and_from, and_left, and_parts, and_right, eqb-true, eq-eqb, ne_eqb, not_from_false, or_cases, or_from, or_left, or_parts, or_right}
use Rattle.std.proofs.lemmas.List.Elements.{All-nil, All-cons, All-head, All-tail, All-contains_itself, All-get_or, filter_map-append}
use Rattle.std.proofs.lemmas.Option.{none-some, same_Some}
use Rattle.tf_records.specs.declared.transfer.Transfer.{Transfer}
use Rattle.tf_journal.specs.declared.entry.Entry.{Entry}
use Rattle.tf_journal.specs.declared.entry.Entry.TheVariants as entry
use Rattle.tf_journal.specs.declared.status.Status.{Status}
use Rattle.tf_journal.specs.declared.status.Status.TheVariants as status
use Rattle.tf_journal.specs.Due.{due, expires_before, first_of, is_due, with_expiring}
use Rattle.tf_journal.specs.Flags.{is_pending, is_post, is_settling, is_void}
use Rattle.tf_journal.specs.Journal.{timestamp_of, transfer_in, transfers_of}
use Rattle.tf_journal.specs.Laws.{settles}
use Rattle.tf_journal.specs.Lawful.{IsAdmitted, IsAdmittedExpiry, IsSound}
use Rattle.tf_journal.specs.Ledger.{CanGrow}
use Rattle.tf_journal.specs.Lookup.{transfer_with_id}
use Rattle.tf_journal.specs.Status.{expires, is_open, is_open_status, pending_at, posts, voids}
use Rattle.tf_journal.specs.Verdict.{is_overdue}
use Rattle.tf_journal.proofs.Accepted.{transfer_new}
use Rattle.tf_journal.proofs.Lists.{All_before, IsRare, find_before, find_only, list_any_push}
use Rattle.tf_journal.proofs.Sound.{by_growth}
use Rattle.tf_journal.proofs.Unique.{timestamps_differ, transfers_earlier}

-- the status where an entry posts, voids or expires, if one does
abbrev pub status_by : Bool → Bool → Bool → Status
status_by posted voided expired = if posted then status.Posted else if voided then status.Voided else if expired then status.Expired else status.Open

still_open : (posted voided expired posts_now voids_now expires_now : Bool)
    → is_open_status (status_by (posted || posts_now) (voided || voids_now) (expired || expires_now))
    ≡ (is_open_status (status_by posted voided expired) && not (posts_now || voids_now || expires_now))
still_open true voided expired a b c = refl
still_open false true expired true b c = refl
still_open false true expired false b c = refl
still_open false false true true b c = refl
still_open false false true false true c = refl
still_open false false true false false c = refl
still_open false false false true b c = refl
still_open false false false false true c = refl
still_open false false false false false true = refl
still_open false false false false false false = refl

-- after one more entry a pending transfer is open if it was before and the entry doesn't settle it
pub open_push : (journal : List Entry) (e : Entry) (pending : Transfer) → is_open (journal ++ e ∷ []) pending ≡ (is_open journal pending && not (settles pending e))
open_push journal e pending =
    ap (λ b. is_open_status (status_by b (list_any (voids pending) (journal ++ e ∷ [])) (list_any (expires pending) (journal ++ e ∷ [])))) (list_any_push (posts pending) journal e)
    ∙ ap (λ b. is_open_status (status_by (list_any (posts pending) journal || posts pending e) b (list_any (expires pending) (journal ++ e ∷ [])))) (list_any_push (voids pending) journal e)
    ∙ ap (λ b. is_open_status (status_by (list_any (posts pending) journal || posts pending e) (list_any (voids pending) journal || voids pending e) b)) (list_any_push (expires pending) journal e)
    ∙ still_open (list_any (posts pending) journal) (list_any (voids pending) journal) (list_any (expires pending) journal) (posts pending e) (voids pending e) (expires pending e)

with_expiring_All : (P : Transfer → Type 0) (transfers : List Transfer) (transfer : Transfer) → All P transfers → P transfer → All P (with_expiring transfers transfer)
with_expiring_All P [] transfer all is = All-cons P transfer [] is all
with_expiring_All P (first ∷ rest) transfer all is =
    let place : Bool → List Transfer = λ b. if b then transfer ∷ first ∷ rest else first ∷ with_expiring rest transfer in
    let cases : (b : Bool) → All P (place b) = elim [
      | true ↦ All-cons P transfer (first ∷ rest) is all
      | false ↦ All-cons P first (with_expiring rest transfer) (All-head P first rest all) (with_expiring_All P rest transfer (All-tail P first rest all) is)
    ] in
    cases (expires_before transfer first)

expiring_All : (P : Transfer → Type 0) (sorted transfers : List Transfer) → All P sorted → All P transfers → All P (fold with_expiring sorted transfers)
expiring_All P sorted [] all is = all
expiring_All P sorted (transfer ∷ transfers) all is =
    expiring_All P (with_expiring sorted transfer) transfers (with_expiring_All P sorted transfer all (All-head P transfer transfers is)) (All-tail P transfer transfers is)

filtered_All : {X : Type 0} (P : X → Type 0) (p : X → Bool) (xs : List X) → All P xs → All (λ x. P x × (p x ≡ true)) (filter p xs)
filtered_All P p [] all = All-nil _
filtered_All P p (x ∷ xs) all =
    let rest = filtered_All P p xs (All-tail P x xs all) in
    let Q = λ (y : _). P y × (p y ≡ true) in
    let cases : (b : Bool) → p x ≡ b → All Q (cond b (x ∷ filter p xs) (filter p xs)) = elim [
      | true ↦ λ passed. All-cons Q x (filter p xs) (All-head P x xs all, passed) rest
      | false ↦ λ failed. rest
    ] in
    cases (p x) refl

first_All : {X : Type 0} (P : X → Type 0) (xs : List X) (x : X) → All P xs → first_of xs ≡ Some x → P x
first_All P [] x all is = cc
first_All P (y ∷ xs) x all is = subst P (same_Some y x is) (All-head P y xs all)

-- what is due is among the transfers, and due
pub due_All : (journal : List Entry) (moment : ℕ) → All (λ t. Contains (transfers_of journal) t × (is_due journal moment t ≡ true)) (due journal moment)
due_All journal moment =
    let IsOne = λ (t : Transfer). Contains (transfers_of journal) t × (is_due journal moment t ≡ true) in
    expiring_All IsOne [] (filter (is_due journal moment) (transfers_of journal)) (All-nil IsOne)
    (filtered_All (Contains (transfers_of journal)) (is_due journal moment) (transfers_of journal) (All-contains_itself (transfers_of journal)))

-- an admitted expiry: what it says of the pending transfer that it names
pub record IsNewExpiry (journal : List Entry) (timestamp pending : ℕ) : Type 0 where
  pub transfer : Transfer
  pub place : ℕ
  pub within : place < length (transfers_of journal)
  pub there : get_or (transfers_of journal) place transfer ≡ transfer
  pub at : transfer.timestamp ≡ pending
  pub pending_is : is_pending transfer ≡ true
  pub pending_open : is_open journal transfer ≡ true
  pub overdue : is_overdue (timestamp - 1) transfer ≡ true

pub expiry_new : (journal : List Entry) (timestamp pending : ℕ) → IsAdmittedExpiry journal timestamp pending → IsNewExpiry journal timestamp pending
expiry_new journal timestamp pending admitted =
    let transfer = admitted.transfer in
    let IsOne = λ (t : Transfer). Contains (transfers_of journal) t × (is_due journal (timestamp - 1) t ≡ true) in
    let found : IsOne transfer = first_All IsOne (due journal (timestamp - 1)) transfer (due_All journal (timestamp - 1)) admitted.next in
    let both = and_parts (is_pending transfer && is_overdue (timestamp - 1) transfer) (is_open journal transfer) found.1 in
    let first = and_parts (is_pending transfer) (is_overdue (timestamp - 1) transfer) both.0 in
    record {
      transfer = transfer;
      place = found.0.0;
      within = found.0.1;
      there = found.0.2;
      at = admitted.is;
      pending_is = first.0;
      pending_open = both.1;
      overdue = first.1;
    }

-- whether a transfer is pending and has this timestamp
abbrev pub is_pending_at : ℕ → Transfer → Bool
is_pending_at timestamp transfer = is_pending transfer && transfer.timestamp == timestamp

pub pending_at_is_rare : (journal : List Entry) (timestamp : ℕ) → IsSound journal → IsRare (is_pending_at timestamp) (transfers_of journal)
pending_at_is_rare journal timestamp sound i j d before within passed =
    let first = get_or (transfers_of journal) i d in
    let second = get_or (transfers_of journal) j d in
    let at : first.timestamp ≡ timestamp = eqb-true first.timestamp timestamp (and_parts (is_pending first) (first.timestamp == timestamp) passed).1 in
    and_right (is_pending second) (second.timestamp == timestamp)
    (ne_eqb second.timestamp timestamp (λ same. timestamps_differ journal sound i j d before within (at ∙ sym same)))

-- an expiry names the pending transfer that is found at its timestamp
pub expiry_names : (journal : List Entry) (timestamp pending : ℕ) → IsSound journal → (new : IsNewExpiry journal timestamp pending) → pending_at journal pending ≡ Some new.transfer
expiry_names journal timestamp pending sound new =
    find_only (is_pending_at pending) (transfers_of journal) new.transfer new.place (pending_at_is_rare journal pending sound) new.within new.there
    (and_from (is_pending new.transfer) (new.transfer.timestamp == pending) new.pending_is (eq-eqb new.transfer.timestamp pending new.at))

-- a transfer that is no post or void settles nothing
pub moving_settles_nothing : (transfer pending : Transfer) → is_settling transfer ≡ false → settles pending (entry.Transfer transfer) ≡ false
moving_settles_nothing transfer pending moving =
    let neither = or_parts (is_post transfer) (is_void transfer) moving in
    or_from _ _ (or_from _ _ (and_left _ _ neither.0) (and_left _ _ neither.1)) refl

-- a post or void settles no pending transfer of another id
pub settles_no_other : (transfer pending : Transfer) → pending.id ≢ transfer.pending_id → settles pending (entry.Transfer transfer) ≡ false
settles_no_other transfer pending other =
    let differs = ne_eqb transfer.pending_id pending.id (λ same. other (sym same)) in
    or_from _ _ (or_from _ _ (and_right _ _ differs) (and_right _ _ differs)) refl

-- a post or void settles the pending transfer that has its id
pub settles_its_own : (transfer pending : Transfer) → is_settling transfer ≡ true → pending.id ≡ transfer.pending_id → settles pending (entry.Transfer transfer) ≡ true
settles_its_own transfer pending settling own =
    let same = eq-eqb transfer.pending_id pending.id (sym own) in
    let posted = posts pending (entry.Transfer transfer) in
    let voided = voids pending (entry.Transfer transfer) in
    let either : (posted || voided) ≡ true = elim (or_cases (is_post transfer) (is_void transfer) settling) [
      | inl post ↦ or_left posted voided (and_from (is_post transfer) (transfer.pending_id == pending.id) post same)
      | inr void ↦ or_right posted voided (and_from (is_void transfer) (transfer.pending_id == pending.id) void same)
    ] in
    or_left (posted || voided) false either

-- an admitted entry settles no pending transfer whose id isn't stored and that is later than all entries
settles_no_unstored : (journal : List Entry) (e : Entry) (pending : Transfer) → IsAdmitted journal e → transfer_with_id journal pending.id ≡ None
    → All (λ x. timestamp_of x < pending.timestamp) journal → settles pending e ≡ false
settles_no_unstored journal (entry.Account account) pending admitted unstored earlier = refl
settles_no_unstored journal (entry.Transfer transfer) pending admitted unstored earlier =
    elim (transfer_new journal transfer admitted) [
      | inl settling ↦ settles_no_other transfer pending (λ same.
          let none : transfer_with_id journal transfer.pending_id ≡ None = subst (λ id. transfer_with_id journal id ≡ None) same unstored in
          none-some settling.pending (sym none ∙ settling.named))
      | inr moving ↦ moving_settles_nothing transfer pending moving.moving
    ]
settles_no_unstored journal (entry.Expiry timestamp expired) pending admitted unstored earlier =
    let new = expiry_new journal timestamp expired admitted in
    let before = All-get_or (λ t. t.timestamp < pending.timestamp) (transfers_of journal) new.place new.transfer new.within (transfers_earlier journal pending.timestamp earlier) in
    let at : new.transfer.timestamp < pending.timestamp = subst (λ t. t.timestamp < pending.timestamp) new.there before in
    or_from _ _ refl (ne_eqb expired pending.timestamp (λ same. let of = new.at in omega arith))
settles_no_unstored journal (entry.Failed timestamp id) pending admitted unstored earlier = refl

-- a pending transfer whose id isn't stored, and that is later than all entries, is open
abbrev LeavesOpen : List Entry → Type 0
LeavesOpen journal = (pending : Transfer) → transfer_with_id journal pending.id ≡ None → All (λ x. timestamp_of x < pending.timestamp) journal → is_open journal pending ≡ true

open_kept : (journal : List Entry) (e : Entry) → IsSound journal → CanGrow journal e → LeavesOpen journal → LeavesOpen (journal ++ e ∷ [])
open_kept journal e sound grows opens pending unstored earlier =
    let unstored_before : transfer_with_id journal pending.id ≡ None
    = find_before (λ t. t.id == pending.id) (transfers_of journal) (transfers_of (e ∷ []))
    (ap (λ ts. find (λ (t : Transfer). t.id == pending.id) ts) (sym (filter_map-append transfer_in journal (e ∷ []))) ∙ unstored) in
    let earlier_before : All (λ x. timestamp_of x < pending.timestamp) journal = All_before (λ x. timestamp_of x < pending.timestamp) journal (e ∷ []) earlier in
    open_push journal e pending ∙ and_from _ _ (opens pending unstored_before earlier_before)
    (not_from_false _ (settles_no_unstored journal e pending grows.admitted unstored_before earlier_before))

-- nothing in a journal settles a transfer that comes later
pub new_is_open : (journal : List Entry) → IsSound journal → (pending : Transfer) → transfer_with_id journal pending.id ≡ None
    → All (λ x. timestamp_of x < pending.timestamp) journal → is_open journal pending ≡ true
new_is_open journal sound = by_growth LeavesOpen (λ pending unstored earlier. refl) open_kept journal sound
