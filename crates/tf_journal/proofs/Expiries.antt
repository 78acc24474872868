-- Pending transfers expire in the order of their expiry: none that should expire before one that did is open.
use Rattle.std.proofs.Common.{◌≡◌, ℕ, ◌-◌, ◌<◌, ◌≤◌, Bool, true, false, not, ◌&&◌, ◌||◌, List, [], ◌∷◌, ◌++◌, Option, Some, None, refl, sym, ap, ◌∙◌, subst, inl, inr, ◌⊎◌, ⊎_elim, arith, nat_lt, nat_le}
use Rattle.std.specs.Prelude.{if◌then◌else◌, ◌==◌}
use Rattle.std.specs.List.{All, Contains, find, fold, list_any}
use Rattle.std.specs.Option.{option_map_or}
use Rattle.std.proofs.Math.Logic.{∥∥₁_elim}
use Rattle.std.proofs.lemmas.Bool.{false≢true, eqb-true}
use Rattle.std.proofs.Math.Bool.{Bool-set}
use Rattle.std.proofs.lemmas.List.{get_or_append_left, length_push}
use Rattle.std.proofs.lemmas.Bool.Decides.{nat_tests}
use Rattle.std.proofs.lemmas.List.Elements.{All-nil, All-cons, All-head, All-tail, All-weaker, All-contains, All-contains_itself, Contains-push_cases, Contains-append_left, Contains-push}
use Rattle.tf_records.specs.declared.transfer.Transfer.{Transfer}
use Rattle.tf_journal.specs.declared.entry.Entry.{Entry}
use Rattle.tf_journal.specs.declared.entry.Entry.TheVariants as entry
use Rattle.tf_journal.specs.declared.status.Status.TheVariants.{Open, Posted, Voided, Expired}
use Rattle.tf_journal.specs.Due.{is_due, expires_before, next_due_of}
use Rattle.tf_journal.specs.Expired.{HasExpired, ends, sooner, first_due}
use Rattle.tf_journal.specs.Flags.{is_pending}
use Rattle.tf_journal.specs.Journal.{timestamp_of, transfer_in, transfers_of}
use Rattle.tf_journal.specs.Lawful.{IsAdmittedExpiry, IsSound}
use Rattle.tf_journal.specs.Ledger.{CanGrow}
use Rattle.tf_journal.specs.Status.{expires, is_open, is_open_status, pending_at, posts, voids}
use Rattle.tf_journal.specs.Verdict.{expires_at, is_overdue}
use Rattle.tf_journal.proofs.FirstDue.{next_found}
use Rattle.tf_journal.proofs.Lists.{All-filter_map, find_All, find_passes, list_any_push}
use Rattle.tf_journal.proofs.Sound.{all_earlier, by_growth}

some_is : (x y : Transfer) → Some x ≡ Some y → x ≡ y
some_is x y h = cc

transfer_is : (x y : Transfer) → entry.Transfer x ≡ entry.Transfer y → x ≡ y
transfer_is x y h = cc

-- an earlier moment, or the same and an earlier timestamp
abbrev comes_before : (a s b t : ℕ) → Bool
comes_before a s b t = nat_lt a b || (a == b && nat_lt s t)

after_later : (a s b t c u : ℕ) → comes_before a s b t ≡ true → comes_before a s c u ≡ false → comes_before b t c u ≡ false
after_later a s b t c u h k = grind (arith, nat_tests)

after_after : (a s b t c u : ℕ) → comes_before a s b t ≡ false → comes_before b t c u ≡ false → comes_before a s c u ≡ false
after_after a s b t c u h k = grind (arith, nat_tests)

no_earlier : (a s b t : ℕ) → comes_before a s b t ≡ false → b ≤ a
no_earlier a s b t h = grind (arith, nat_tests)

same_place : (a s b t : ℕ) → comes_before a s b t ≡ false → comes_before b t a s ≡ false → s ≡ t
same_place a s b t h k = grind (arith, nat_tests)

same_number : (a b : ℕ) → a ≡ b → (a == b) ≡ true
same_number a b h = grind (arith, nat_tests)

not_before_itself : (a s : ℕ) → comes_before a s a s ≡ false
not_before_itself a s = grind (arith, nat_tests)

comes_later : (a s b t : ℕ) → a < b → comes_before a s b t ≡ true
comes_later a s b t h = grind (arith, nat_tests)

over_by : (timeout expiry moment : ℕ) → (not (timeout == 0) && nat_le expiry moment) ≡ true → expiry ≤ moment
over_by timeout expiry moment h = grind (arith, nat_tests)

is_over : (timeout expiry moment : ℕ) → not (timeout == 0) ≡ true → expiry ≤ moment → (not (timeout == 0) && nat_le expiry moment) ≡ true
is_over timeout expiry moment h k = grind (arith, nat_tests)

all_three : (a b c : Bool) → (a && b && c) ≡ true → (a ≡ true) × (b ≡ true) × (c ≡ true)
all_three true true true h = (refl, refl, refl)
all_three true true false h = absurd (false≢true h)
all_three true false c h = absurd (false≢true h)
all_three false b c h = absurd (false≢true h)

are_three : (a b c : Bool) → a ≡ true → b ≡ true → c ≡ true → (a && b && c) ≡ true
are_three a b c h k l = rw (h, k, l) refl

sooner_least : (first : Option Transfer) (t r : Transfer) → ((f : Transfer) → sooner first t ≡ Some f → expires_before f r ≡ false)
    → ((f : Transfer) → first ≡ Some f → expires_before f r ≡ false) × (expires_before t r ≡ false)
sooner_least None t r h = (λ f is. cc, h t refl)
sooner_least (Some f) t r h =
    let go : (b : Bool) → expires_before t f ≡ b → ((g : Transfer) → (if b then Some t else Some f) ≡ Some g → expires_before g r ≡ false)
    → ((g : Transfer) → Some f ≡ Some g → expires_before g r ≡ false) × (expires_before t r ≡ false)
    = elim [
      | true ↦ λ is k. (
        λ g same. subst (λ x. expires_before x r ≡ false) (some_is f g same)
            (after_later (expires_at t) t.timestamp (expires_at f) f.timestamp (expires_at r) r.timestamp is (k t refl)),
        k t refl,
      )
      | false ↦ λ is k. (
        λ g same. k g same,
        after_after (expires_at t) t.timestamp (expires_at f) f.timestamp (expires_at r) r.timestamp is (k f refl),
      )
    ] in go (expires_before t f) refl h

sooner_one : (first : Option Transfer) (t f : Transfer) → sooner first t ≡ Some f → (first ≡ Some f) ⊎ (t ≡ f)
sooner_one None t f h = inr (some_is t f h)
sooner_one (Some g) t f h =
    (elim (expires_before t g) as (λ b. (if b then Some t else Some g) ≡ Some f → (Some g ≡ Some f) ⊎ (t ≡ f))
    [ true ↦ λ k. inr (some_is t f k) | false ↦ λ k. inl k ]) h

-- whatever holds of an entry that is a due transfer
abbrev WhereDue : List Entry → ℕ → (Transfer → Type 0) → Entry → Type 0
WhereDue journal moment P e = (q : Transfer) → e ≡ entry.Transfer q → is_due journal moment q ≡ true → P q

-- none of these expires before the first of them all
record IsLeast (journal : List Entry) (moment : ℕ) (r : Transfer) (first : Option Transfer) (entries : List Entry) : Type 0 where
  so_far : (f : Transfer) → first ≡ Some f → expires_before f r ≡ false
  others : All (WhereDue journal moment (λ q. expires_before q r ≡ false)) entries

least_past : (journal : List Entry) (moment : ℕ) (r : Transfer) (first : Option Transfer) (e : Entry) (entries : List Entry)
    → ((q : Transfer) → e ≡ entry.Transfer q → ⊥) → IsLeast journal moment r first entries → IsLeast journal moment r first (e ∷ entries)
least_past journal moment r first e entries other least = record {
  so_far = least.so_far;
  others = All-cons (WhereDue journal moment (λ q. expires_before q r ≡ false)) e entries (λ q is due. absurd (other q is)) least.others;
}

least_with : (journal : List Entry) (moment : ℕ) (r : Transfer) (first : Option Transfer) (t : Transfer) (entries : List Entry) (due : Bool)
    → is_due journal moment t ≡ due → IsLeast journal moment r (if due then sooner first t else first) entries
    → IsLeast journal moment r first (entry.Transfer t ∷ entries)
least_with journal moment r first t entries true is least =
    let both = sooner_least first t r least.so_far in
    record {
      so_far = both.0;
      others = All-cons (WhereDue journal moment (λ q. expires_before q r ≡ false)) (entry.Transfer t) entries
          (λ q same due. subst (λ x. expires_before x r ≡ false) (transfer_is t q same) both.1) least.others;
    }
least_with journal moment r first t entries false is least = record {
  so_far = least.so_far;
  others = All-cons (WhereDue journal moment (λ q. expires_before q r ≡ false)) (entry.Transfer t) entries
      (λ q same due. absurd (false≢true (sym is ∙ ap (is_due journal moment) (transfer_is t q same) ∙ due))) least.others;
}

least_of : (journal : List Entry) (moment : ℕ) (r : Transfer) (first : Option Transfer) (entries : List Entry)
    → fold (first_due journal moment) first entries ≡ Some r → IsLeast journal moment r first entries
least_of journal moment r first [] h = record {
  so_far = λ f is. subst (λ x. expires_before x r ≡ false) (some_is r f (sym h ∙ is)) (not_before_itself (expires_at r) r.timestamp);
  others = All-nil (WhereDue journal moment (λ q. expires_before q r ≡ false));
}
least_of journal moment r first (entry.Account a ∷ entries) h =
    least_past journal moment r first (entry.Account a) entries (λ q is. cc) (least_of journal moment r first entries h)
least_of journal moment r first (entry.Expiry timestamp pending ∷ entries) h =
    least_past journal moment r first (entry.Expiry timestamp pending) entries (λ q is. cc) (least_of journal moment r first entries h)
least_of journal moment r first (entry.Failed timestamp id ∷ entries) h =
    least_past journal moment r first (entry.Failed timestamp id) entries (λ q is. cc) (least_of journal moment r first entries h)
least_of journal moment r first (entry.Transfer t ∷ entries) h =
    least_with journal moment r first t entries (is_due journal moment t) refl
    (least_of journal moment r (first_due journal moment first (entry.Transfer t)) entries h)

one_of : (P : Transfer → Type 0) (journal : List Entry) (moment : ℕ) (r : Transfer) (first : Option Transfer) (entries : List Entry)
    → ((f : Transfer) → first ≡ Some f → P f) → All (WhereDue journal moment P) entries → fold (first_due journal moment) first entries ≡ Some r → P r
one_of P journal moment r first [] so_far others h = so_far r h
one_of P journal moment r first (entry.Account a ∷ entries) so_far others h =
    one_of P journal moment r first entries so_far (All-tail (WhereDue journal moment P) (entry.Account a) entries others) h
one_of P journal moment r first (entry.Expiry timestamp pending ∷ entries) so_far others h =
    one_of P journal moment r first entries so_far (All-tail (WhereDue journal moment P) (entry.Expiry timestamp pending) entries others) h
one_of P journal moment r first (entry.Failed timestamp id ∷ entries) so_far others h =
    one_of P journal moment r first entries so_far (All-tail (WhereDue journal moment P) (entry.Failed timestamp id) entries others) h
one_of P journal moment r first (entry.Transfer t ∷ entries) so_far others h =
    let here = All-head (WhereDue journal moment P) (entry.Transfer t) entries others t refl in
    let go : (b : Bool) → is_due journal moment t ≡ b → (f : Transfer) → (if b then sooner first t else first) ≡ Some f → P f
    = elim [
      | true ↦ λ due f is. ⊎_elim (so_far f) (λ same. subst P same (here due)) (sooner_one first t f is)
      | false ↦ λ due f is. so_far f is
    ] in
    one_of P journal moment r (first_due journal moment first (entry.Transfer t)) entries (go (is_due journal moment t) refl)
    (All-tail (WhereDue journal moment P) (entry.Transfer t) entries others) h

-- the next transfer to expire is one of the due ones, and none of them expires before it
pub record IsNext (journal : List Entry) (moment : ℕ) (r : Transfer) : Type 0 where
  pub stored : Contains journal (entry.Transfer r)
  pub is_due_then : is_due journal moment r ≡ true
  pub least : (q : Transfer) → Contains journal (entry.Transfer q) → is_due journal moment q ≡ true → expires_before q r ≡ false

pub next_is : (journal : List Entry) (moment : ℕ) (r : Transfer) → next_due_of journal moment ≡ Some r → IsNext journal moment r
next_is journal moment r next =
    let found : fold (first_due journal moment) None journal ≡ Some r = next_found journal moment ∙ next in
    let P : Transfer → Type 0 = λ q. Contains journal (entry.Transfer q) × (is_due journal moment q ≡ true) in
    let each : All (WhereDue journal moment P) journal
    = All-weaker (Contains journal) (WhereDue journal moment P) (λ e within q is due. (subst (Contains journal) is within, due)) journal (All-contains_itself journal) in
    let one : P r = one_of P journal moment r None journal (λ f is. cc) each found in
    let least = least_of journal moment r None journal found in
    record {
      stored = one.0;
      is_due_then = one.1;
      least = λ q within due. All-contains (WhereDue journal moment (λ q. expires_before q r ≡ false)) journal (entry.Transfer q) least.others within q refl due;
    }

-- whether a transfer is open, by whether it is posted, voided and expired
abbrev open_by : Bool → Bool → Bool → Bool
open_by posted voided expired = is_open_status (if posted then Posted else if voided then Voided else if expired then Expired else Open)

closed_by : (a b c x y z : Bool) → open_by a b c ≡ false → open_by (a || x) (b || y) (c || z) ≡ false
closed_by true b c x y z h = refl
closed_by false true c true y z h = refl
closed_by false true c false y z h = refl
closed_by false false true true y z h = refl
closed_by false false true false true z h = refl
closed_by false false true false false z h = refl
closed_by false false false x y z h = absurd (false≢true (sym h))

expired_by : (a b c : Bool) → open_by a b (c || true) ≡ false
expired_by true b c = refl
expired_by false true c = refl
expired_by false false true = refl
expired_by false false false = refl

-- what isn't open stays so
pub closed_stays : (journal : List Entry) (e : Entry) (q : Transfer) → is_open journal q ≡ false → is_open (journal ++ e ∷ []) q ≡ false
closed_stays journal e q h =
    rw (list_any_push (posts q) journal e, list_any_push (voids q) journal e, list_any_push (expires q) journal e)
    (closed_by (list_any (posts q) journal) (list_any (voids q) journal) (list_any (expires q) journal) (posts q e) (voids q e) (expires q e) h)

-- a transfer that expires isn't open
pub expired_closed : (journal : List Entry) (e : Entry) (q : Transfer) → expires q e ≡ true → is_open (journal ++ e ∷ []) q ≡ false
expired_closed journal e q h =
    rw (list_any_push (posts q) journal e, list_any_push (voids q) journal e, list_any_push (expires q) journal e, h)
    (expired_by (list_any (posts q) journal || posts q e) (list_any (voids q) journal || voids q e) (list_any (expires q) journal))

-- an expiry of the pending transfer with this timestamp cuts off: no transfer that should expire before it is open
record IsCutOff (journal : List Entry) (pending : ℕ) : Type 0 where
  transfer : Transfer
  stored : Contains journal (entry.Transfer transfer)
  is : transfer.timestamp ≡ pending
  past : (moment : ℕ) → All (λ e. timestamp_of e < moment) journal → expires_at transfer < moment
  cut : (q : Transfer) → Contains journal (entry.Transfer q) → is_pending q ≡ true → not (q.timeout == 0) ≡ true
      → expires_before transfer q ≡ false → is_open journal q ≡ false

all_before : (P : Entry → Type 0) (journal : List Entry) (e : Entry) → All P (journal ++ e ∷ []) → All P journal
all_before P journal e all k d within =
    subst P (get_or_append_left journal (e ∷ []) d k within) (all k d (omega (arith, length_push journal e)))

cut_stays : (journal : List Entry) (e : Entry) (pending : ℕ) → CanGrow journal e → IsCutOff journal pending → IsCutOff (journal ++ e ∷ []) pending
cut_stays journal e pending grows c =
    let r = c.transfer in
    record {
      transfer = r;
      stored = Contains-append_left journal (e ∷ []) (entry.Transfer r) c.stored;
      is = c.is;
      past = λ moment all. c.past moment (all_before (λ x. timestamp_of x < moment) journal e all);
      cut = λ q within pends timed before.
          ⊎_elim (λ old. closed_stays journal e q (c.cut q old pends timed before))
          (λ new.
          let later : expires_at r < timestamp_of e = c.past (timestamp_of e) (all_earlier journal e grows.is_journal) in
          let own : timestamp_of e ≡ q.timestamp = ap timestamp_of new in
          absurd (false≢true (sym before ∙ comes_later (expires_at r) r.timestamp (expires_at q) q.timestamp (omega (arith, later, own)))))
          (Contains-push_cases journal e (entry.Transfer q) within);
    }

cut_here : (journal : List Entry) (timestamp : ℕ) (r q : Transfer) (was : Bool) → is_open journal q ≡ was → IsNext journal (timestamp - 1) r
    → Contains journal (entry.Transfer q) → is_pending q ≡ true → not (q.timeout == 0) ≡ true → expires_before r q ≡ false
    → is_open (journal ++ entry.Expiry timestamp r.timestamp ∷ []) q ≡ false
cut_here journal timestamp r q false is next stored pends timed before = closed_stays journal (entry.Expiry timestamp r.timestamp) q is
cut_here journal timestamp r q true is next stored pends timed before =
    let due = all_three (is_pending r) (is_overdue (timestamp - 1) r) (is_open journal r) next.is_due_then in
    let r_over : expires_at r ≤ timestamp - 1 = over_by r.timeout (expires_at r) (timestamp - 1) due.1 in
    let sooner : expires_at q ≤ expires_at r = no_earlier (expires_at r) r.timestamp (expires_at q) q.timestamp before in
    let over : is_overdue (timestamp - 1) q ≡ true = is_over q.timeout (expires_at q) (timestamp - 1) timed (omega (arith, r_over, sooner)) in
    let is_due_too = are_three (is_pending q) (is_overdue (timestamp - 1) q) (is_open journal q) pends over is in
    let same : r.timestamp ≡ q.timestamp = same_place (expires_at r) r.timestamp (expires_at q) q.timestamp before (next.least q stored is_due_too) in
    expired_closed journal (entry.Expiry timestamp r.timestamp) q (same_number r.timestamp q.timestamp same)

cut_by : (journal : List Entry) (e : Entry) (pending : ℕ) → CanGrow journal e → ends pending e ≡ true → IsCutOff (journal ++ e ∷ []) pending
cut_by journal (entry.Account a) pending grows h = absurd (false≢true h)
cut_by journal (entry.Transfer t) pending grows h = absurd (false≢true h)
cut_by journal (entry.Failed timestamp id) pending grows h = absurd (false≢true h)
cut_by journal (entry.Expiry timestamp named) pending grows h =
    let admitted : IsAdmittedExpiry journal timestamp named = grows.admitted in
    let r = admitted.transfer in
    let e = entry.Expiry timestamp named in
    let next = next_is journal (timestamp - 1) r admitted.next in
    let due = all_three (is_pending r) (is_overdue (timestamp - 1) r) (is_open journal r) next.is_due_then in
    let over : expires_at r ≤ timestamp - 1 = over_by r.timeout (expires_at r) (timestamp - 1) due.1 in
    record {
      transfer = r;
      stored = Contains-append_left journal (e ∷ []) (entry.Transfer r) next.stored;
      is = admitted.is ∙ eqb-true named pending h;
      past = λ moment all.
          let last : timestamp < moment = All-contains (λ x. timestamp_of x < moment) (journal ++ e ∷ []) e all (Contains-push journal e) in
          omega (arith, over, last);
      cut = λ q within pends timed before.
          ⊎_elim (λ old. subst (λ n. is_open (journal ++ entry.Expiry timestamp n ∷ []) q ≡ false) admitted.is
          (cut_here journal timestamp r q (is_open journal q) refl next old pends timed before))
          (λ new. cc)
          (Contains-push_cases journal e (entry.Transfer q) within);
    }

abbrev CutsOff : List Entry → Type 0
CutsOff journal = (pending : ℕ) → list_any (ends pending) journal ≡ true → IsCutOff journal pending

cuts_push : (journal : List Entry) (e : Entry) → IsSound journal → CanGrow journal e → CutsOff journal → CutsOff (journal ++ e ∷ [])
cuts_push journal e sound grows cuts pending h =
    let go : (b : Bool) → list_any (ends pending) journal ≡ b → (b || ends pending e) ≡ true → IsCutOff (journal ++ e ∷ []) pending
    = elim [
      | true ↦ λ earlier k. cut_stays journal e pending grows (cuts pending earlier)
      | false ↦ λ earlier k. cut_by journal e pending grows k
    ] in go (list_any (ends pending) journal) refl (sym (list_any_push (ends pending) journal e) ∙ h)

abbrev HasOneAt : List Entry → Type 0
HasOneAt journal = (x y : Entry) → Contains journal x → Contains journal y → timestamp_of x ≡ timestamp_of y → x ≡ y

one_push : (journal : List Entry) (e : Entry) → IsSound journal → CanGrow journal e → HasOneAt journal → HasOneAt (journal ++ e ∷ [])
one_push journal e sound grows one x y at_x at_y same =
    let P : Entry → Type 0 = λ z. timestamp_of z < timestamp_of e in
    let earlier : All P journal = all_earlier journal e grows.is_journal in
    ⊎_elim
    (λ old_x. ⊎_elim (λ old_y. one x y old_x old_y same)
    (λ new_y. let lower : timestamp_of x < timestamp_of e = All-contains P journal x earlier old_x in
    absurd (omega (arith, lower, same, ap timestamp_of new_y)))
    (Contains-push_cases journal e y at_y))
    (λ new_x. ⊎_elim
    (λ old_y. let lower : timestamp_of y < timestamp_of e = All-contains P journal y earlier old_y in
    absurd (omega (arith, lower, same, ap timestamp_of new_x)))
    (λ new_y. sym new_x ∙ new_y) (Contains-push_cases journal e y at_y))
    (Contains-push_cases journal e x at_x)

in_nothing : (x : Entry) → Contains [] x → ⊥
in_nothing x h = omega (arith, h.1)

pub one_at : (journal : List Entry) → IsSound journal → HasOneAt journal
one_at journal sound = by_growth HasOneAt (λ x y at_x at_y same. absurd (in_nothing x at_x)) one_push journal sound

transfer_entry : (e : Entry) (t : Transfer) → transfer_in e ≡ Some t → e ≡ entry.Transfer t
transfer_entry (entry.Account a) t h = cc
transfer_entry (entry.Transfer u) t h = ap entry.Transfer (some_is u t h)
transfer_entry (entry.Expiry timestamp pending) t h = cc
transfer_entry (entry.Failed timestamp id) t h = cc

found_stored : (journal : List Entry) (p : Transfer → Bool) (t : Transfer) → find p (transfers_of journal) ≡ Some t → Contains journal (entry.Transfer t)
found_stored journal p t h =
    find_All (λ u. Contains journal (entry.Transfer u)) p (transfers_of journal) t
    (All-filter_map (Contains journal) (λ u. Contains journal (entry.Transfer u)) transfer_in
    (λ e u is within. subst (Contains journal) (transfer_entry e u is) within) journal (All-contains_itself journal)) h

-- after one of the transfers expired, none that should expire before it is open
pub expired_cut : (journal : List Entry) (p q : Transfer) → IsSound journal → list_any (ends p.timestamp) journal ≡ true
    → pending_at journal p.timestamp ≡ Some p → Contains journal (entry.Transfer q) → is_pending q ≡ true → not (q.timeout == 0) ≡ true
    → expires_before p q ≡ false → is_open journal q ≡ false
expired_cut journal p q sound ended found stored pends timed before =
    let c = by_growth CutsOff (λ pending h. absurd (false≢true h)) cuts_push journal sound p.timestamp ended in
    let here : Contains journal (entry.Transfer p) = found_stored journal (λ t. is_pending t && t.timestamp == p.timestamp) p found in
    let same : c.transfer ≡ p = transfer_is c.transfer p (one_at journal sound (entry.Transfer c.transfer) (entry.Transfer p) c.stored here c.is) in
    c.cut q stored pends timed (subst (λ x. expires_before x q ≡ false) (sym same) before)

timed_of : (timeout : ℕ) (over : Bool) → (not (timeout == 0) && over) ≡ true → not (timeout == 0) ≡ true
timed_of timeout over h =
    let go : (b : Bool) → (b && over) ≡ true → b ≡ true = elim [ true ↦ λ k. refl | false ↦ λ k. k ] in
    go (not (timeout == 0)) h

last_cut : (journal : List Entry) (last : Option Transfer) (q : Transfer) (moment : ℕ) → IsSound journal → HasExpired journal last
    → Contains journal (entry.Transfer q) → is_pending q ≡ true → is_overdue moment q ≡ true
    → option_map_or (λ p. expires_before p q) last true ≡ false → is_open journal q ≡ false
last_cut journal None q moment sound expired stored pends over before = absurd (false≢true (sym before))
last_cut journal (Some p) q moment sound expired stored pends over before =
    let h = expired p refl in
    expired_cut journal p q sound h.0 h.1 stored pends (timed_of q.timeout (nat_le (expires_at q) moment) over) before

-- a transfer that doesn't expire after one that did isn't the next
pub left_out : (journal : List Entry) (last first : Option Transfer) (e : Entry) (q : Transfer) (moment : ℕ) → ∥ IsSound journal ∥₁
    → HasExpired journal last → Contains journal e → e ≡ entry.Transfer q → is_pending q ≡ true → is_overdue moment q ≡ true
    → option_map_or (λ p. expires_before p q) last true ≡ false → first ≡ first_due journal moment first e
left_out journal last first e q moment sound expired stored is pends over before =
    let closed : is_open journal q ≡ false
    = ∥∥₁_elim sound (Bool-set _ _) (λ h. last_cut journal last q moment h expired (subst (Contains journal) is stored) pends over before) in
    rw (is, pends, over, closed) refl

-- the pending transfer that an expiry names
pub named_expired : (journal : List Entry) (pending : ℕ) (p : Transfer) → list_any (ends pending) journal ≡ true → pending_at journal pending ≡ Some p
    → (list_any (ends p.timestamp) journal ≡ true) × (pending_at journal p.timestamp ≡ Some p)
named_expired journal pending p ended found =
    let passes = find_passes (λ t. is_pending t && t.timestamp == pending) (transfers_of journal) p found in
    let go : (b : Bool) → (b && p.timestamp == pending) ≡ true → (p.timestamp == pending) ≡ true = elim [ true ↦ λ k. k | false ↦ λ k. absurd (false≢true k) ] in
    let same : p.timestamp ≡ pending = eqb-true p.timestamp pending (go (is_pending p) passes) in
    (subst (λ n. list_any (ends n) journal ≡ true) (sym same) ended, subst (λ n. pending_at journal n ≡ Some p) (sym same) found)
