-- A pulse, one expiry after another.
use Rattle.std.proofs.Common.{◌≡◌, ℕ, zero, suc, ◌+◌, ◌-◌, ◌<◌, ◌≤◌, List, [], ◌∷◌, ◌++◌, length, take, drop, Some, None, false, refl, ap, sym, ◌∙◌, subst, arith, append_assoc, append-nil, length-append, length-take-le, true≢false}
use Rattle.std.proofs.lemmas.List.{take_at}
use Rattle.std.proofs.lemmas.Option.{none-some, same_Some}
use Rattle.tf_records.specs.declared.transfer.Transfer.{Transfer}
use Rattle.tf_journal.specs.declared.entry.Entry.{Entry}
use Rattle.tf_journal.specs.declared.entry.Entry.TheVariants as entry
use Rattle.tf_journal.specs.Due.{due, expiries_of, first_of, next_due_of}
use Rattle.tf_journal.specs.Journal.{last_timestamp}
use Rattle.tf_journal.specs.Lawful.{AreChained, IsLawfulAt, is_linked_entry}
use Rattle.tf_journal.specs.Ledger.{CanGrow}
use Rattle.tf_journal.proofs.Due.{due_expired, next_due_later}
use Rattle.tf_journal.proofs.Sound.{journal_push, sound_push, up_to_later, up_to_push}
use Rattle.tf_pending.specs.Parts.{IsExpiring}

-- an element stands behind the first n of a list, and is the last of its first m
abbrev StandsAt : {A : Type 0} → ℕ → ℕ → List A → A → Type 0
StandsAt n m xs x = (n < length xs) × (take m xs ≡ take n xs ++ x ∷ []) × (drop n xs ≡ x ∷ drop m xs)

stands_at : {A : Type 0} (n : ℕ) (xs : List A) (x : A) → first_of (drop n xs) ≡ Some x → StandsAt n (suc n) xs x
stands_at zero [] x is = absurd (none-some x is)
stands_at (suc n) [] x is = absurd (none-some x is)
stands_at zero (y ∷ xs) x is = let same : y ≡ x = same_Some y x is in (omega arith, ap (λ z. z ∷ []) same, ap (λ z. z ∷ xs) same)
stands_at (suc n) (y ∷ xs) x is = let more = stands_at n xs x is in (omega (arith, more.0), ap (λ zs. y ∷ zs) more.1, more.2)

next_in : {A : Type 0} (n : ℕ) (xs : List A) (x : A) → first_of (drop n xs) ≡ Some x → StandsAt n (n + 1) xs x
next_in n xs x is = let next : suc n ≡ n + 1 = omega arith in subst (λ m. StandsAt n m xs x) next (stands_at n xs x is)

expiries_push : (timestamp : ℕ) (transfers : List Transfer) (t : Transfer)
    → expiries_of timestamp (transfers ++ t ∷ []) ≡ expiries_of timestamp transfers ++ entry.Expiry (timestamp + length transfers) t.timestamp ∷ []
expiries_push timestamp [] t = let at : timestamp ≡ timestamp + 0 = omega arith in ap (λ n. entry.Expiry n t.timestamp ∷ []) at
expiries_push timestamp (x ∷ transfers) t =
    let at : timestamp + 1 + length transfers ≡ timestamp + length (x ∷ transfers) = omega arith in
    ap (λ es. entry.Expiry timestamp x.timestamp ∷ es) (expiries_push (timestamp + 1) transfers t
    ∙ ap (λ n. expiries_of (timestamp + 1) transfers ++ entry.Expiry n t.timestamp ∷ []) at)

-- an entry that isn't linked, behind a journal that ends with none that is
chained_push : (journal : List Entry) (e : Entry) → AreChained journal → is_linked_entry e ≡ false → AreChained (journal ++ e ∷ [])
chained_push [] e chained unlinked = unlinked
chained_push (x ∷ []) e chained unlinked = ((λ linked. absurd (true≢false (sym linked ∙ chained))), unlinked)
chained_push (x ∷ y ∷ journal) e chained unlinked = (chained.0, chained_push (y ∷ journal) e chained.1 unlinked)

-- at first none expired
pub expiring_start : (moment : ℕ) (journal : List Entry) → IsLawfulAt moment journal → IsExpiring moment journal journal 0
expiring_start moment journal lawful = record {
  stored = sym (append-nil journal);
  within = omega arith;
  left = refl;
  lawful = let at : moment ≡ moment + 0 = omega arith in subst (λ n. IsLawfulAt n journal) at lawful;
}

-- the next one that is due can expire
pub expiring_grows : (moment : ℕ) (start journal : List Entry) (count : ℕ) (p : Transfer) → IsExpiring moment start journal count
    → next_due_of journal moment ≡ Some p → moment + count < last_timestamp
    → CanGrow journal (entry.Expiry (moment + count + 1) p.timestamp)
expiring_grows moment start journal count p is next in_range = record {
  is_journal = journal_push (moment + count) journal (entry.Expiry (moment + count + 1) p.timestamp) is.lawful.lawful.sound.is_journal is.lawful.up_to (omega arith) (omega arith);
  admitted = record {
    transfer = p;
    next = next_due_later journal moment (moment + count + 1 - 1) p is.lawful.lawful.sound.is_journal (omega arith) next;
    is = refl;
  };
}

-- after that, one more expired
pub expiring_next : (moment : ℕ) (start journal : List Entry) (count : ℕ) (p : Transfer) → IsExpiring moment start journal count
    → next_due_of journal moment ≡ Some p → moment + count < last_timestamp
    → IsExpiring moment start (journal ++ entry.Expiry (moment + count + 1) p.timestamp ∷ []) (count + 1)
expiring_next moment start journal count p is next in_range =
    let e = entry.Expiry (moment + count + 1) p.timestamp in
    let grows = expiring_grows moment start journal count p is next in_range in
    let found = next_in count (due start moment) p (ap first_of (sym is.left) ∙ next) in
    let stamp : moment + 1 + length (take count (due start moment)) ≡ moment + count + 1 = omega (arith, length-take-le count (due start moment) is.within) in
    record {
      stored = ap (λ j. j ++ e ∷ []) is.stored ∙ append_assoc start (expiries_of (moment + 1) (take count (due start moment))) (e ∷ [])
          ∙ sym (ap (λ es. start ++ es) (ap (expiries_of (moment + 1)) found.1
          ∙ expiries_push (moment + 1) (take count (due start moment)) p
          ∙ ap (λ n. expiries_of (moment + 1) (take count (due start moment)) ++ entry.Expiry n p.timestamp ∷ []) stamp));
      within = omega (arith, found.0);
      left = due_expired journal moment (moment + count + 1) p (drop (count + 1) (due start moment)) is.lawful.lawful.sound.is_journal (is.left ∙ found.2);
      lawful = record {
        lawful = record { sound = sound_push journal e is.lawful.lawful.sound grows; chained = chained_push journal e is.lawful.lawful.chained refl };
        up_to = up_to_push (moment + (count + 1)) journal e (up_to_later (moment + count) (moment + (count + 1)) journal (omega arith) is.lawful.up_to) (omega arith);
      };
    }

nothing_left : {A : Type 0} (n : ℕ) (xs : List A) → first_of (drop n xs) ≡ None → length xs ≤ n
nothing_left n [] is = omega arith
nothing_left zero (x ∷ xs) is = absurd (none-some x (sym is))
nothing_left (suc n) (x ∷ xs) is = let more = nothing_left n xs is in omega arith

-- one that is due comes after fewer expired than are due
pub expiring_within : (moment : ℕ) (start journal : List Entry) (count : ℕ) (p : Transfer) → IsExpiring moment start journal count
    → next_due_of journal moment ≡ Some p → count < length (due start moment)
expiring_within moment start journal count p is next = (next_in count (due start moment) p (ap first_of (sym is.left) ∙ next)).0

-- where none is due any more, all expired
pub expiring_done : (moment : ℕ) (start journal : List Entry) (count : ℕ) → IsExpiring moment start journal count
    → next_due_of journal moment ≡ None → length (due start moment) ≤ count
expiring_done moment start journal count is none = nothing_left count (due start moment) (ap first_of (sym is.left) ∙ none)

-- expiries come behind what was there
pub expiring_longer : (moment : ℕ) (start journal : List Entry) (count : ℕ) → IsExpiring moment start journal count → length start ≤ length journal
expiring_longer moment start journal count is =
    let expiries = expiries_of (moment + 1) (take count (due start moment)) in
    rw (is.stored) (omega (arith, length-append start expiries))

pub expiring_begins : (moment : ℕ) (start journal : List Entry) (count : ℕ) → IsExpiring moment start journal count → take (length start) journal ≡ start
expiring_begins moment start journal count is =
    rw (is.stored) (take_at start (expiries_of (moment + 1) (take count (due start moment))) (length start) refl)
