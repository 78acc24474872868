-- Sound journals: what one more entry keeps, and what is said of each beginning.
use Rattle.std.proofs.Common.{◌≡◌, ℕ, ◌+◌, ◌<◌, ◌≤◌, List, [], ◌∷◌, ◌++◌, take, get_or, length, subst, sym, inl, inr, arith, append_assoc, append-nil}
use Rattle.std.proofs.lemmas.List.{get_or_append_left, get_or_push, length_push, take-append-le, take_all, take_at}
use Rattle.std.proofs.lemmas.Bool.{cases_lt}
use Rattle.std.specs.List.{All}
use Rattle.std.proofs.lemmas.List.Elements.{All-nil, All-cons, All-head, All-tail, All-push, All-weaker}
use Rattle.tf_journal.specs.declared.entry.Entry.{Entry}
use Rattle.tf_journal.specs.Journal.{IsJournal, IsRisingFrom, IsUpTo, timestamp_of, last_timestamp}
use Rattle.tf_journal.specs.Lawful.{AreAdmitted, IsAdmitted, IsSound}
use Rattle.tf_journal.specs.Ledger.{CanGrow}
use Rattle.tf_journal.proofs.Lists.{All_before}

rising_push : (low before : ℕ) (journal : List Entry) (e : Entry) → IsRisingFrom low journal → IsUpTo before journal
    → low < timestamp_of e → before < timestamp_of e → IsRisingFrom low (journal ++ e ∷ [])
rising_push low before [] e rising up_to above later = (above, tt)
rising_push low before (x ∷ journal) e rising up_to above later =
    let first : timestamp_of x ≤ before = All-head (λ y. timestamp_of y ≤ before) x journal up_to in
    (rising.0, rising_push (timestamp_of x) before journal e rising.1 (All-tail (λ y. timestamp_of y ≤ before) x journal up_to) (omega arith) later)

-- the moment of the youngest entry may be named later
pub up_to_later : (moment later : ℕ) (journal : List Entry) → moment ≤ later → IsUpTo moment journal → IsUpTo later journal
up_to_later moment later journal h up_to =
    All-weaker (λ y. timestamp_of y ≤ moment) (λ y. timestamp_of y ≤ later) (λ y p. omega arith) journal up_to

-- an entry that is no later than this moment keeps a journal up to it
pub up_to_push : (moment : ℕ) (journal : List Entry) (e : Entry) → IsUpTo moment journal → timestamp_of e ≤ moment → IsUpTo moment (journal ++ e ∷ [])
up_to_push moment journal e up_to is = All-push (λ y. timestamp_of y ≤ moment) journal e up_to is

-- an entry that is later than all others, and in range, is a journal's next
pub journal_push : (before : ℕ) (journal : List Entry) (e : Entry) → IsJournal journal → IsUpTo before journal
    → before < timestamp_of e → timestamp_of e ≤ last_timestamp → IsJournal (journal ++ e ∷ [])
journal_push before journal e is up_to later in_range = record {
  rising = rising_push 0 before journal e is.rising up_to (omega arith) later;
  in_range = All-push (λ y. timestamp_of y ≤ last_timestamp) journal e is.in_range in_range;
}

rising_before : (low : ℕ) (journal after : List Entry) → IsRisingFrom low (journal ++ after) → IsRisingFrom low journal
rising_before low [] after rising = tt
rising_before low (x ∷ journal) after rising = (rising.0, rising_before (timestamp_of x) journal after rising.1)

-- a beginning of a journal is a journal
pub journal_before : (journal after : List Entry) → IsJournal (journal ++ after) → IsJournal journal
journal_before journal after is = record {
  rising = rising_before 0 journal after is.rising;
  in_range = All_before (λ e. timestamp_of e ≤ last_timestamp) journal after is.in_range;
}

rising_earlier : (low : ℕ) (journal : List Entry) (e : Entry) → IsRisingFrom low (journal ++ e ∷ [])
    → (low < timestamp_of e) × All (λ x. timestamp_of x < timestamp_of e) journal
rising_earlier low [] e rising = (rising.0, All-nil (λ x. timestamp_of x < timestamp_of e))
rising_earlier low (x ∷ journal) e rising =
    let rest = rising_earlier (timestamp_of x) journal e rising.1 in
    (omega (arith, rest.0, rising.0), All-cons (λ y. timestamp_of y < timestamp_of e) x journal rest.0 rest.1)

-- every entry is earlier than the one behind them all
pub all_earlier : (journal : List Entry) (e : Entry) → IsJournal (journal ++ e ∷ []) → All (λ x. timestamp_of x < timestamp_of e) journal
all_earlier journal e is = (rising_earlier 0 journal e is.rising).1

admitted_push : (before journal : List Entry) (e : Entry) → AreAdmitted before journal → IsAdmitted (before ++ journal) e → AreAdmitted before (journal ++ e ∷ [])
admitted_push before [] e are is = (subst (λ j. IsAdmitted j e) (append-nil before) is, tt)
admitted_push before (x ∷ journal) e are is =
    (are.0, admitted_push (before ++ x ∷ []) journal e are.1 (subst (λ j. IsAdmitted j e) (sym (append_assoc before (x ∷ []) journal)) is))

-- an entry that can be added keeps a journal sound
pub sound_push : (journal : List Entry) (e : Entry) → IsSound journal → CanGrow journal e → IsSound (journal ++ e ∷ [])
sound_push journal e sound grows = record {
  is_journal = grows.is_journal;
  admitted = admitted_push [] journal e sound.admitted grows.admitted;
}

-- nothing is sound
pub sound_nothing : IsSound []
sound_nothing = record { is_journal = record { rising = tt; in_range = All-nil (λ e. timestamp_of e ≤ last_timestamp) }; admitted = tt }

-- a journal that grows by one entry after another
grown : (P : List Entry → Type 0) → ((journal : List Entry) (e : Entry) → IsSound journal → CanGrow journal e → P journal → P (journal ++ e ∷ []))
    → (before journal : List Entry) → IsSound before → P before → IsJournal (before ++ journal) → AreAdmitted before journal → P (before ++ journal)
grown P step before [] sound p is are = subst P (sym (append-nil before)) p
grown P step before (e ∷ journal) sound p is are =
    let joined = append_assoc before (e ∷ []) journal in
    let is_more : IsJournal ((before ++ e ∷ []) ++ journal) = subst IsJournal (sym joined) is in
    let grows : CanGrow before e = record { is_journal = journal_before (before ++ e ∷ []) journal is_more; admitted = are.0 } in
    subst P joined (grown P step (before ++ e ∷ []) journal (sound_push before e sound grows) (step before e sound grows p) is_more are.1)

-- what holds of the empty journal, and which each entry that can be added keeps, holds of every sound journal
pub by_growth : (P : List Entry → Type 0) → P [] → ((journal : List Entry) (e : Entry) → IsSound journal → CanGrow journal e → P journal → P (journal ++ e ∷ []))
    → (journal : List Entry) → IsSound journal → P journal
by_growth P nothing step journal sound = grown P step [] journal sound_nothing nothing sound.is_journal sound.admitted

abbrev HasSoundBeginnings : List Entry → Type 0
HasSoundBeginnings journal = (n : ℕ) → IsSound (take n journal)

beginnings_push : (journal : List Entry) (e : Entry) → IsSound journal → CanGrow journal e → HasSoundBeginnings journal → HasSoundBeginnings (journal ++ e ∷ [])
beginnings_push journal e sound grows beginnings n =
    elim (cases_lt n (length journal + 1)) [
      | inl within ↦ subst IsSound (sym (take-append-le n journal (e ∷ []) (omega arith))) (beginnings n)
      | inr past ↦ subst IsSound (sym (take_all n (journal ++ e ∷ []) (omega (arith, length_push journal e)))) (sound_push journal e sound grows)
    ]

-- each beginning of a sound journal is sound
pub sound_take : (n : ℕ) (journal : List Entry) → IsSound journal → IsSound (take n journal)
sound_take n journal sound = by_growth HasSoundBeginnings (λ n. subst IsSound (sym (take_all n [] (omega arith))) sound_nothing) beginnings_push journal sound n

abbrev GrowsByEach : List Entry → Type 0
GrowsByEach journal = (n : ℕ) (d : Entry) → n < length journal → CanGrow (take n journal) (get_or journal n d)

grows_push : (journal : List Entry) (e : Entry) → IsSound journal → CanGrow journal e → GrowsByEach journal → GrowsByEach (journal ++ e ∷ [])
grows_push journal e sound grows each n d within =
    elim (cases_lt n (length journal)) [
      | inl earlier ↦
          let beginning = sym (take-append-le n journal (e ∷ []) (omega arith)) in
          let same = sym (get_or_append_left journal (e ∷ []) d n earlier) in
          subst (λ j. CanGrow j (get_or (journal ++ e ∷ []) n d)) beginning (subst (λ x. CanGrow (take n journal) x) same (each n d earlier))
      | inr last ↦
          let at : length journal ≡ n = omega (arith, length_push journal e) in
          let beginning = sym (take_at journal (e ∷ []) n at) in
          let same = sym (get_or_push journal e d n at) in
          subst (λ j. CanGrow j (get_or (journal ++ e ∷ []) n d)) beginning (subst (λ x. CanGrow journal x) same grows)
    ]

-- a sound journal grew by each of its entries
pub sound_grows : (n : ℕ) (journal : List Entry) (d : Entry) → IsSound journal → n < length journal → CanGrow (take n journal) (get_or journal n d)
sound_grows n journal d sound within =
    by_growth GrowsByEach (λ n d within. absurd (omega (arith, within))) grows_push journal sound n d within
