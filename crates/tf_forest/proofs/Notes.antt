-- Notes that take entries back: one more, one less, and what they leave of the journal.
use Rattle.std.proofs.Common.{◌≡◌, ◌≢◌, ◌+◌, ◌-◌, ◌≤◌, ℕ, suc, List, [], ◌∷◌, ◌++◌, length, take, Bool, Some, None, refl, sym, ◌∙◌, ap, subst, arith, append-nil}
use Rattle.std.proofs.lemmas.List.{append_assoc, length-append, take-append-le, take_all, take_at}
use Rattle.std.proofs.lemmas.Option.{none-some}
use Rattle.std.proofs.lemmas.List.Elements.{All-head, All-nil, All-tail}
use Rattle.tf_journal.specs.declared.entry.Entry.{Entry}
use Rattle.tf_journal.specs.Lawful.{IsSound}
use Rattle.tf_journal.specs.Ledger.{CanGrow}
use Rattle.tf_journal.specs.Journal.{IsJournal, IsRisingFrom, IsUpTo, last_timestamp, timestamp_of}
use Rattle.tf_rows.specs.declared.floors.Floors.{Floors}
use Rattle.tf_rows.specs.declared.found.Party.{Party}
use Rattle.tf_table.specs.declared.key.Key.{Key}
use Rattle.tf_table.specs.Content.{entry_at}
use Rattle.tf_manifest.specs.declared.row.Row.{Row}
use Rattle.tf_manifest.specs.declared.row.Row.TheVariants as row
use Rattle.tf_manifest.specs.declared.value.Value.{Value}
use Rattle.tf_manifest.specs.Shows.{Shows, value_of}
use Rattle.tf_journal.proofs.Sound.{sound_nothing, sound_push}
use Rattle.tf_rows.specs.Changes.{CanStepAll, all_stepped}
use Rattle.tf_rows.specs.Edits.{party_of}
use Rattle.tf_rows.specs.DueSet.{AreHeld, Keys, StayHeld}
use Rattle.tf_rows.specs.Floors.{HaveFloors}
use Rattle.tf_forest.specs.UsedIds.{AreKnown}
use Rattle.tf_forest.specs.Forest.{AreRight, IsCut, IsForest, Noted, TakesBack, all_undone}
use Rattle.tf_rows.specs.Spelled.{ShowTheirJournal, journal_in}
use Rattle.tf_rows.specs.Nest.{AreEmpty, LogsHaveValues}
use Rattle.tf_rows.specs.Next.{content_in}
use Rattle.tf_rows.specs.Parts.{Part, Parts, value_of_part}
use Rattle.tf_rows.specs.Resident.{Accounts, AreAmong, accounts_before}

pub all_undone-last : (notes : List Noted) (note : Noted) (rows : Parts) → all_undone (notes ++ note ∷ []) rows ≡ all_undone notes (all_stepped note.steps rows)
all_undone-last [] note rows = refl
all_undone-last (first ∷ notes) note rows = ap (all_stepped first.steps) (all_undone-last notes note rows)

module _ (has : Row → Bool) (fits : Row → Value → Bool) (takes_any : Row → Type 0) where
  abbrev Takes : Noted → Parts → Type 0
  Takes note rows = TakesBack has fits takes_any note rows

  abbrev Right : List Noted → Parts → Type 0
  Right notes rows = AreRight has fits takes_any notes rows

  pub right-last : (notes : List Noted) (note : Noted) (rows : Parts) → Takes note rows → Right notes (all_stepped note.steps rows) → Right (notes ++ note ∷ []) rows
  right-last [] note rows takes right = (tt, takes)
  right-last (first ∷ notes) note rows takes right =
      (right-last notes note rows takes right.0, subst (Takes first) (sym (all_undone-last notes note rows)) right.1)

  pub right-first : (notes : List Noted) (note : Noted) (rows : Parts) → Right (notes ++ note ∷ []) rows → Takes note rows × Right notes (all_stepped note.steps rows)
  right-first [] note rows right = (right.1, tt)
  right-first (first ∷ notes) note rows right =
      let rest = right-first notes note rows right.0 in
      (rest.0, (rest.1, subst (Takes first) (all_undone-last notes note rows) right.1))

-- a journal is no longer than its last timestamp
rising_length : (before most : ℕ) (journal : List Entry) → before ≤ most → IsRisingFrom before journal → IsUpTo most journal → before + length journal ≤ most
rising_length before most [] below rising up = omega arith
rising_length before most (e ∷ journal) below rising up =
    let rest = rising_length (timestamp_of e) most journal (All-head (λ (x : Entry). timestamp_of x ≤ most) e journal up) rising.1 (All-tail (λ (x : Entry). timestamp_of x ≤ most) e journal up) in
    let later = rising.0 in
    omega arith

pub journal_length : (journal : List Entry) → IsJournal journal → length journal ≤ last_timestamp
journal_length journal is = let long = rising_length 0 last_timestamp journal (omega arith) is.rising is.in_range in omega arith

-- what is kept and the notes together are the journal's length
pub noted_length : (has : Row → Bool) (fits : Row → Value → Bool) (takes_any : Row → Type 0) (rows : Parts) (notes : List Noted) (kept clock n : ℕ) (lows : Floors) (due : Keys) (held : List (ℕ × Party)) (known : List (List ℕ)) → IsForest has fits takes_any rows notes kept clock lows due held known → n ≡ length notes → kept + n ≤ last_timestamp
noted_length has fits takes_any rows notes kept clock n lows due held known is own =
    let long = journal_length (journal_in rows) is.shows.sound.is_journal in
    let count = is.count in
    omega arith

-- what is known of rows that show a journal: they spell it
abbrev pub Spell : Type 0
Spell = (rows : Parts) (journal : List Entry) → IsSound journal → Shows (content_in rows) journal → journal_in rows ≡ journal

-- rows after an entry was added to them, with the note that takes it back
module _ (has : Row → Bool) (fits : Row → Value → Bool) (takes_any : Row → Type 0) where
  pub record IsGrown (old new : Parts) (e : Entry) (note : Noted) : Type 0 where
    pub shows : Shows (content_in new) (journal_in old ++ e ∷ [])
    pub values : LogsHaveValues new
    pub can : CanStepAll has fits takes_any note.steps new
    pub back : all_stepped note.steps new ≡ old
    pub accounts : (id : ℕ) → accounts_before note.formers (party_of (journal_in old ++ e ∷ [])) id ≡ party_of (journal_in old) id

  module _ (spell : Spell) (old new : Parts) (notes : List Noted) (note : Noted) (kept clock : ℕ) (lows : Floors) (due : Keys) (held : List (ℕ × Party)) (known : List (List ℕ)) (e : Entry) (was : IsForest has fits takes_any old notes kept clock lows due held known) (grows : CanGrow (journal_in old) e) (is : IsGrown old new e note) where
    now_sound : IsSound (journal_in old ++ e ∷ [])
    now_sound = sound_push (journal_in old) e was.shows.sound grows

    pub grown_journal : journal_in new ≡ journal_in old ++ e ∷ []
    grown_journal = spell new (journal_in old ++ e ∷ []) now_sound is.shows

    takes : TakesBack has fits takes_any note new
    takes = record {
      can = is.can;
      shows = subst ShowTheirJournal (sym is.back) was.shows;
      last = e;
      added = grown_journal ∙ ap (λ (rows : Parts). journal_in rows ++ e ∷ []) (sym is.back);
      accounts = λ id.
          ap (λ (j : List Entry). accounts_before note.formers (party_of j) id) grown_journal ∙ is.accounts id
          ∙ ap (λ (rows : Parts). party_of (journal_in rows) id) (sym is.back);
    }

    pub grown_forest : (after : Floors) (keys : Keys) (now : List (ℕ × Party)) (more : List (List ℕ)) → HaveFloors after (journal_in old ++ e ∷ []) kept → StayHeld keys (journal_in old ++ e ∷ []) kept → AreAmong (party_of (journal_in old ++ e ∷ [])) now → AreKnown more (journal_in old ++ e ∷ []) → IsForest has fits takes_any new (notes ++ note ∷ []) kept clock after keys now more
    grown_forest after keys now more have stay right used = record {
      shows = record {
        sound = subst IsSound (sym grown_journal) now_sound;
        shows = subst (Shows (content_in new)) (sym grown_journal) is.shows;
        values = is.values;
      };
      right = right-last has fits takes_any notes note new takes (subst (AreRight has fits takes_any notes) (sym is.back) was.right);
      count =
          let before = was.count in
          let journal = ap (λ (j : List Entry). length j) grown_journal ∙ length-append (journal_in old) (e ∷ []) in
          let more = length-append notes (note ∷ []) in
          omega arith;
      floors = subst (λ (j : List Entry). HaveFloors after j kept) (sym grown_journal) have;
      due = subst (λ (j : List Entry). StayHeld keys j kept) (sym grown_journal) stay;
      resident = subst (λ (j : List Entry). AreAmong (party_of j) now) (sym grown_journal) right;
      used = subst (AreKnown more) (sym grown_journal) used;
      up_to =
          let count = was.count in
          subst (IsUpTo clock) (sym (ap (take kept) grown_journal ∙ take-append-le kept (journal_in old) (e ∷ []) (omega arith))) was.up_to;
    }

-- a journal with nothing cut, and cut once more
pub none_cut : (journal : List Entry) (n : ℕ) → IsCut journal journal (n - n)
none_cut journal n = record { undone = []; is = sym (append-nil journal); many = omega arith }

pub once_cut : (whole old new : List Entry) (last : Entry) (n : ℕ) → IsCut whole old n → old ≡ new ++ last ∷ [] → IsCut whole new (suc n)
once_cut whole old new last n cut is = record {
  undone = last ∷ cut.undone;
  is = cut.is ∙ ap (λ (j : List Entry). j ++ cut.undone) is ∙ append_assoc new (last ∷ []) cut.undone;
  many = ap suc cut.many;
}

pub cut_length : (old new : List Entry) (count : ℕ) → IsCut old new count → length old ≡ length new + count
cut_length old new count cut =
    let parts = length-append new cut.undone in
    let whole = ap (λ (j : List Entry). length j) cut.is in
    let many = cut.many in
    omega arith

-- one note less
module _ (has : Row → Bool) (fits : Row → Value → Bool) (takes_any : Row → Type 0) (whole : List Entry) (count : ℕ) where
  pub record IsUndone (rows : Parts) (notes : List Noted) (held : List (ℕ × Party)) : Type 0 where
    pub shows : ShowTheirJournal rows
    pub right : AreRight has fits takes_any notes rows
    pub fewer : length notes ≤ count
    pub cut : IsCut whole (journal_in rows) (count - length notes)
    pub resident : AreAmong (party_of (journal_in rows)) held

  -- what is held after a note's accounts are as they were
  abbrev GivesBack : Noted → List (ℕ × Party) → List (ℕ × Party) → Type 0
  GivesBack note held now = (accounts : Accounts) → AreAmong accounts held → AreAmong (accounts_before note.formers accounts) now

  pub one_less : (rows after : Parts) (notes rest : List Noted) (note : Noted) (held now : List (ℕ × Party)) → IsUndone rows notes held → notes ≡ rest ++ note ∷ [] → after ≡ all_stepped note.steps rows → GivesBack note held now → IsUndone after rest now
  one_less rows after notes rest note held now is split back gives =
      let both = right-first has fits takes_any rest note rows (subst (λ (ns : List Noted). AreRight has fits takes_any ns rows) split is.right) in
      let many = ap (λ (ns : List Noted). length ns) split ∙ length-append rest (note ∷ []) in
      let bound = is.fewer in
      subst (λ (ps : Parts). IsUndone ps rest now) (sym {A = Parts} back) (record {
        shows = both.0.shows;
        right = both.1;
        fewer = omega arith;
        cut =
            let less : suc (count - length notes) ≡ count - length rest = omega arith in
            subst (IsCut whole (journal_in (all_stepped note.steps rows))) less
            (once_cut whole (journal_in rows) (journal_in (all_stepped note.steps rows)) both.0.last (count - length notes) is.cut both.0.added);
        resident = λ id party there. sym (both.0.accounts id) ∙ gives (party_of (journal_in rows)) is.resident id party there;
      })

  pub can_undo : (rows : Parts) (notes rest : List Noted) (note : Noted) (held : List (ℕ × Party)) → IsUndone rows notes held → notes ≡ rest ++ note ∷ [] → CanStepAll has fits takes_any note.steps rows
  can_undo rows notes rest note held is split =
      (right-first has fits takes_any rest note rows (subst (λ (ns : List Noted). AreRight has fits takes_any ns rows) split is.right)).0.can

pub cut_is_taken : (old new : List Entry) (count n : ℕ) → IsCut old new count → length old ≡ n + count → take n old ≡ new
cut_is_taken old new count n cut long =
    let parts = length-append new cut.undone in
    let whole = ap (λ (j : List Entry). length j) cut.is in
    let many = cut.many in
    let own : n ≡ length new = omega arith in
    ap (take n) cut.is ∙ ap (λ (m : ℕ). take m (new ++ cut.undone)) own ∙ take_at new cut.undone (length new) refl

-- rows with nothing show the journal with nothing
no_value : (r : Row) (key : Key) → value_of [] r key ≡ None
no_value row.AccountObjects key = refl
no_value row.AccountIds key = refl
no_value row.AccountUserData128 key = refl
no_value row.AccountUserData64 key = refl
no_value row.AccountUserData32 key = refl
no_value row.AccountLedger key = refl
no_value row.AccountCode key = refl
no_value row.AccountSums key = refl
no_value row.TransferObjects key = refl
no_value row.TransferIds key = refl
no_value row.TransferDebit key = refl
no_value row.TransferCredit key = refl
no_value row.TransferUserData128 key = refl
no_value row.TransferUserData64 key = refl
no_value row.TransferUserData32 key = refl
no_value row.TransferLedger key = refl
no_value row.TransferCode key = refl
no_value row.PendingStatus key = refl
no_value row.Expiry key = refl
no_value row.ExpiryEntries key = refl
no_value row.History key = refl

nothing_shown : (rows : Parts) → AreEmpty rows → Shows (content_in rows) []
nothing_shown rows empty r key = ap (λ (part : Part). value_of_part part key) (empty r) ∙ sym (no_value r key)

no_tombstone : (rows : Parts) → AreEmpty rows → LogsHaveValues rows
no_tombstone rows empty r log key =
    subst (λ (part : Part). entry_at key part.fresh ≢ Some None) (sym (empty r)) (λ same. absurd (cc))

pub empty_journal : Spell → (rows : Parts) → AreEmpty rows → journal_in rows ≡ []
empty_journal spell rows empty = spell rows [] sound_nothing (nothing_shown rows empty)

pub empty_forest : (has : Row → Bool) (fits : Row → Value → Bool) (takes_any : Row → Type 0) → Spell → (rows : Parts) → AreEmpty rows → (lows : Floors) → HaveFloors lows [] 0 → (known : List (List ℕ)) → AreKnown known [] → IsForest has fits takes_any rows [] 0 0 lows [] [] known
empty_forest has fits takes_any spell rows empty lows have known none = record {
  shows = record {
    sound = subst IsSound (sym (empty_journal spell rows empty)) sound_nothing;
    shows = subst (Shows (content_in rows)) (sym (empty_journal spell rows empty)) (nothing_shown rows empty);
    values = no_tombstone rows empty;
  };
  right = tt;
  count = ap (λ (j : List Entry). length j) (empty_journal spell rows empty);
  floors = subst (λ (j : List Entry). HaveFloors lows j 0) (sym (empty_journal spell rows empty)) have;
  due = subst (λ (j : List Entry). StayHeld [] j 0) (sym (empty_journal spell rows empty)) (λ n more. subst (AreHeld []) (sym (take_all n [] (omega arith))) (λ key free. refl));
  resident = λ id party there. absurd (none-some party there);
  used = subst (AreKnown known) (sym (empty_journal spell rows empty)) none;
  up_to = subst (λ (j : List Entry). IsUpTo 0 (take 0 j)) (sym (empty_journal spell rows empty)) (All-nil (λ (e : Entry). timestamp_of e ≤ 0));
}

-- rows with the same value at each key show the same journal
same_shown : (old new : Parts) → ((r : Row) (key : Key) → value_of_part (new r) key ≡ value_of_part (old r) key) → Shows (content_in old) (journal_in old) → Shows (content_in new) (journal_in old)
same_shown old new same shows r key = same r key ∙ shows r key

pub same_journal : Spell → (old new : Parts) → ((r : Row) (key : Key) → value_of_part (new r) key ≡ value_of_part (old r) key) → ShowTheirJournal old → journal_in new ≡ journal_in old
same_journal spell old new same was = spell new (journal_in old) was.sound (same_shown old new same was.shows)

no_notes : (notes : List Noted) → length notes ≡ 0 → notes ≡ []
no_notes [] none = refl
no_notes (note ∷ notes) none = absurd (omega arith)

-- a forest that keeps all its entries has no notes
pub all_kept : (has : Row → Bool) (fits : Row → Value → Bool) (takes_any : Row → Type 0) (rows : Parts) (notes : List Noted) (kept clock : ℕ) (lows : Floors) (due : Keys) (held : List (ℕ × Party)) (known : List (List ℕ)) → IsForest has fits takes_any rows notes kept clock lows due held known → kept ≡ length (journal_in rows) → notes ≡ []
all_kept has fits takes_any rows notes kept clock lows due held known was all =
    let count = was.count in
    no_notes notes (omega arith)

-- a forest that keeps all its entries, over such rows
pub same_forest : (has : Row → Bool) (fits : Row → Value → Bool) (takes_any : Row → Type 0) → Spell → (old new : Parts) (notes : List Noted) (kept clock : ℕ) (lows : Floors) (due : Keys) (held : List (ℕ × Party)) (known : List (List ℕ)) → ((r : Row) (key : Key) → value_of_part (new r) key ≡ value_of_part (old r) key) → LogsHaveValues new
    → IsForest has fits takes_any old notes kept clock lows due held known → kept ≡ length (journal_in old) → IsForest has fits takes_any new notes kept clock lows due held known
same_forest has fits takes_any spell old new notes kept clock lows due held known same values was all =
    let journal = same_journal spell old new same was.shows in
    let count = was.count in
    record {
      shows = record {
        sound = subst IsSound (sym journal) was.shows.sound;
        shows = subst (Shows (content_in new)) (sym journal) (same_shown old new same was.shows.shows);
        values = values;
      };
      right = subst (λ (ns : List Noted). AreRight has fits takes_any ns new) (sym (no_notes notes (omega arith))) tt;
      count = ap (λ (j : List Entry). length j) journal ∙ was.count;
      floors = subst (λ (j : List Entry). HaveFloors lows j kept) (sym journal) was.floors;
      due = subst (λ (j : List Entry). StayHeld due j kept) (sym journal) was.due;
      resident = subst (λ (j : List Entry). AreAmong (party_of j) held) (sym journal) was.resident;
      used = subst (AreKnown known) (sym journal) was.used;
      up_to = subst (λ (j : List Entry). IsUpTo clock (take kept j)) (sym journal) was.up_to;
    }

-- a forest that holds other keys of expiry and knows other ids, those of before among them
pub holding_more : (has : Row → Bool) (fits : Row → Value → Bool) (takes_any : Row → Type 0) (rows : Parts) (notes : List Noted) (kept clock : ℕ) (lows : Floors) (keys now : Keys) (held : List (ℕ × Party)) (known more : List (List ℕ)) → ((journal : List Entry) → AreHeld keys journal → AreHeld now journal)
    → ((journal : List Entry) → AreKnown known journal → AreKnown more journal) → IsForest has fits takes_any rows notes kept clock lows keys held known → IsForest has fits takes_any rows notes kept clock lows now held more
holding_more has fits takes_any rows notes kept clock lows keys now held known more stays used was = record {
  shows = was.shows;
  right = was.right;
  count = was.count;
  floors = was.floors;
  due = λ n later. stays (take n (journal_in rows)) (was.due n later);
  resident = was.resident;
  used = used (journal_in rows) was.used;
  up_to = was.up_to;
}
