-- What isn't in a journal isn't in its beginning; and what an event's passing failure says of its id.
use Rattle.std.proofs.Common.{◌≡◌, ℕ, ◌<◌, List, [], ◌∷◌, ◌++◌, Option, Some, None, Bool, true, false, not, ap, sym, refl, ◌∙◌, arith, subst, inl, inr, ◌||◌}
use Rattle.std.proofs.lemmas.Bool.{cases_Bool, eqb-false, not-false}
use Rattle.std.specs.Prelude.{◌==◌, if◌then◌else◌}
use Rattle.std.specs.List.{find, filter_map, list_all, list_any}
use Rattle.std.specs.Option.{option_map_or, unwrap_or}
use Rattle.tf_records.specs.declared.transfer.Transfer.{Transfer}
use Rattle.tf_records.specs.declared.outcome.Outcome.{Outcome}
use Rattle.tf_records.specs.declared.outcome.Outcome.TheVariants as outcome
use Rattle.tf_journal.specs.declared.entry.Entry.{Entry}
use Rattle.tf_journal.specs.declared.entry.Entry.TheVariants as entry
use Rattle.tf_journal.specs.Fits.{FitsTransfer}
use Rattle.tf_journal.specs.Flags.{is_settling}
use Rattle.tf_journal.specs.Journal.{fails, is_failed, transfer_in, transfers_of}
use Rattle.tf_journal.specs.Lawful.{IsAdmittedFailure}
use Rattle.tf_journal.specs.Lookup.{transfer_with_id}
use Rattle.tf_journal.specs.Verdict.{compared, first_fault, greatest_id, is_transient, moving_faults, moving_verdict, repeated, settling_faults, settling_verdict, transfer_differences, transfer_faults, transfer_verdict, used_id_fault, verdict_of}
use Rattle.tf_journal.proofs.Accepted.{IsNewId, new_id, no_line}

none_before : {X : Type 0} (p : X → Bool) (xs ys : List X) → find p (xs ++ ys) ≡ None → find p xs ≡ None
none_before p [] ys is = refl
none_before p (x ∷ xs) ys is = go (p x) (none_before p xs ys) is where
  go : (b : Bool) → (find p (xs ++ ys) ≡ None → find p xs ≡ None) → (if b then Some x else find p (xs ++ ys)) ≡ None → (if b then Some x else find p xs) ≡ None
  go true later is = cc
  go false later is = later is

transfers_of-append : (journal more : List Entry) → transfers_of (journal ++ more) ≡ transfers_of journal ++ transfers_of more
transfers_of-append [] more = refl
transfers_of-append (entry.Account a ∷ journal) more = transfers_of-append journal more
transfers_of-append (entry.Transfer t ∷ journal) more = ap (λ ts. t ∷ ts) (transfers_of-append journal more)
transfers_of-append (entry.Expiry t p ∷ journal) more = transfers_of-append journal more
transfers_of-append (entry.Failed t i ∷ journal) more = transfers_of-append journal more

-- a transfer that isn't stored wasn't stored before
pub transfer_of-before : (journal more : List Entry) (id : ℕ) → transfer_with_id (journal ++ more) id ≡ None → transfer_with_id journal id ≡ None
transfer_of-before journal more id is =
    none_before (λ t. t.id == id) (transfers_of journal) (transfers_of more)
    (subst (λ ts. find (λ t. t.id == id) ts ≡ None) (transfers_of-append journal more) is)

-- an id that hasn't failed hadn't failed before
pub is_failed-before : (journal more : List Entry) (id : ℕ) → is_failed (journal ++ more) id ≡ false → is_failed journal id ≡ false
is_failed-before [] more id is = refl
is_failed-before (e ∷ journal) more id is = go (fails id e) (is_failed-before journal more id) is where
  go : (b : Bool) → (is_failed (journal ++ more) id ≡ false → is_failed journal id ≡ false) → (b || is_failed (journal ++ more) id) ≡ false
      → (b || is_failed journal id) ≡ false
  go true later is = cc
  go false later is = later is

-- a section of a verdict has no passing failure
abbrev IsLasting : Option Outcome → Type 0
IsLasting section = (o : Outcome) → section ≡ Some o → is_transient o ≡ true → ⊥

-- no line of the table is a passing failure
abbrev only_lasting : List (Bool × Outcome) → Bool
only_lasting lines = list_all (λ line. not (is_transient line.1)) lines

first_fault-lasting : (lines : List (Bool × Outcome)) → only_lasting lines ≡ true → IsLasting (first_fault lines)
first_fault-lasting [] all o is transient = cc
first_fault-lasting ((true, p) ∷ lines) all o is transient = grind (arith, is, transient, all)
first_fault-lasting ((false, p) ∷ lines) all o is transient = first_fault-lasting lines (grind (arith, all)) o is transient

-- a verdict with a passing failure passed its first section, where that has none
verdict_of-lasting : (section : Option Outcome) (rest : List (Option Outcome)) (o : Outcome) → IsLasting section
    → verdict_of (section ∷ rest) ≡ o → is_transient o ≡ true → (section ≡ None) × (verdict_of rest ≡ o)
verdict_of-lasting None rest o lasting is transient = (refl, is)
verdict_of-lasting (Some p) rest o lasting is transient = absurd (lasting p refl (ap is_transient is ∙ transient))

repeated_lasts : (differences : List (Bool × Outcome)) → only_lasting differences ≡ true → (o : Outcome) → repeated differences ≡ o → is_transient o ≡ true → ⊥
repeated_lasts differences all o is transient = go (first_fault differences) (first_fault-lasting differences all) is where
  go : (fault : Option Outcome) → IsLasting fault → unwrap_or fault outcome.Exists ≡ o → ⊥
  go None lasting same = let e : outcome.Exists ≡ o = same in grind (arith, e, transient)
  go (Some p) lasting same = lasting p refl (ap is_transient same ∙ transient)

used_lasts : (differences : Transfer → List (Bool × Outcome)) → ((stored : Transfer) → only_lasting (differences stored) ≡ true) → (stored : Option Transfer) (failed : Bool)
    → IsLasting (option_map_or (λ other. Some (repeated (differences other))) stored (if failed then Some outcome.IdAlreadyFailed else None))
used_lasts differences all None true o is transient = let s : outcome.IdAlreadyFailed ≡ o = cc in grind (arith, s, transient)
used_lasts differences all None false o is transient = cc
used_lasts differences all (Some stored) failed o is transient =
    repeated_lasts (differences stored) (all stored) o (let s : Some (repeated (differences stored)) ≡ Some o = is in cc) transient

used_id_lasts : (journal : List Entry) (e : Transfer) → IsLasting (used_id_fault journal e)
used_id_lasts journal e = used_lasts (transfer_differences (compared journal e)) (λ stored. refl) (transfer_with_id journal e.id) (is_failed journal e.id)

-- an event that fails for a passing reason is faultless by itself, and its id is new
pub record IsPassing (journal : List Entry) (e : Transfer) : Type 0 where
  pub faultless : first_fault (transfer_faults e) ≡ None
  pub new : IsNewId journal e.id

passing_with : (journal : List Entry) (e : Transfer) (own : List (Bool × Outcome)) (rest : List (Option Outcome)) (o : Outcome) → only_lasting own ≡ true
    → verdict_of (first_fault (transfer_faults e) ∷ first_fault own ∷ used_id_fault journal e ∷ rest) ≡ o → is_transient o ≡ true → IsPassing journal e
passing_with journal e own rest o lasting is transient =
    let faults = verdict_of-lasting (first_fault (transfer_faults e)) _ o (first_fault-lasting (transfer_faults e) refl) is transient in
    let owns = verdict_of-lasting (first_fault own) _ o (first_fault-lasting own lasting) faults.1 transient in
    let used = verdict_of-lasting (used_id_fault journal e) _ o (used_id_lasts journal e) owns.1 transient in
    record { faultless = faults.0; new = new_id journal e used.0 }

passing : (journal : List Entry) (timestamp : ℕ) (e : Transfer) (o : Outcome) → transfer_verdict journal timestamp e ≡ o → is_transient o ≡ true → IsPassing journal e
passing journal timestamp e o is transient =
    let chosen = λ (b : Bool). (if b then settling_verdict journal timestamp e else moving_verdict journal timestamp e) ≡ o in
    elim (cases_Bool (is_settling e)) [
      | inl settling ↦ passing_with journal e (settling_faults e) _ o refl (subst chosen settling is) transient
      | inr moving ↦ passing_with journal e (moving_faults e) _ o refl (subst chosen moving is) transient
    ]

-- each beginning of the journal admits the failure of its id
pub passing_admitted : (journal more : List Entry) (timestamp : ℕ) (e : Transfer) (o : Outcome) → FitsTransfer e
    → transfer_verdict (journal ++ more) timestamp e ≡ o → is_transient o ≡ true → IsAdmittedFailure journal e.id
passing_admitted journal more timestamp e o fits is transient =
    let passed = passing (journal ++ more) timestamp e o is transient in
    let not_zero = eqb-false e.id 0 (no_line (transfer_faults e) 2 _ passed.faultless refl) in
    let not_greatest = eqb-false e.id greatest_id (no_line (transfer_faults e) 3 _ passed.faultless refl) in
    record {
      not_zero = omega (arith, not_zero);
      not_greatest = omega (arith, not_greatest, fits.id);
      not_stored = transfer_of-before journal more e.id passed.new.not_stored;
      not_failed = is_failed-before journal more e.id passed.new.not_failed;
    }
