-- What an accepting verdict says of the event and of the journal.
use Rattle.std.proofs.Common.{◌≡◌, ◌≢◌, ℕ, ◌+◌, ◌≤◌, Bool, true, false, not, ◌&&◌, List, [], ◌∷◌, Option, Some, None, refl, ap, sym, ◌∙◌, subst, arith, zero, suc, slice_get, ◌⊎◌, inl, inr}
use Rattle.std.proofs.lemmas.Bool.{ltb-false, eqb-true, eqb-false, not-false, cases_Bool, and_cases, or_parts, both_ways}
use Rattle.std.specs.Prelude.{is_none, nat_lt, if◌then◌else◌}
use Rattle.std.specs.List.{list_all}
use Rattle.std.specs.Option.{option_map, option_map_or, unwrap_or}
use Rattle.tf_records.specs.declared.account.Account.{Account}
use Rattle.tf_records.specs.declared.transfer.Transfer.{Transfer}
use Rattle.tf_records.specs.declared.outcome.Outcome.{Outcome}
use Rattle.tf_records.specs.declared.outcome.Outcome.TheVariants as outcome
use Rattle.tf_journal.specs.declared.entry.Entry.{Entry}
use Rattle.tf_journal.specs.declared.side.Side.TheVariants.{Debit, Credit}
use Rattle.tf_journal.specs.Balances.{pending_on, posted_on, greatest_amount}
use Rattle.tf_journal.specs.Flags.{is_pending, is_settling, limits_debits, limits_credits}
use Rattle.tf_journal.specs.Journal.{is_failed}
use Rattle.tf_journal.specs.Lookup.{shown_with_id, account_with_id, transfer_with_id}
use Rattle.tf_journal.specs.declared.status.Status.{Status}
use Rattle.tf_journal.specs.declared.status.Status.TheVariants as status
use Rattle.tf_journal.specs.Lawful.{IsAdmittedTransfer}
use Rattle.tf_journal.specs.Status.{is_open, is_open_status, status_of}
use Rattle.tf_journal.specs.Stored.{stamped, settled}
use Rattle.tf_journal.specs.Verdict.{first_fault, verdict_of, is_accepted, is_posted_status, is_voided_status, is_expired_status, account_faults, account_differences, repeated, account_verdict, transfer_faults, transfer_differences, compared, moving_faults, settling_faults, used_id_fault, sides_faults, pending_faults, named_fault, settling_verdict, moving_verdict, transfer_verdict}

-- no line of the table accepts
abbrev pub only_refuses : List (Bool × Outcome) → Bool
only_refuses lines = list_all (λ line. not (is_accepted line.1)) lines

-- what a section of a verdict says isn't ok
abbrev pub IsRefusal : Option Outcome → Type 0
IsRefusal section = (o : Outcome) → section ≡ Some o → is_accepted o ≡ true → ⊥

pub first_fault-refuses : (lines : List (Bool × Outcome)) → only_refuses lines ≡ true → IsRefusal (first_fault lines)
first_fault-refuses [] all o is accepted = cc
first_fault-refuses ((true, p) ∷ lines) all o is accepted = grind (arith, is, accepted, all)
first_fault-refuses ((false, p) ∷ lines) all o is accepted =
    first_fault-refuses lines (grind (arith, all)) o is accepted

-- a verdict that accepts passed its first section, where that refuses alone
pub verdict_of-accepts : (section : Option Outcome) (rest : List (Option Outcome)) → IsRefusal section
    → verdict_of (section ∷ rest) ≡ outcome.Ok → (section ≡ None) × (verdict_of rest ≡ outcome.Ok)
verdict_of-accepts None rest refuses is = (refl, is)
verdict_of-accepts (Some o) rest refuses is = absurd (refuses o refl (ap is_accepted is))

repeated_refuses : (differences : List (Bool × Outcome)) → only_refuses differences ≡ true → (o : Outcome) → repeated differences ≡ o → is_accepted o ≡ true → ⊥
repeated_refuses differences all o is accepted =
    let cases : (fault : Option Outcome) → IsRefusal fault → unwrap_or fault outcome.Exists ≡ o → ⊥
    = elim [
      | None ↦ λ refuses same. let e : outcome.Exists ≡ o = same in grind (arith, e, accepted)
      | Some p ↦ λ refuses same. refuses p refl (ap is_accepted same ∙ accepted)
    ] in
    cases (first_fault differences) (first_fault-refuses differences all) is

-- of a table of which no line holds, the line at a place doesn't
pub no_line : (lines : List (Bool × Outcome)) (k : ℕ) (line : Bool × Outcome) → first_fault lines ≡ None → slice_get lines k ≡ Some line → line.0 ≡ false
no_line [] k line none is = cc
no_line ((true, p) ∷ lines) k line none is = cc
no_line ((false, p) ∷ lines) zero line none is = let e : (false, p) ≡ line = cc in ap (λ l. l.0) (sym e)
no_line ((false, p) ∷ lines) (suc k) line none is = no_line lines k line none is

no_option : {X Y : Type 0} (f : X → Y) (o : Option X) → option_map f o ≡ None → o ≡ None
no_option f None is = refl
no_option f (Some x) is = cc

-- an accepted account's id is new
pub account_is_new : (journal : List Entry) (timestamp : ℕ) (e : Account) → account_verdict journal timestamp e ≡ outcome.Ok → account_with_id journal e.id ≡ None
account_is_new journal timestamp e is =
    let difference = λ (stored : Account). repeated (account_differences e stored) in
    let refuses : (stored : Option Account) → IsRefusal (option_map difference stored) = elim [
      | None ↦ λ o same. cc
      | Some stored ↦ λ o same. repeated_refuses (account_differences e stored) refl o (let s : Some (difference stored) ≡ Some o = same in cc)
    ] in
    let own = verdict_of-accepts (first_fault (account_faults e)) _ (first_fault-refuses (account_faults e) refl) is in
    let new = verdict_of-accepts (option_map difference (shown_with_id journal e.id)) [] (refuses (shown_with_id journal e.id)) own.1 in
    no_option _ (account_with_id journal e.id) (no_option difference (shown_with_id journal e.id) new.0)

-- the id of a transfer is neither stored nor failed
pub record IsNewId (journal : List Entry) (id : ℕ) : Type 0 where
  pub not_stored : transfer_with_id journal id ≡ None
  pub not_failed : is_failed journal id ≡ false

-- the fault of an id by the stored transfer that has it, if one does, or by whether it failed
abbrev used_by : (Transfer → List (Bool × Outcome)) → Option Transfer → Bool → Option Outcome
used_by differences stored failed =
    option_map_or (λ other. Some (repeated (differences other))) stored (if failed then Some outcome.IdAlreadyFailed else None)

used_refuses : (differences : Transfer → List (Bool × Outcome)) → ((stored : Transfer) → only_refuses (differences stored) ≡ true)
    → (stored : Option Transfer) (failed : Bool) → IsRefusal (used_by differences stored failed)
used_refuses differences all None true o is accepted = let s : outcome.IdAlreadyFailed ≡ o = cc in grind (arith, s, accepted)
used_refuses differences all None false o is accepted = cc
used_refuses differences all (Some stored) failed o is accepted =
    repeated_refuses (differences stored) (all stored) o (let s : Some (repeated (differences stored)) ≡ Some o = is in cc) accepted

unused_parts : (differences : Transfer → List (Bool × Outcome)) (stored : Option Transfer) (failed : Bool) → used_by differences stored failed ≡ None
    → (stored ≡ None) × (failed ≡ false)
unused_parts differences None true is = cc
unused_parts differences None false is = (refl, refl)
unused_parts differences (Some stored) failed is = cc

-- the fault of an id in use isn't ok
pub used_id_refuses : (journal : List Entry) (e : Transfer) → IsRefusal (used_id_fault journal e)
used_id_refuses journal e =
    used_refuses (transfer_differences (compared journal e)) (λ stored. refl) (transfer_with_id journal e.id) (is_failed journal e.id)

-- a transfer that passed the comparison with what has its id has a new one
pub new_id : (journal : List Entry) (e : Transfer) → used_id_fault journal e ≡ None → IsNewId journal e.id
new_id journal e is =
    let unused = unused_parts (transfer_differences (compared journal e)) (transfer_with_id journal e.id) (is_failed journal e.id) is in
    record { not_stored = unused.0; not_failed = unused.1 }

-- what an accepted post or void passed
pub record IsSettlingPassed (journal : List Entry) (timestamp : ℕ) (e : Transfer) : Type 0 where
  pub settling : is_settling e ≡ true
  pub faults : first_fault (transfer_faults e) ≡ None
  pub own_faults : first_fault (settling_faults e) ≡ None
  pub new : IsNewId journal e.id
  pub pending : Transfer
  pub named : transfer_with_id journal e.pending_id ≡ Some pending
  pub pending_faults : first_fault (pending_faults journal timestamp e pending) ≡ None

-- what any other accepted transfer passed
pub record IsMovingPassed (journal : List Entry) (timestamp : ℕ) (e : Transfer) : Type 0 where
  pub moving : is_settling e ≡ false
  pub faults : first_fault (transfer_faults e) ≡ None
  pub own_faults : first_fault (moving_faults e) ≡ None
  pub new : IsNewId journal e.id
  pub sides_faults : first_fault (sides_faults journal timestamp e) ≡ None

named_refuses : (journal : List Entry) (timestamp : ℕ) (e : Transfer) (named : Option Transfer) → IsRefusal (named_fault journal timestamp e named)
named_refuses journal timestamp e None o is accepted = let s : outcome.PendingTransferNotFound ≡ o = cc in grind (arith, s, accepted)
named_refuses journal timestamp e (Some pending) o is accepted =
    first_fault-refuses (pending_faults journal timestamp e pending) refl o is accepted

named_passed : (journal : List Entry) (timestamp : ℕ) (e : Transfer) (named : Option Transfer) → named_fault journal timestamp e named ≡ None
    → (pending : Transfer) × (named ≡ Some pending) × (first_fault (pending_faults journal timestamp e pending) ≡ None)
named_passed journal timestamp e None is = cc
named_passed journal timestamp e (Some pending) is = (pending, refl, is)

settling_passed : (journal : List Entry) (timestamp : ℕ) (e : Transfer) → is_settling e ≡ true → settling_verdict journal timestamp e ≡ outcome.Ok → IsSettlingPassed journal timestamp e
settling_passed journal timestamp e settling is =
    let faults = verdict_of-accepts (first_fault (transfer_faults e)) _ (first_fault-refuses (transfer_faults e) refl) is in
    let own = verdict_of-accepts (first_fault (settling_faults e)) _ (first_fault-refuses (settling_faults e) refl) faults.1 in
    let used = verdict_of-accepts (used_id_fault journal e) _ (used_id_refuses journal e) own.1 in
    let named = verdict_of-accepts (named_fault journal timestamp e (transfer_with_id journal e.pending_id)) [] (named_refuses journal timestamp e (transfer_with_id journal e.pending_id)) used.1 in
    let passed = named_passed journal timestamp e (transfer_with_id journal e.pending_id) named.0 in
    record {
      settling = settling;
      faults = faults.0;
      own_faults = own.0;
      new = new_id journal e used.0;
      pending = passed.0;
      named = passed.1;
      pending_faults = passed.2;
    }

moving_passed : (journal : List Entry) (timestamp : ℕ) (e : Transfer) → is_settling e ≡ false → moving_verdict journal timestamp e ≡ outcome.Ok → IsMovingPassed journal timestamp e
moving_passed journal timestamp e moving is =
    let faults = verdict_of-accepts (first_fault (transfer_faults e)) _ (first_fault-refuses (transfer_faults e) refl) is in
    let own = verdict_of-accepts (first_fault (moving_faults e)) _ (first_fault-refuses (moving_faults e) refl) faults.1 in
    let used = verdict_of-accepts (used_id_fault journal e) _ (used_id_refuses journal e) own.1 in
    let accounts = verdict_of-accepts (first_fault (sides_faults journal timestamp e)) [] (first_fault-refuses (sides_faults journal timestamp e) refl) used.1 in
    record {
      moving = moving;
      faults = faults.0;
      own_faults = own.0;
      new = new_id journal e used.0;
      sides_faults = accounts.0;
    }

-- an accepted transfer passed its tables
pub transfer_passed : (journal : List Entry) (timestamp : ℕ) (e : Transfer) → transfer_verdict journal timestamp e ≡ outcome.Ok
    → IsSettlingPassed journal timestamp e ⊎ IsMovingPassed journal timestamp e
transfer_passed journal timestamp e is =
    let chosen = λ (b : Bool). (if b then settling_verdict journal timestamp e else moving_verdict journal timestamp e) ≡ outcome.Ok in
    elim (cases_Bool (is_settling e)) [
      | inl settling ↦ inl (settling_passed journal timestamp e settling (subst chosen settling is))
      | inr moving ↦ inr (moving_passed journal timestamp e moving (subst chosen moving is))
    ]

is_there : {X : Type 0} (o : Option X) → is_none o ≡ false → (x : X) × (o ≡ Some x)
is_there None is = cc
is_there (Some x) is = (x, refl)

-- an accepted transfer that isn't a post or void: what it says of its accounts
pub record IsNewMoving (journal : List Entry) (transfer : Transfer) : Type 0 where
  pub moving : is_settling transfer ≡ false
  pub new : IsNewId journal transfer.id
  pub debit : Account
  pub credit : Account
  pub debit_stored : account_with_id journal transfer.debit_account_id ≡ Some debit
  pub credit_stored : account_with_id journal transfer.credit_account_id ≡ Some credit
  pub differ : transfer.debit_account_id ≢ transfer.credit_account_id
  pub debit_ledger : debit.ledger ≡ transfer.ledger
  pub credit_ledger : credit.ledger ≡ transfer.ledger
  pub debits_fit : pending_on journal Debit transfer.debit_account_id + posted_on journal Debit transfer.debit_account_id + transfer.amount ≤ greatest_amount
  pub credits_fit : pending_on journal Credit transfer.credit_account_id + posted_on journal Credit transfer.credit_account_id + transfer.amount ≤ greatest_amount
  pub debits_limited : limits_debits debit ≡ true
      → pending_on journal Debit transfer.debit_account_id + posted_on journal Debit transfer.debit_account_id + transfer.amount ≤ posted_on journal Credit transfer.debit_account_id
  pub credits_limited : limits_credits credit ≡ true
      → pending_on journal Credit transfer.credit_account_id + posted_on journal Credit transfer.credit_account_id + transfer.amount ≤ posted_on journal Debit transfer.credit_account_id

-- an accepted post or void: what it says of the pending transfer that it names
pub record IsNewSettling (journal : List Entry) (transfer : Transfer) : Type 0 where
  pub settling : is_settling transfer ≡ true
  pub not_pending : is_pending transfer ≡ false
  pub new : IsNewId journal transfer.id
  pub pending : Transfer
  pub named : transfer_with_id journal transfer.pending_id ≡ Some pending
  pub pending_is : is_pending pending ≡ true
  pub pending_open : is_open journal pending ≡ true
  pub debit : transfer.debit_account_id ≡ pending.debit_account_id
  pub credit : transfer.credit_account_id ≡ pending.credit_account_id
  pub ledger : transfer.ledger ≡ pending.ledger
  pub amount : transfer.amount ≤ pending.amount

limit_kept : (limits : Account → Bool) (stored : Option Account) (account : Account) (sum limit : ℕ) → stored ≡ Some account
    → (option_map_or limits stored false && nat_lt limit sum) ≡ false → limits account ≡ true → sum ≤ limit
limit_kept limits stored account sum limit is passed limited =
    let at : (limits account && nat_lt limit sum) ≡ false = subst (λ o. (option_map_or limits o false && nat_lt limit sum) ≡ false) is passed in
    elim (and_cases (limits account) (nat_lt limit sum) at) [
      | inl not_limited ↦ absurd (both_ways (limits account) not_limited limited)
      | inr within ↦ ltb-false limit sum within
    ]

moving_new : (journal : List Entry) (timestamp : ℕ) (e : Transfer) → IsMovingPassed journal timestamp e → IsNewMoving journal (stamped timestamp e)
moving_new journal timestamp e passed =
    let lines = sides_faults journal timestamp e in
    let debit = is_there (account_with_id journal e.debit_account_id) (no_line lines 0 _ passed.sides_faults refl) in
    let credit = is_there (account_with_id journal e.credit_account_id) (no_line lines 1 _ passed.sides_faults refl) in
    let ledger_at = λ (stored : Option Account). option_map_or (λ (account : Account). account.ledger) stored 0 in
    let same : ledger_at (account_with_id journal e.debit_account_id) ≡ ledger_at (account_with_id journal e.credit_account_id)
    = eqb-true _ _ (not-false _ (no_line lines 2 _ passed.sides_faults refl)) in
    let own : e.ledger ≡ ledger_at (account_with_id journal e.debit_account_id)
    = eqb-true _ _ (not-false _ (no_line lines 3 _ passed.sides_faults refl)) in
    record {
      moving = passed.moving;
      new = passed.new;
      debit = debit.0;
      credit = credit.0;
      debit_stored = debit.1;
      credit_stored = credit.1;
      differ = eqb-false _ _ (no_line (moving_faults e) 4 _ passed.own_faults refl);
      debit_ledger = sym (own ∙ ap ledger_at debit.1);
      credit_ledger = sym (own ∙ same ∙ ap ledger_at credit.1);
      debits_fit = ltb-false _ _ (no_line lines 10 _ passed.sides_faults refl);
      credits_fit = ltb-false _ _ (no_line lines 11 _ passed.sides_faults refl);
      debits_limited = limit_kept limits_debits (account_with_id journal e.debit_account_id) debit.0 _ _ debit.1 (no_line lines 13 _ passed.sides_faults refl);
      credits_limited = limit_kept limits_credits (account_with_id journal e.credit_account_id) credit.0 _ _ credit.1 (no_line lines 14 _ passed.sides_faults refl);
    }

open_from : (s : Status) → is_posted_status s ≡ false → is_voided_status s ≡ false → is_expired_status s ≡ false → is_open_status s ≡ true
open_from status.Open posted voided expired = refl
open_from status.Posted posted voided expired = cc
open_from status.Voided posted voided expired = cc
open_from status.Expired posted voided expired = cc

settling_new : (journal : List Entry) (timestamp : ℕ) (e : Transfer) (passed : IsSettlingPassed journal timestamp e)
    → IsNewSettling journal (settled passed.pending timestamp e)
settling_new journal timestamp e passed =
    let lines = pending_faults journal timestamp e passed.pending in
    let exclusive = (or_parts _ _ (or_parts _ _ (no_line (transfer_faults e) 4 _ passed.faults refl)).0).0 in
    record {
      settling = passed.settling;
      not_pending = elim (and_cases (is_pending e) (is_settling e) exclusive) [
        | inl not_pending ↦ not_pending
        | inr not_settling ↦ absurd (both_ways (is_settling e) not_settling passed.settling)
      ];
      new = passed.new;
      pending = passed.pending;
      named = passed.named;
      pending_is = not-false _ (no_line lines 0 _ passed.pending_faults refl);
      pending_open = open_from (status_of journal passed.pending)
          (no_line lines 7 _ passed.pending_faults refl) (no_line lines 8 _ passed.pending_faults refl)
          (or_parts _ _ (no_line lines 9 _ passed.pending_faults refl)).0;
      debit = refl;
      credit = refl;
      ledger = refl;
      amount = ltb-false _ _ (no_line lines 5 _ passed.pending_faults refl);
    }

-- a stored transfer was accepted as a post or void, or as another transfer
pub transfer_new : (journal : List Entry) (transfer : Transfer) → IsAdmittedTransfer journal transfer
    → IsNewSettling journal transfer ⊎ IsNewMoving journal transfer
transfer_new journal transfer admitted =
    let e = admitted.event in
    let stored_as = λ (settling : Bool) (named : Option Transfer).
    if settling then option_map_or (λ pending. settled pending transfer.timestamp e) named (stamped transfer.timestamp e) else stamped transfer.timestamp e in
    elim (transfer_passed journal transfer.timestamp e admitted.accepted) [
      | inl passed ↦
          let chosen : stored_as true (Some passed.pending) ≡ stored_as (is_settling e) (transfer_with_id journal e.pending_id)
          = sym (ap (λ b. stored_as b (transfer_with_id journal e.pending_id)) passed.settling ∙ ap (λ o. stored_as true o) passed.named) in
          inl (subst (λ t. IsNewSettling journal t) (chosen ∙ admitted.stored) (settling_new journal transfer.timestamp e passed))
      | inr passed ↦
          let chosen : stored_as false (transfer_with_id journal e.pending_id) ≡ stored_as (is_settling e) (transfer_with_id journal e.pending_id)
          = sym (ap (λ b. stored_as b (transfer_with_id journal e.pending_id)) passed.moving) in
          inr (subst (λ t. IsNewMoving journal t) (chosen ∙ admitted.stored) (moving_new journal transfer.timestamp e passed))
    ]

-- the id of a stored transfer is new
pub transfer_is_new : (journal : List Entry) (transfer : Transfer) → IsAdmittedTransfer journal transfer → IsNewId journal transfer.id
transfer_is_new journal transfer admitted =
    elim (transfer_new journal transfer admitted) [ inl settling ↦ settling.new | inr moving ↦ moving.new ]
