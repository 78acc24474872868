-- The verdict on a post or void, by what each step of judging it found.
use Rattle.std.proofs.Common.{◌≡◌, ℕ, Bool, List, [], ◌∷◌, true, false, Option, Some, None, Err, Ok, refl, ap, sym, ◌∙◌, if◌then◌else◌}
use Rattle.std.proofs.lemmas.Bool.{false_from_ne_true}
use Rattle.std.specs.Option.{option_map_or, unwrap_or}
use Rattle.tf_records.specs.declared.outcome.Outcome.{Outcome}
use Rattle.tf_records.specs.declared.outcome.Outcome.TheVariants as outcome
use Rattle.tf_records.specs.declared.transfer.Transfer.{Transfer}
use Rattle.tf_journal.specs.declared.entry.Entry.{Entry}
use Rattle.tf_journal.specs.declared.id_use.IdUse.TheVariants as id_use
use Rattle.tf_journal.specs.Flags.{is_settling}
use Rattle.tf_journal.specs.Journal.{is_failed}
use Rattle.tf_journal.specs.Lookup.{id_use_of, transfer_with_id, unstored_use}
use Rattle.tf_journal.specs.Stored.{filled_in, stamped, settled}
use Rattle.tf_journal.specs.Verdict.{compared, first_fault, is_accepted, moving_verdict, named_fault, pending_faults, repeated, settling_faults, settling_verdict, transfer_differences, transfer_faults, transfer_verdict, used_id_fault, verdict_of}
use Rattle.tf_journal.proofs.Accepted.{first_fault-refuses, used_id_refuses}
use Rattle.tf_pending.specs.Judgement.{IsJudgement}
use Rattle.tf_pending.specs.Parts.{fault_of_id}

-- a post or void that isn't wrong by itself
pub record IsFaultless (e : Transfer) : Type 0 where
  pub settling : is_settling e ≡ true
  pub faults : first_fault (transfer_faults e) ≡ None
  pub own_faults : first_fault (settling_faults e) ≡ None

-- the fault of an id that a stored transfer has
stored_fault : (e stored : Transfer) (found : Option Transfer) (failed : Bool) → option_map_or id_use.Stored found (unstored_use failed) ≡ id_use.Stored stored
    → option_map_or (λ t. Some (repeated (transfer_differences e t))) found (if failed then Some outcome.IdAlreadyFailed else None) ≡ Some (repeated (transfer_differences e stored))
stored_fault e stored (Some t) failed is = let same : t ≡ stored = cc in ap (λ x. Some (repeated (transfer_differences e x))) same
stored_fault e stored None true is = absurd (cc)
stored_fault e stored None false is = absurd (cc)

pub fault_of_stored : (journal : List Entry) (e stored : Transfer) → id_use_of journal e.id ≡ id_use.Stored stored
    → fault_of_id journal e ≡ Some (repeated (transfer_differences e stored))
fault_of_stored journal e stored is = stored_fault e stored (transfer_with_id journal e.id) (is_failed journal e.id) is

-- and that of a free one
free_fault : (e : Transfer) (found : Option Transfer) (failed : Bool) → option_map_or id_use.Stored found (unstored_use failed) ≡ id_use.Free
    → option_map_or (λ t. Some (repeated (transfer_differences e t))) found (if failed then Some outcome.IdAlreadyFailed else None) ≡ None
free_fault e (Some t) failed is = absurd (cc)
free_fault e None true is = absurd (cc)
free_fault e None false is = refl

pub fault_of_free : (journal : List Entry) (e : Transfer) → id_use_of journal e.id ≡ id_use.Free → fault_of_id journal e ≡ None
fault_of_free journal e is = free_fault e (transfer_with_id journal e.id) (is_failed journal e.id) is

-- the id of an event that is compared as another one with its id
used_as : (journal : List Entry) (e other : Transfer) → compared journal e ≡ other → other.id ≡ e.id → used_id_fault journal e ≡ fault_of_id journal other
used_as journal e other is same =
    ap (λ x. option_map_or (λ stored. Some (repeated (transfer_differences x stored))) (transfer_with_id journal e.id) (if is_failed journal e.id then Some outcome.IdAlreadyFailed else None)) is
    ∙ ap (λ n. option_map_or (λ stored. Some (repeated (transfer_differences other stored))) (transfer_with_id journal n) (if is_failed journal n then Some outcome.IdAlreadyFailed else None)) (sym same)

-- any other event than a post or void is compared as it is
pub used_plain : (journal : List Entry) (e : Transfer) → is_settling e ≡ false → used_id_fault journal e ≡ fault_of_id journal e
used_plain journal e moving =
    used_as journal e e (ap (λ b. if b then option_map_or (λ pending. filled_in pending e) (transfer_with_id journal e.pending_id) e else e) moving) refl

-- where the pending transfer isn't stored, an event is compared as it is
pub used_missing : (journal : List Entry) (e : Transfer) → is_settling e ≡ true → transfer_with_id journal e.pending_id ≡ None → used_id_fault journal e ≡ fault_of_id journal e
used_missing journal e settling missing =
    used_as journal e e (ap (λ b. if b then option_map_or (λ pending. filled_in pending e) (transfer_with_id journal e.pending_id) e else e) settling
    ∙ ap (λ found. option_map_or (λ pending. filled_in pending e) found e) missing) refl

-- and where it is, as it is filled in
pub used_filled : (journal : List Entry) (e pending : Transfer) → is_settling e ≡ true → transfer_with_id journal e.pending_id ≡ Some pending
    → used_id_fault journal e ≡ fault_of_id journal (filled_in pending e)
used_filled journal e pending settling found =
    used_as journal e (filled_in pending e) (ap (λ b. if b then option_map_or (λ p. filled_in p e) (transfer_with_id journal e.pending_id) e else e) settling
    ∙ ap (λ p. option_map_or (λ x. filled_in x e) p e) found) refl

-- a post or void that isn't wrong by itself is judged by its id and by its pending transfer
judged_by : (journal : List Entry) (timestamp : ℕ) (e : Transfer) (used : Option Outcome) (pending : Option Transfer) → IsFaultless e
    → used_id_fault journal e ≡ used → transfer_with_id journal e.pending_id ≡ pending
    → transfer_verdict journal timestamp e ≡ verdict_of (used ∷ named_fault journal timestamp e pending ∷ [])
judged_by journal timestamp e used pending is uses names =
    ap (λ b. if b then settling_verdict journal timestamp e else moving_verdict journal timestamp e) is.settling
    ∙ ap (λ s. verdict_of (s ∷ first_fault (settling_faults e) ∷ used_id_fault journal e ∷ named_fault journal timestamp e (transfer_with_id journal e.pending_id) ∷ [])) is.faults
    ∙ ap (λ s. verdict_of (s ∷ used_id_fault journal e ∷ named_fault journal timestamp e (transfer_with_id journal e.pending_id) ∷ [])) is.own_faults
    ∙ ap (λ s. verdict_of (s ∷ named_fault journal timestamp e (transfer_with_id journal e.pending_id) ∷ [])) uses
    ∙ ap (λ p. verdict_of (used ∷ named_fault journal timestamp e p ∷ [])) names

-- a refusal is a judgement
refused : (journal : List Entry) (timestamp : ℕ) (e : Transfer) (o : Outcome) → transfer_verdict journal timestamp e ≡ o → is_accepted o ≡ false
    → IsJudgement journal timestamp e (Err o)
refused journal timestamp e o is refuses = record { accepted = tt; stored = tt; refused = sym is; fault = refuses }

-- the pending transfer isn't stored
pub judged_missing : (journal : List Entry) (timestamp : ℕ) (e : Transfer) → IsFaultless e → transfer_with_id journal e.pending_id ≡ None
    → IsJudgement journal timestamp e (Err (unwrap_or (fault_of_id journal e) outcome.PendingTransferNotFound))
judged_missing journal timestamp e is missing =
    let uses = used_missing journal e is.settling missing in
    let cases : (used : Option Outcome) → used_id_fault journal e ≡ used → IsJudgement journal timestamp e (Err (unwrap_or used outcome.PendingTransferNotFound))
    = elim [
      | None ↦ λ same. refused journal timestamp e outcome.PendingTransferNotFound (judged_by journal timestamp e None None is same missing) refl
      | Some o ↦ λ same. refused journal timestamp e o (judged_by journal timestamp e (Some o) None is same missing) (false_from_ne_true (is_accepted o) (used_id_refuses journal e o same))
    ] in
    cases (fault_of_id journal e) uses

-- the id is in use
pub judged_used : (journal : List Entry) (timestamp : ℕ) (e pending : Transfer) (o : Outcome) → IsFaultless e → transfer_with_id journal e.pending_id ≡ Some pending
    → fault_of_id journal (filled_in pending e) ≡ Some o → IsJudgement journal timestamp e (Err o)
judged_used journal timestamp e pending o is found used =
    let uses = used_filled journal e pending is.settling found ∙ used in
    refused journal timestamp e o (judged_by journal timestamp e (Some o) (Some pending) is uses found) (false_from_ne_true (is_accepted o) (used_id_refuses journal e o uses))

-- the pending transfer can't be posted or voided
pub judged_pending : (journal : List Entry) (timestamp : ℕ) (e pending : Transfer) (o : Outcome) → IsFaultless e → transfer_with_id journal e.pending_id ≡ Some pending
    → fault_of_id journal (filled_in pending e) ≡ None → first_fault (pending_faults journal timestamp e pending) ≡ Some o → IsJudgement journal timestamp e (Err o)
judged_pending journal timestamp e pending o is found unused fault =
    refused journal timestamp e o
    (judged_by journal timestamp e None (Some pending) is (used_filled journal e pending is.settling found ∙ unused) found ∙ ap (λ f. verdict_of (None ∷ f ∷ [])) fault)
    (false_from_ne_true (is_accepted o) (first_fault-refuses (pending_faults journal timestamp e pending) refl o fault))

-- nothing is wrong
pub judged_ok : (journal : List Entry) (timestamp : ℕ) (e pending : Transfer) → IsFaultless e → transfer_with_id journal e.pending_id ≡ Some pending
    → fault_of_id journal (filled_in pending e) ≡ None → first_fault (pending_faults journal timestamp e pending) ≡ None
    → IsJudgement journal timestamp e (Ok (settled pending timestamp e))
judged_ok journal timestamp e pending is found unused passed = record {
  accepted = judged_by journal timestamp e None (Some pending) is (used_filled journal e pending is.settling found ∙ unused) found ∙ ap (λ f. verdict_of (None ∷ f ∷ [])) passed;
  stored = sym (ap (λ b. if b then option_map_or (λ p. settled p timestamp e) (transfer_with_id journal e.pending_id) (stamped timestamp e) else stamped timestamp e) is.settling
      ∙ ap (λ found. option_map_or (λ p. settled p timestamp e) found (stamped timestamp e)) found);
  refused = tt;
  fault = tt;
}
