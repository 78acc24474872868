-- In a journal a timestamp is that of one entry.
use Rattle.std.proofs.Common.{◌≡◌, ◌≢◌, ℕ, ◌<◌, List, [], ◌∷◌, Bool, true, false, Some, refl, ap, sym, ◌∙◌, subst, arith, cond}
use Rattle.std.proofs.lemmas.Bool.{and_from, and_right, cond-false, cond-true, ne_eqb, eq-eqb}
use Rattle.std.proofs.lemmas.Option.{same_Some}
use Rattle.std.specs.Prelude.{◌==◌}
use Rattle.std.specs.Option.{option_map}
use Rattle.std.specs.List.{find}
use Rattle.tf_records.specs.declared.transfer.Transfer.{Transfer}
use Rattle.tf_journal.specs.declared.entry.Entry.{Entry}
use Rattle.tf_journal.specs.declared.entry.Entry.TheVariants as entry
use Rattle.tf_journal.specs.Flags.{is_pending}
use Rattle.tf_journal.specs.Journal.{IsJournal, IsRisingFrom, transfers_of}
use Rattle.tf_journal.specs.Status.{pending_at, status_at, status_of}

-- a transfer that is found is later than what its journal rises from
found_later : (low : ℕ) (journal : List Entry) (test : Transfer → Bool) (p : Transfer) → IsRisingFrom low journal
    → find test (transfers_of journal) ≡ Some p → low < p.timestamp
found_later low [] test p rising is = cc
found_later low (entry.Transfer t ∷ journal) test p rising is =
    let shape : Bool → Type 0 = λ b. cond b (Some t) (find test (transfers_of journal)) ≡ Some p → low < p.timestamp in
    let cases : (b : Bool) → shape b
    = elim [
      | true ↦ λ same. let at : t.timestamp ≡ p.timestamp = ap (λ x. x.timestamp) (same_Some t p same) in omega (arith, rising.0)
      | false ↦ λ later. omega (arith, rising.0, found_later t.timestamp journal test p rising.1 later)
    ] in
    cases (test t) is
found_later low (entry.Account a ∷ journal) test p rising is = omega (arith, rising.0, found_later a.timestamp journal test p rising.1 is)
found_later low (entry.Expiry timestamp pending ∷ journal) test p rising is = omega (arith, rising.0, found_later timestamp journal test p rising.1 is)
found_later low (entry.Failed timestamp id ∷ journal) test p rising is = omega (arith, rising.0, found_later timestamp journal test p rising.1 is)

-- a pending transfer that is found is the one at its timestamp
found_at : (low : ℕ) (journal : List Entry) (test : Transfer → Bool) (p : Transfer) → IsRisingFrom low journal
    → find test (transfers_of journal) ≡ Some p → is_pending p ≡ true → pending_at journal p.timestamp ≡ Some p
found_at low [] test p rising is pending = cc
found_at low (entry.Transfer t ∷ journal) test p rising is pending =
    let here : Bool → Type 0 = λ b. cond b (Some t) (find test (transfers_of journal)) ≡ Some p → pending_at (entry.Transfer t ∷ journal) p.timestamp ≡ Some p in
    let cases : (b : Bool) → here b
    = elim [
      | true ↦ λ same. subst (λ x. pending_at (entry.Transfer t ∷ journal) x.timestamp ≡ Some x) (same_Some t p same)
          (cond-true _ _ _ (and_from (is_pending t) (t.timestamp == t.timestamp) (subst (λ x. is_pending x ≡ true) (sym (same_Some t p same)) pending) (eq-eqb t.timestamp t.timestamp refl)))
      | false ↦ λ later.
          let past : t.timestamp ≢ p.timestamp = let low = found_later t.timestamp journal test p rising.1 later in omega arith in
          cond-false _ _ _ (and_right (is_pending t) (t.timestamp == p.timestamp) (ne_eqb t.timestamp p.timestamp past)) ∙ found_at t.timestamp journal test p rising.1 later pending
    ] in
    cases (test t) is
found_at low (entry.Account a ∷ journal) test p rising is pending = found_at a.timestamp journal test p rising.1 is pending
found_at low (entry.Expiry timestamp at ∷ journal) test p rising is pending = found_at timestamp journal test p rising.1 is pending
found_at low (entry.Failed timestamp id ∷ journal) test p rising is pending = found_at timestamp journal test p rising.1 is pending

-- the status of a pending transfer that is found
pub found_status : (journal : List Entry) (test : Transfer → Bool) (p : Transfer) → IsJournal journal
    → find test (transfers_of journal) ≡ Some p → is_pending p ≡ true → status_at journal p.timestamp ≡ Some (status_of journal p)
found_status journal test p is found pending = ap (λ t. option_map (status_of journal) t) (found_at 0 journal test p is.rising found pending)
