-- The first of the due transfers, and their number, found along a journal.
use Rattle.std.proofs.Common.{◌≡◌, ℕ, ◌+◌, suc, true, false, cond, List, [], ◌∷◌, length, Some, None, refl, sym, ap, ◌∙◌, arith}
use Rattle.std.specs.Prelude.{if◌then◌else◌}
use Rattle.std.specs.List.{filter as keep, fold, count_by}
use Rattle.std.proofs.lemmas.List.Sums.{sum_by-cons}
use Rattle.tf_records.specs.declared.transfer.Transfer.{Transfer}
use Rattle.tf_journal.specs.declared.entry.Entry.{Entry}
use Rattle.tf_journal.specs.declared.entry.Entry.TheVariants as entry
use Rattle.tf_journal.specs.Due.{is_due, expires_before, with_expiring, due, first_of, next_due_of}
use Rattle.tf_journal.specs.Expired.{sooner, first_due, holds_due}
use Rattle.tf_journal.specs.Journal.{transfers_of}

-- the first after one more, of transfers in the order of their expiry
first_with : (transfers : List Transfer) (t : Transfer) → first_of (with_expiring transfers t) ≡ sooner (first_of transfers) t
first_with [] t = refl
first_with (x ∷ transfers) t =
    elim (expires_before t x) as (λ b. first_of (if b then t ∷ x ∷ transfers else x ∷ with_expiring transfers t) ≡ (if b then Some t else Some x))
    [ true ↦ refl | false ↦ refl ]

found_first : (journal : List Entry) (moment : ℕ) (order : List Transfer) (entries : List Entry)
    → fold (first_due journal moment) (first_of order) entries ≡ first_of (fold with_expiring order (keep (is_due journal moment) (transfers_of entries)))
found_first journal moment order [] = refl
found_first journal moment order (entry.Account a ∷ entries) = found_first journal moment order entries
found_first journal moment order (entry.Expiry timestamp pending ∷ entries) = found_first journal moment order entries
found_first journal moment order (entry.Failed timestamp id ∷ entries) = found_first journal moment order entries
found_first journal moment order (entry.Transfer t ∷ entries) =
    elim (is_due journal moment t) as (λ b. fold (first_due journal moment) (if b then sooner (first_of order) t else first_of order) entries
    ≡ first_of (fold with_expiring order (cond b (t ∷ keep (is_due journal moment) (transfers_of entries)) (keep (is_due journal moment) (transfers_of entries))))) [
      | true ↦ ap (λ first. fold (first_due journal moment) first entries) (sym (first_with order t)) ∙ found_first journal moment (with_expiring order t) entries
      | false ↦ found_first journal moment order entries
    ]

-- the first of the due transfers is found along the journal
pub next_found : (journal : List Entry) (moment : ℕ) → fold (first_due journal moment) None journal ≡ next_due_of journal moment
next_found journal moment = found_first journal moment [] journal

length_with : (transfers : List Transfer) (t : Transfer) → length (with_expiring transfers t) ≡ suc (length transfers)
length_with [] t = refl
length_with (x ∷ transfers) t =
    elim (expires_before t x) as (λ b. length (if b then t ∷ x ∷ transfers else x ∷ with_expiring transfers t) ≡ suc (suc (length transfers)))
    [ true ↦ refl | false ↦ ap suc (length_with transfers t) ]

length_ordered : (order transfers : List Transfer) → length (fold with_expiring order transfers) ≡ length order + length transfers
length_ordered order [] = omega arith
length_ordered order (t ∷ transfers) = omega (arith, length_ordered (with_expiring order t) transfers, length_with order t)

count_kept : (journal : List Entry) (moment : ℕ) (entries : List Entry)
    → length (keep (is_due journal moment) (transfers_of entries)) ≡ count_by (holds_due journal moment) entries
count_kept journal moment [] = refl
count_kept journal moment (entry.Account a ∷ entries) = count_kept journal moment entries
count_kept journal moment (entry.Expiry timestamp pending ∷ entries) = count_kept journal moment entries
count_kept journal moment (entry.Failed timestamp id ∷ entries) = count_kept journal moment entries
count_kept journal moment (entry.Transfer t ∷ entries) =
    let is = sum_by-cons (λ e. cond (holds_due journal moment e) 1 0) (entry.Transfer t) entries in
    (elim (is_due journal moment t) as (λ b. length (cond b (t ∷ keep (is_due journal moment) (transfers_of entries)) (keep (is_due journal moment) (transfers_of entries)))
    ≡ cond b 1 0 + count_by (holds_due journal moment) entries)
    [ true ↦ omega (arith, count_kept journal moment entries) | false ↦ omega (arith, count_kept journal moment entries) ]) ∙ sym is

-- as many transfers are due as entries of the journal hold one
pub count_found : (journal : List Entry) (moment : ℕ) → count_by (holds_due journal moment) journal ≡ length (due journal moment)
count_found journal moment =
    let due_ones = keep (is_due journal moment) (transfers_of journal) in
    omega (arith, length_ordered [] due_ones, count_kept journal moment journal)
