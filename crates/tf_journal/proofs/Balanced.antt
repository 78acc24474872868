-- Debits add up to credits.
use Rattle.std.proofs.Common.{◌≡◌, ℕ, ◌+◌, Bool, List, [], ◌∷◌, get_or, refl, ap, sym, ◌∙◌, arith}
use Rattle.std.specs.Prelude.{◌==◌, if◌then◌else◌}
use Rattle.std.specs.List.{sum_by}
use Rattle.std.specs.Option.{option_map_or}
use Rattle.std.proofs.lemmas.Bool.{eqb-true, eqb-false, eq-eqb, ne_eqb}
use Rattle.std.proofs.lemmas.List.Sums.{sum_by-cons}
use Rattle.tf_records.specs.declared.account.Account.{Account}
use Rattle.tf_records.specs.declared.transfer.Transfer.{Transfer}
use Rattle.tf_journal.specs.declared.entry.Entry.{Entry}
use Rattle.tf_journal.specs.declared.side.Side.{Side}
use Rattle.tf_journal.specs.declared.side.Side.TheVariants.{Debit, Credit}
use Rattle.tf_journal.specs.Balances.{account_on, pending_amount, pending_on, posted_amount, posted_on}
use Rattle.tf_journal.specs.Journal.{accounts_of, transfers_of}
use Rattle.tf_journal.specs.Laws.{HasAccounts, IsBalanced, total_pending, total_posted}
use Rattle.tf_journal.specs.Lawful.{IsSound}
use Rattle.tf_journal.specs.Lookup.{account_with_id}
use Rattle.tf_journal.proofs.Accounts.{account_is_stored, sound_has_accounts}
use Rattle.tf_journal.proofs.Lists.{IsRare, find_passes, sum_by_nothing, sum_by_same, sum_by_step}
use Rattle.tf_journal.proofs.Steps.{pending_of, pending_sum, posted_of, posted_sum}
use Rattle.tf_journal.proofs.Unique.{sound_unique}

sum_by_both : {X : Type 0} (f g : X → ℕ) (xs : List X) → sum_by (λ x. f x + g x) xs ≡ sum_by f xs + sum_by g xs
sum_by_both f g [] = refl
sum_by_both f g (x ∷ xs) =
    omega (arith, sum_by-cons (λ y. f y + g y) x xs, sum_by-cons f x xs, sum_by-cons g x xs, sum_by_both f g xs)

-- a sum of sums may be taken in either order
sums_exchanged : {X Y : Type 0} (f : X → Y → ℕ) (xs : List X) (ys : List Y) → sum_by (λ x. sum_by (f x) ys) xs ≡ sum_by (λ y. sum_by (λ x. f x y) xs) ys
sums_exchanged f [] ys = sym (sum_by_nothing (λ y. sum_by (λ x. f x y) []) ys (λ k d within. refl))
sums_exchanged f (x ∷ xs) ys =
    sum_by-cons (λ z. sum_by (f z) ys) x xs
    ∙ ap (λ n. sum_by (f x) ys + n) (sums_exchanged f xs ys)
    ∙ sym (sum_by_both (f x) (λ y. sum_by (λ z. f z y) xs) ys)
    ∙ sum_by_same (λ y. f x y + sum_by (λ z. f z y) xs) (λ y. sum_by (λ z. f z y) (x ∷ xs)) ys
    (λ k d within. sym (sum_by-cons (λ z. f z (get_or ys k d)) x xs))

-- whether an account has this id
abbrev is_account : ℕ → Account → Bool
is_account id account = account.id == id

is_account_is_rare : (journal : List Entry) (id : ℕ) → IsSound journal → IsRare (is_account id) (accounts_of journal)
is_account_is_rare journal id sound i j d before within passed =
    let first = get_or (accounts_of journal) i d in
    let second = get_or (accounts_of journal) j d in
    let same = eqb-true first.id id passed in
    ne_eqb second.id id (λ is. (sound_unique journal sound).accounts i j d before within (same ∙ sym is))

-- of all accounts, one is on a side of a transfer
on_one_account : (journal : List Entry) (side : Side) (transfer : Transfer) (amount : ℕ) → IsSound journal → HasAccounts journal transfer
    → sum_by (λ account. if account_on side transfer == account.id then amount else 0) (accounts_of journal) ≡ amount
on_one_account journal side transfer amount sound has =
    let id = account_on side transfer in
    let share = λ (account : Account). if id == account.id then amount else 0 in
    let nothing : Account → ℕ = λ account. 0 in
    let stored = account_is_stored journal side transfer has in
    let step = sum_by_step share nothing (λ account. amount) (is_account id) (accounts_of journal) (is_account_is_rare journal id sound)
    (λ k d within other. let account = get_or (accounts_of journal) k d in
    ap (λ b. if b then amount else 0) (ne_eqb id account.id (λ same. eqb-false account.id id other (sym same))))
    (λ account found.
    let own = eqb-true account.id id (find_passes (is_account id) (accounts_of journal) account found) in
    let whole : share account ≡ amount = ap (λ b. if b then amount else 0) (eq-eqb id account.id (sym own)) in
    omega (arith, whole)) in
    let one : option_map_or (λ (account : Account). amount) (account_with_id journal id) 0 ≡ amount
    = ap (λ o. option_map_or (λ (account : Account). amount) o 0) stored.1 in
    omega (arith, step, one, sum_by_nothing nothing (accounts_of journal) (λ k d within. refl))

-- the sum over all accounts of what transfers have on a side is the sum over the transfers
total_is : (journal : List Entry) (side : Side) (amount : Transfer → ℕ) → IsSound journal
    → sum_by (λ account. sum_by (λ transfer. if account_on side transfer == account.id then amount transfer else 0) (transfers_of journal)) (accounts_of journal)
    ≡ sum_by amount (transfers_of journal)
total_is journal side amount sound =
    sums_exchanged (λ account transfer. if account_on side transfer == account.id then amount transfer else 0) (accounts_of journal) (transfers_of journal)
    ∙ sum_by_same _ amount (transfers_of journal)
    (λ k d within. let transfer = get_or (transfers_of journal) k d in
    on_one_account journal side transfer (amount transfer) sound (sound_has_accounts journal sound k d within))

posted_total : (journal : List Entry) (side : Side) → IsSound journal → total_posted journal side ≡ sum_by posted_amount (transfers_of journal)
posted_total journal side sound =
    sum_by_same (λ account. posted_on journal side account.id) (λ account. sum_by (posted_of side account.id) (transfers_of journal)) (accounts_of journal)
    (λ k d within. posted_sum journal side (get_or (accounts_of journal) k d).id)
    ∙ total_is journal side posted_amount sound

pending_total : (journal : List Entry) (side : Side) → IsSound journal → total_pending journal side ≡ sum_by (pending_amount journal) (transfers_of journal)
pending_total journal side sound =
    sum_by_same (λ account. pending_on journal side account.id) (λ account. sum_by (pending_of journal side account.id) (transfers_of journal)) (accounts_of journal)
    (λ k d within. pending_sum journal journal side (get_or (accounts_of journal) k d).id)
    ∙ total_is journal side (pending_amount journal) sound

-- in a sound journal debits add up to credits
pub sound_balanced : (journal : List Entry) → IsSound journal → IsBalanced journal
sound_balanced journal sound = record {
  posted = posted_total journal Debit sound ∙ sym (posted_total journal Credit sound);
  pending = pending_total journal Debit sound ∙ sym (pending_total journal Credit sound);
}
