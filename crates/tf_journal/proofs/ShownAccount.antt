-- What the fields of an account say, as answers show it.
use Rattle.std.proofs.Common.{◌≡◌, ℕ, List, Option, Some, None, Bool, true, false, not, cond, ap, sym, refl, ◌∙◌, arith, subst}
use Rattle.std.proofs.lemmas.Grind.{common_steps}
use Rattle.std.proofs.lemmas.Bool.{eqb-true}
use Rattle.std.specs.Prelude.{◌==◌, bit_and, bit_or, if◌then◌else◌, is_none}
use Rattle.std.specs.Option.{option_map, option_map_or}
use Rattle.tf_records.specs.declared.account.Account.{Account}
use Rattle.tf_journal.specs.declared.entry.Entry.{Entry}
use Rattle.tf_journal.specs.declared.side.Side.TheVariants.{Debit, Credit}
use Rattle.tf_journal.specs.Balances.{pending_on, posted_on}
use Rattle.tf_journal.specs.Closed.{is_closed}
use Rattle.tf_journal.specs.Flags.{has_flag, is_marked_closed, limits_credits, limits_debits}
use Rattle.tf_journal.specs.Journal.{accounts_of}
use Rattle.tf_journal.specs.Lookup.{shown_with_id, is_closed_at, shown, account_with_id}
use Rattle.tf_journal.specs.Verdict.{has_limit, ledger_of}
use Rattle.tf_journal.proofs.Lists.{find_passes}
use Rattle.tf_journal.proofs.Shown.{shown_closed}

-- what is shown under an id is the stored account with that id
pub record IsShownAt (journal : List Entry) (id : ℕ) (account : Account) : Type 0 where
  pub stored : Account
  pub found : account_with_id journal id ≡ Some stored
  pub has_id : stored.id ≡ id
  pub as_shown : shown journal stored ≡ account

mapped : {X Y : Type 0} (f : X → Y) (o : Option X) (y : Y) → option_map f o ≡ Some y → (x : X) × (o ≡ Some x) × (f x ≡ y)
mapped f None y is = cc
mapped f (Some x) y is = (x, refl, cc)

pub shown_at : (journal : List Entry) (id : ℕ) (account : Account) → shown_with_id journal id ≡ Some account → IsShownAt journal id account
shown_at journal id account is =
    let found = mapped (shown journal) (account_with_id journal id) account is in
    record {
      stored = found.0;
      found = found.1;
      has_id = eqb-true found.0.id id (find_passes (λ a. a.id == id) (accounts_of journal) found.0 found.1);
      as_shown = found.2;
    }

-- an account that isn't shown isn't stored
pub not_shown : (journal : List Entry) (id : ℕ) → shown_with_id journal id ≡ None → account_with_id journal id ≡ None
not_shown journal id is = go (account_with_id journal id) is where
  go : (o : Option Account) → option_map (shown journal) o ≡ None → o ≡ None
  go None is = refl
  go (Some x) is = cc

-- the mark of a closed account hides no limit
pub shown_limits_debits : (journal : List Entry) (account : Account) → limits_debits (shown journal account) ≡ limits_debits account
shown_limits_debits journal account = grind (arith, common_steps)

pub shown_limits_credits : (journal : List Entry) (account : Account) → limits_credits (shown journal account) ≡ limits_credits account
shown_limits_credits journal account = grind (arith, common_steps)

-- what the tables ask of an account, read off the shown one
pub record IsReadOff (journal : List Entry) (id : ℕ) (account : Account) : Type 0 where
  pub is_stored : is_none (account_with_id journal id) ≡ false
  pub ledger : ledger_of journal id ≡ account.ledger
  pub closed : is_closed_at journal id ≡ is_marked_closed account
  pub debits_pending : pending_on journal Debit id ≡ account.debits_pending
  pub debits_posted : posted_on journal Debit id ≡ account.debits_posted
  pub credits_pending : pending_on journal Credit id ≡ account.credits_pending
  pub credits_posted : posted_on journal Credit id ≡ account.credits_posted
  pub debit_limit : has_limit limits_debits journal id ≡ limits_debits account
  pub credit_limit : has_limit limits_credits journal id ≡ limits_credits account

pub read_off : (journal : List Entry) (id : ℕ) (account : Account) → shown_with_id journal id ≡ Some account → IsReadOff journal id account
read_off journal id account is =
    let at = shown_at journal id account is in
    let stored = at.stored in
    let own = sym at.has_id in
    record {
      is_stored = ap (λ o. is_none o) at.found;
      ledger = ap (λ o. option_map_or (λ (a : Account). a.ledger) o 0) at.found ∙ ap (λ (a : Account). a.ledger) at.as_shown;
      closed = ap (λ o. option_map_or (is_closed journal) o false) at.found ∙ sym (shown_closed journal stored) ∙ ap is_marked_closed at.as_shown;
      debits_pending = ap (λ i. pending_on journal Debit i) own ∙ ap (λ (a : Account). a.debits_pending) at.as_shown;
      debits_posted = ap (λ i. posted_on journal Debit i) own ∙ ap (λ (a : Account). a.debits_posted) at.as_shown;
      credits_pending = ap (λ i. pending_on journal Credit i) own ∙ ap (λ (a : Account). a.credits_pending) at.as_shown;
      credits_posted = ap (λ i. posted_on journal Credit i) own ∙ ap (λ (a : Account). a.credits_posted) at.as_shown;
      debit_limit = ap (λ o. option_map_or limits_debits o false) at.found ∙ sym (shown_limits_debits journal stored) ∙ ap limits_debits at.as_shown;
      credit_limit = ap (λ o. option_map_or limits_credits o false) at.found ∙ sym (shown_limits_credits journal stored) ∙ ap limits_credits at.as_shown;
    }
