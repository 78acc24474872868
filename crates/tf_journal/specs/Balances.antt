-- The balances of an account: sums over the whole journal.
use Rattle.std.specs.Prelude.{ℕ, ◌-◌, ◌^◌, ◌==◌, List, ◌&&◌, if◌then◌else◌}
use Rattle.std.specs.List.{sum_by}
use Rattle.tf_records.specs.declared.sums.Sums.{Sums}
use Rattle.tf_records.specs.declared.transfer.Transfer.{Transfer}
use Rattle.tf_journal.specs.declared.entry.Entry.{Entry}
use Rattle.tf_journal.specs.declared.entry.Entry.TheVariants as entry
use Rattle.tf_journal.specs.declared.side.Side.{Side}
use Rattle.tf_journal.specs.declared.side.Side.TheVariants.{Debit, Credit}
use Rattle.tf_journal.specs.Flags.{is_pending, is_void}
use Rattle.tf_journal.specs.Status.{is_open}

-- the greatest amount, and the greatest sum of amounts
abbrev pub greatest_amount : ℕ
greatest_amount = 2 ^ 128 - 1

-- the account that a transfer has on a side
abbrev pub account_on : Side → Transfer → ℕ
account_on Debit transfer = transfer.debit_account_id
account_on Credit transfer = transfer.credit_account_id

-- what a transfer posts: its amount, unless it is pending or a void
abbrev pub posted_amount : Transfer → ℕ
posted_amount transfer = if is_pending transfer then 0 else if is_void transfer then 0 else transfer.amount

-- what a transfer sets aside after a journal: its amount, while it is pending and open
abbrev pub pending_amount : List Entry → Transfer → ℕ
pending_amount journal transfer =
    if is_pending transfer && is_open journal transfer then transfer.amount else 0

-- what an entry posts to a side of the account with this id
abbrev pub posted_by : Side → ℕ → Entry → ℕ
posted_by side id (entry.Transfer transfer) =
    if account_on side transfer == id then posted_amount transfer else 0
posted_by side id _ = 0

-- what an entry sets aside, after a journal, on a side of the account with this id
abbrev pub pending_by : List Entry → Side → ℕ → Entry → ℕ
pending_by journal side id (entry.Transfer transfer) =
    if account_on side transfer == id then pending_amount journal transfer else 0
pending_by journal side id _ = 0

-- what is posted to a side of an account
abbrev pub posted_on : List Entry → Side → ℕ → ℕ
posted_on journal side id = sum_by (posted_by side id) journal

-- what is pending on a side of an account
abbrev pub pending_on : List Entry → Side → ℕ → ℕ
pending_on journal side id = sum_by (pending_by journal side id) journal

-- the four balances of an account after a journal
abbrev pub balances_of : List Entry → ℕ → Sums
balances_of journal id = record {
  debits_pending = pending_on journal Debit id;
  debits_posted = posted_on journal Debit id;
  credits_pending = pending_on journal Credit id;
  credits_posted = posted_on journal Credit id;
}
