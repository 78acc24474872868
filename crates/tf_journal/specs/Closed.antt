-- Closed accounts.
use Rattle.std.specs.Prelude.{ℕ, ◌==◌, List, Bool, false, ◌&&◌, ◌||◌}
use Rattle.std.specs.List.{list_any}
use Rattle.tf_records.specs.declared.account.Account.{Account}
use Rattle.tf_journal.specs.declared.entry.Entry.{Entry}
use Rattle.tf_journal.specs.declared.entry.Entry.TheVariants as entry
use Rattle.tf_journal.specs.Flags.{is_pending, is_marked_closed, closes_debit, closes_credit}
use Rattle.tf_journal.specs.Status.{is_open}

-- whether an entry is a pending transfer, open after the journal, that closes the account with this id on its side
abbrev pub closes : List Entry → ℕ → Entry → Bool
closes journal id (entry.Transfer transfer) =
    is_pending transfer
    && ((closes_debit transfer && transfer.debit_account_id == id)
    || (closes_credit transfer && transfer.credit_account_id == id))
    && is_open journal transfer
closes journal id _ = false

-- whether a stored account is closed: by its own record, or by an open pending transfer
abbrev pub is_closed : List Entry → Account → Bool
is_closed journal account = is_marked_closed account || list_any (closes journal account.id) journal
