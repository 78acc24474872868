-- How one more entry changes what is pending.
use Rattle.std.specs.Prelude.{ℕ, ◌==◌, List, if◌then◌else◌}
use Rattle.std.specs.Option.{option_map_or}
use Rattle.tf_records.specs.declared.transfer.Transfer.{Transfer}
use Rattle.tf_journal.specs.declared.entry.Entry.{Entry}
use Rattle.tf_journal.specs.declared.entry.Entry.TheVariants as entry
use Rattle.tf_journal.specs.declared.side.Side.{Side}
use Rattle.tf_journal.specs.Balances.{account_on}
use Rattle.tf_journal.specs.Flags.{is_pending, is_settling}
use Rattle.tf_journal.specs.Lookup.{transfer_with_id}
use Rattle.tf_journal.specs.Status.{pending_at}

-- the amount of a transfer that has the account with this id on this side, else 0
abbrev pub amount_on : Side → ℕ → Transfer → ℕ
amount_on side id transfer = if account_on side transfer == id then transfer.amount else 0

-- the amount of an entry that is a pending transfer with this account on this side, else 0
abbrev pub set_aside : Side → ℕ → Entry → ℕ
set_aside side id (entry.Transfer transfer) = if is_pending transfer then amount_on side id transfer else 0
set_aside side id _ = 0

-- what an entry that posts, voids or expires a pending transfer takes off what is pending there: that transfer's amount
abbrev pub released : List Entry → Side → ℕ → Entry → ℕ
released journal side id (entry.Transfer transfer) =
    if is_settling transfer then option_map_or (amount_on side id) (transfer_with_id journal transfer.pending_id) 0 else 0
released journal side id (entry.Expiry timestamp pending) = option_map_or (amount_on side id) (pending_at journal pending) 0
released journal side id _ = 0
