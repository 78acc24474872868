-- The two halves of a manifest's rows.
use Rattle.std.specs.Prelude.{◌≡◌, ℕ, List}
use Rattle.tf_journal.specs.declared.status.Status.{Status}
use Rattle.tf_records.specs.declared.account.Account.{Account}
use Rattle.tf_records.specs.declared.sums.Sums.{Sums}
use Rattle.tf_records.specs.declared.transfer.Transfer.{Transfer}
use Rattle.tf_manifest.specs.declared.kinds.Stored.{Stored}
use Rattle.tf_manifest.specs.declared.value.IdStamp.{IdStamp}
use Rattle.tf_manifest.specs.declared.value.State.{State}
use Rattle.tf_manifest.specs.View.{View}
use Rattle.tf_registry.specs.Table.{Shown}

-- the tables of each of the rows that store one kind of value
abbrev pub Rows : Type 0 → Type 0
Rows V = List (List (Shown V))

-- the tables of the rows of stamps, accounts, transfers and ids
pub record AreRecords (view : View) (half : (Rows ℕ × Rows (Stored Account)) × (Rows (Stored Transfer) × Rows IdStamp)) : Type 0 where
  pub stamps : half.0.0 ≡ view.stamps
  pub accounts : half.0.1 ≡ view.accounts
  pub transfers : half.1.0 ≡ view.transfers
  pub ids : half.1.1 ≡ view.ids

-- the tables of the rows of units, states, sums and statuses
pub record AreStates (view : View) (half : (Rows (Unit {0}) × Rows State) × (Rows (Stored Sums) × Rows (Stored Status))) : Type 0 where
  pub units : half.0.0 ≡ view.units
  pub states : half.0.1 ≡ view.states
  pub sums : half.1.0 ≡ view.sums
  pub statuses : half.1.1 ≡ view.statuses
