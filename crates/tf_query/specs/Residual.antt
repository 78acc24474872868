-- What a filter leaves to be tested on the records that its scan leads to.
use Rattle.std.specs.Prelude.{◌≡◌, ℕ, ◌<◌, ◌≤◌, ◌&&◌, Bool, List, [], ◌++◌, length, take, Option, Some, None, if◌then◌else◌}
use Rattle.std.specs.List.{filter_map}
use Rattle.std.specs.Option.{option_and_then}
use Rattle.tf_records.specs.declared.account_filter.AccountFilter.{AccountFilter}
use Rattle.tf_records.specs.declared.query_filter.QueryFilter.{QueryFilter}
use Rattle.tf_records.specs.declared.transfer.Transfer.{Transfer}
use Rattle.tf_journal.specs.Filter.{meets}
use Rattle.tf_manifest.specs.View.{View}
use Rattle.tf_query.specs.declared.residual.Residual.{Residual}
use Rattle.tf_query.specs.declared.residual.Tested.{Tested}
use Rattle.tf_query.specs.declared.window.Window.{Window}
use Rattle.tf_query.specs.Reading.{AreFrom, all_within}
use Rattle.tf_look_ups.specs.Reads.{transfer_in}
use Rattle.tf_scan.specs.declared.direction.Direction.{Direction}
use Rattle.tf_scan.specs.Order.{IsInOrder}
use Rattle.tf_scan.specs.Sets.{is_among}

-- whether a transfer has what is left to be tested: 0 asks nothing
abbrev pub passes : Residual → Transfer → Bool
passes residual transfer = meets residual.ledger transfer.ledger && meets residual.code transfer.code

abbrev pub passed : Residual → Transfer → Option Transfer
passed residual transfer = if passes residual transfer then Some transfer else None

-- the transfer with this timestamp, if it passes
abbrev pub passing_in : View → Residual → ℕ → Option Transfer
passing_in view residual t = option_and_then (passed residual) (transfer_in view t)

-- what is left to be tested of a filter of all transfers
abbrev pub query_residual : Tested → QueryFilter → Residual
query_residual tested filter = record {
  ledger = if tested.ledger then filter.ledger else 0;
  code = if tested.code then filter.code else 0;
}

-- and what leads to them
abbrev pub query_lead : Tested → QueryFilter → QueryFilter
query_lead tested filter = record filter {
  ledger = if tested.ledger then 0 else filter.ledger;
  code = if tested.code then 0 else filter.code;
}

-- the same of a filter of an account's transfers, which asks for no ledger
abbrev pub account_residual : Tested → AccountFilter → Residual
account_residual tested filter = record { ledger = 0; code = if tested.code then filter.code else 0 }

abbrev pub account_lead : Tested → AccountFilter → AccountFilter
account_lead tested filter = record filter { code = if tested.code then 0 else filter.code }

-- the first in a window that pass, of the transfers with these timestamps
abbrev pub first_passing : View → Residual → Window → List ℕ → List Transfer
first_passing view residual window ts = take window.most (filter_map (passing_in view residual) (all_within window ts))

-- transfers are the first in a window that pass, of those that a test of timestamps accepts, which are left of a scan
pub record AreFirstPassing (view : View) (residual : Residual) (window : Window) (accepts : ℕ → Bool) (transfers : List Transfer) : Type 0 where
  pub left : List ℕ
  pub in_order : IsInOrder window.direction left
  pub members : (t : ℕ) → is_among t left ≡ accepts t
  pub first : transfers ≡ first_passing view residual window left

-- transfers were read of the timestamps of a whole, the latest of them in a part of so many that lie in the window: where that
-- is less than was asked for, they are the last
pub record AreTested (view : View) (residual : Residual) (d : Direction) (window : Window) (count asked : ℕ) (transfers : List Transfer) (left whole : List ℕ) : Type 0 where
  pub few : length transfers ≤ window.most
  pub inside : count ≤ asked
  pub left_from : AreFrom d window left
  pub joined : take window.most (transfers ++ filter_map (passing_in view residual) (all_within window left)) ≡ first_passing view residual window whole
  pub ends : count < asked → all_within window left ≡ []
