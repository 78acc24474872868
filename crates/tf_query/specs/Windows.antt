-- How many timestamps a filter asks for, from when to when, and in which direction.
use Rattle.std.specs.Prelude.{◌≡◌, ℕ, min, Bool, List, Option, take}
use Rattle.std.specs.List.{filter as keep, filter_map}
use Rattle.tf_journal.specs.Answer.{answer_max}
use Rattle.tf_journal.specs.Filter.{is_within}
use Rattle.tf_journal.specs.Flags.{has_flag}
use Rattle.tf_records.specs.declared.account_filter.AccountFilter.{AccountFilter}
use Rattle.tf_records.specs.declared.query_filter.QueryFilter.{QueryFilter}
use Rattle.tf_scan.specs.Order.{IsInOrder}
use Rattle.tf_scan.specs.Sets.{is_among}
use Rattle.tf_query.specs.declared.window.Window.{Window}
use Rattle.tf_query.specs.Matches.{direction_of}

-- the window of a filter of an account's transfers
abbrev pub account_window : AccountFilter → Window
account_window filter = record {
  direction = direction_of (has_flag filter.flags 4);
  low = filter.timestamp_min;
  high = filter.timestamp_max;
  most = min filter.limit answer_max;
}

-- of a filter of all records
abbrev pub query_window : QueryFilter → Window
query_window filter = record {
  direction = direction_of (has_flag filter.flags 1);
  low = filter.timestamp_min;
  high = filter.timestamp_max;
  most = min filter.limit answer_max;
}

-- the first of these that lie in a window
abbrev pub first_within : Window → List ℕ → List ℕ
first_within window ts = take window.most (keep (is_within window.low window.high) ts)

-- timestamps are the first in a window of those that a test accepts, which are left of a scan
pub record AreFirst (window : Window) (accepts : ℕ → Bool) (timestamps : List ℕ) : Type 0 where
  pub left : List ℕ
  pub in_order : IsInOrder window.direction left
  pub members : (t : ℕ) → is_among t left ≡ accepts t
  pub first : timestamps ≡ first_within window left

-- rows are what is read at timestamps that are the first in a window of those that a test accepts
pub record AreOfFirst {T : Type 0} (read : ℕ → Option T) (window : Window) (accepts : ℕ → Bool) (rows : List T) : Type 0 where
  pub timestamps : List ℕ
  pub first : AreFirst window accepts timestamps
  pub rows_are : rows ≡ filter_map read timestamps
