-- Timestamps that are read off a scan within bounds.
use Rattle.std.specs.Prelude.{◌≡◌, ℕ, ◌-◌, ◌<◌, ◌≤◌, ◌==◌, ◌&&◌, not, nat_lt, Bool, false, List, [], ◌++◌, length, take}
use Rattle.std.specs.List.{filter as keep, AllByRecursion}
use Rattle.tf_journal.specs.Filter.{is_within}
use Rattle.tf_scan.specs.declared.direction.Direction.{Direction}
use Rattle.tf_scan.specs.declared.direction.Direction.TheVariants.{Rising, Falling}
use Rattle.tf_scan.specs.Order.{IsInOrder}
use Rattle.tf_query.specs.declared.window.Window.{Window}
use Rattle.tf_query.specs.Windows.{first_within}

-- whether a timestamp comes before a window's first bound
abbrev pub is_early : Direction → Window → ℕ → Bool
is_early Rising window t = nat_lt t window.low
is_early Falling window t = not (window.high == 0) && nat_lt window.high t

-- those that lie in a window
abbrev pub all_within : Window → List ℕ → List ℕ
all_within window ts = keep (is_within window.low window.high) ts

-- these are in order, and none comes before a window's first bound
pub record AreFrom (d : Direction) (window : Window) (ts : List ℕ) : Type 0 where
  pub in_order : IsInOrder d ts
  pub from : AllByRecursion (λ (t : ℕ). is_early d window t ≡ false) ts

-- a part was read, at most so many: its first ones, so many, are the next that lie in a window, and where they don't fill it,
-- they are the last that are asked for
pub record IsPart (d : Direction) (window : Window) (most count : ℕ) (part left_old left : List ℕ) : Type 0 where
  pub few : count ≤ most
  pub inside : count ≤ length part
  pub left_from : AreFrom d window left
  pub whole : take count part ++ all_within window left ≡ all_within window left_old
  pub joined : take count part ++ take (most - count) (all_within window left) ≡ take most (all_within window left_old)
  pub ends : count < length part → take (most - count) (all_within window left) ≡ []

-- these were read of a whole, the latest of them as the beginning of a part, which they don't fill where they are the last
pub record AreRead (d : Direction) (window : Window) (count full : ℕ) (read left whole : List ℕ) : Type 0 where
  pub few : length read ≤ window.most
  pub inside : count ≤ full
  pub left_from : AreFrom d window left
  pub joined : read ++ take (window.most - length read) (all_within window left) ≡ first_within window whole
  pub ends : count < full → take (window.most - length read) (all_within window left) ≡ []
