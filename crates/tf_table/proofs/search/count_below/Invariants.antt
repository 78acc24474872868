use Rattle.std.proofs.Common.{◌-◌, ◌≡◌, ℕ, ◌+◌, ◌<◌, ◌≤◌, length, slice_index_or, true, false}
use Rattle.std.specs.Ordering.{is_lt}
use Rattle.tf_table.specs.declared.key.Key.{Key}
use Rattle.tf_table.specs.Key.{key_cmp}
use Rattle.tf_table.proofs.search.count_below.Given as goal

abbrev pub invariant-loop-low : goal.invariant-loop-low
invariant-loop-low l = record {
  ordered : l.low ≤ l.high;
  within : l.high ≤ length l.keys;
  before : (place : ℕ) (d : Key) → place + 1 ≡ l.low → is_lt (key_cmp (slice_index_or l.keys place d) l.key) ≡ true;
  after : (d : Key) → l.high < length l.keys → is_lt (key_cmp (slice_index_or l.keys l.high d) l.key) ≡ false;
}

abbrev pub decreases-loop-low : goal.decreases-loop-low
decreases-loop-low l = l.high - l.low
