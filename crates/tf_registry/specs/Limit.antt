-- How many tables were pushed, and how many may be.
use Rattle.std.specs.Prelude.{ℕ, ◌+◌, ◌≤◌}

-- the number of tables pushed, and its limit
pub record Pushed : Type 0 where
  pub count : ℕ
  pub limit : ℕ

-- the limit is kept, and it isn't above the greatest
pub record IsWithinLimit (pushed : Pushed) : Type 0 where
  pub count : pushed.count ≤ pushed.limit
  pub limit : pushed.limit ≤ 1048576

-- one more was pushed
abbrev pub one_more : Pushed → Pushed
one_more pushed = record { count = pushed.count + 1; limit = pushed.limit }
