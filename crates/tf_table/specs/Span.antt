-- The span of rows: the earliest and the latest timestamp of their keys.
use Rattle.std.specs.Prelude.{◌≡◌, ℕ, ◌≤◌, List, [], Option, Some, None, map}
use Rattle.std.specs.List.{All, Contains}
use Rattle.tf_table.specs.declared.key.Key.{Key}
use Rattle.tf_table.specs.declared.span.Span.{Span}

-- the timestamps of rows, in the order of the rows
abbrev pub timestamps : {E : Type 0} → List (Key × E) → List ℕ
timestamps rows = map (λ r. r.0.timestamp) rows

-- each of them lies between the two, and both are among them
pub record IsSpan (span : Span) (times : List ℕ) : Type 0 where
  pub within : All (λ time. (span.earliest ≤ time) × (time ≤ span.latest)) times
  pub earliest : Contains times span.earliest
  pub latest : Contains times span.latest

-- the same, or none where there is no timestamp
abbrev pub HasSpan : Option Span → List ℕ → Type 0
HasSpan None times = times ≡ []
HasSpan (Some span) times = IsSpan span times
