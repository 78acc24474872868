-- What the registry keeps of a table for good.
use Rattle.std.specs.Prelude.{◌≡◌, ℕ, length, Option, Bool}
use Rattle.tf_table.specs.declared.span.Span.{Span}
use Rattle.tf_table.specs.Span.{HasSpan, timestamps}
use Rattle.tf_registry.specs.Table.{Table}

-- the number of rows, the level, the mark and the span are those of the table
pub record Describes {V : Type 0} (rows level : ℕ) (oldest : Bool) (span : Option Span) (table : Table V) : Type 0 where
  pub is_rows : rows ≡ length table.rows
  pub is_level : level ≡ table.level
  pub is_oldest : oldest ≡ table.oldest
  pub has_span : HasSpan span (timestamps table.rows)
