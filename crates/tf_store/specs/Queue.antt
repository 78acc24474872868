-- What contracts see of the batches that wait.
use Rattle.std.specs.Prelude.{ℕ, List}
use Rattle.tf_store.specs.Receipt.{Waiting}

-- the batches, the oldest first, and how many there is room for
pub record QueueView : Type 0 where
  pub waiting : List Waiting
  pub room : ℕ
