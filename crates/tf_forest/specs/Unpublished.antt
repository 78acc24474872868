-- What a publish that isn't settled leaves.
use Rattle.std.specs.Prelude.{◌≡◌}
use Rattle.tf_rows.specs.Counts.{Loses}
use Rattle.tf_forest.specs.Forest.{View}

-- everything is as it was, but that some of the tables that were needed were pushed, and stay counted
pub record IsUnpublished (old new : View) : Type 0 where
  pub is : new ≡ record old { sealed = new.sealed }
  pub loses : Loses old.sealed new.sealed old.needed
