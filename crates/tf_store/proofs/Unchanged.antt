-- What a refused batch or pulse leaves of a forest that keeps all its entries: all of it.
use Rattle.std.proofs.Common.{◌≡◌, ℕ, ◌∷◌, [], length, Option, List}
use Rattle.std.specs.Prelude.{Result, Ok, Err, OnErr}
use Rattle.tf_records.specs.declared.refusal.Refusal.{Refusal}
use Rattle.tf_journal.specs.Ledger.{IsUnchanged}
use Rattle.tf_publish.specs.Tables.{Waits}
use Rattle.tf_forest.specs.Forest.{View}
use Rattle.tf_forest.proofs.Marks.{all_as_before, rest_of}

-- what is told of a forest's mutable tables
pub record IsTold (forest : View) : Type 0 where
  pub at_rest : forest.kept ≡ length forest.journal → forest.marks ≡ forest.fresh ∷ []
  pub waits : Waits forest.fresh forest.sealed.tables forest.needed forest.waiting

pub unchanged_forest : {X : Type 0} (old new : View) (result : Result X Refusal) → OnErr result (IsUnchanged (λ (f : View). f.journal) (λ f. f.clock) (λ f. f.kept) old new)
    → OnErr result (rest_of new ≡ rest_of old) → old.kept ≡ length old.journal → IsTold old → IsTold new → OnErr result (new ≡ old)
unchanged_forest old new (Ok x) same rest kept was is = tt
unchanged_forest old new (Err fault) same rest kept was is =
    all_as_before old new kept same.journal same.clock same.kept rest was.at_rest is.at_rest was.waits is.waits
