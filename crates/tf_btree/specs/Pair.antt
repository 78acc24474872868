-- Two neighbours in a list.
use Rattle.std.specs.Prelude.{◌≡◌, ℕ, List, ◌∷◌, ◌++◌, length}

-- x stands at i of the list and y behind it, and without them the list is `rest`
pub record IsPairIn {X : Type 0} (xs : List X) (i : ℕ) (x y : X) (rest : List X) : Type 0 where
  pub front : List X
  pub back : List X
  pub place : length front ≡ i
  pub all : xs ≡ front ++ x ∷ y ∷ back
  pub others : rest ≡ front ++ back
