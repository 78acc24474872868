-- What a filter in parts knows, part by part.
use Rattle.std.proofs.Common.{ℕ, zero, suc, ◌<◌, List, [], ◌∷◌, ◌++◌, length, map, get_or, inl, inr, arith}
use Rattle.std.specs.List.{All}
use Rattle.std.proofs.lemmas.List.Elements.{All-head, All-tail}
use Rattle.tf_table.specs.GrowingFilter.{HasPut, Knows}

-- of parts that each are the words of something
module _ {X : Type 0} (words_of : X → List ℕ) (value : ℕ) where
  -- what is known of a part is known once it stands behind the others
  pub known_behind : (part : X) (parts : List X) → Knows (words_of part ∷ map words_of parts) value → Knows (map words_of (parts ++ part ∷ [])) value
  known_behind part [] known = known
  known_behind part (first ∷ rest) (inl here) = inr (known_behind part rest (inl here))
  known_behind part (first ∷ rest) (inr (inl there)) = inl there
  known_behind part (first ∷ rest) (inr (inr there)) = inr (known_behind part rest (inr there))

  -- what one part has is known
  pub known_at : (parts : List X) (i : ℕ) (d : X) → i < length parts → HasPut (words_of (get_or parts i d)) value → Knows (map words_of parts) value
  known_at [] i d below has = absurd (omega arith)
  known_at (part ∷ parts) zero d below has = inl has
  known_at (part ∷ parts) (suc i) d below has = inr (known_at parts i d (omega arith) has)

  -- what no part has isn't known
  pub known_nowhere : (parts : List X) → All (λ part. HasPut (words_of part) value → ⊥) parts → Knows (map words_of parts) value → ⊥
  known_nowhere [] none known = known
  known_nowhere (part ∷ parts) none (inl here) = All-head (λ p. HasPut (words_of p) value → ⊥) part parts none here
  known_nowhere (part ∷ parts) none (inr there) = known_nowhere parts (All-tail (λ p. HasPut (words_of p) value → ⊥) part parts none) there
