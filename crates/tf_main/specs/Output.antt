-- What a writer holds after bytes were written to it.
use Rattle.std.specs.Prelude.{◌≡◌, ◌≢◌, ℕ, List, [], ◌++◌, Option, Result, MatchResult}
use Rattle.std.specs.Borrow.{Bor}
use Rattle.std.specs.Io.KnownBytes.{Appends}
use Rattle.std.specs.List.{flat_map}

-- texts, one after another
abbrev pub joined : List (Bor (List ℕ)) → List ℕ
joined pieces = flat_map (λ (piece : Bor (List ℕ)). piece.now) pieces

-- a front of the bytes was appended that isn't the whole, and nothing else
pub record AppendsPart (old new : Option (List ℕ)) (bytes : List ℕ) : Type 0 where
  pub front : List ℕ
  pub back : List ℕ
  pub parts : front ++ back ≡ bytes
  pub not_whole : back ≢ []
  pub appended : Appends old new front

-- the bytes were appended, or a part of them where the writer failed
abbrev pub Writes : {X E : Type 0} → Option (List ℕ) → Option (List ℕ) → Result X E → List ℕ → Type 0
Writes old new result bytes = MatchResult result (λ _. Appends old new bytes) (λ _. AppendsPart old new bytes)
