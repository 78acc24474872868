-- Rows that are found one after another.
use Rattle.std.proofs.Common.{◌≡◌, ◌∙◌, sym, refl, ap, ℕ, ◌+◌, ◌<◌, List, [], ◌∷◌, ◌++◌, append_assoc, take, length, get_or, Option, Some, None}
use Rattle.std.specs.List.{filter_map}
use Rattle.std.specs.Option.{option_to_list}
use Rattle.std.proofs.lemmas.List.{take_more}
use Rattle.std.proofs.lemmas.List.Elements.{filter_map-append}

pub found-one : {X Y : Type 0} (f : X → Option Y) (x : X) (o : Option Y) → o ≡ f x → filter_map f (x ∷ []) ≡ option_to_list o
found-one f x None e = rw (sym e) refl
found-one f x (Some y) e = rw (sym e) refl

-- what is found for one more
pub more-found : {X Y : Type 0} (f : X → Option Y) (xs : List X) (i : ℕ) (d : X) (new old : List Y) (found : Option Y) → i < length xs → found ≡ f (get_or xs i d) → new ≡ old ++ option_to_list found → old ≡ filter_map f (take i xs) → new ≡ filter_map f (take (i + 1) xs)
more-found f xs i d new old found h e n o =
    n
    ∙ ap (λ ys. ys ++ option_to_list found) o
    ∙ ap (λ ys. filter_map f (take i xs) ++ ys) (sym (found-one f (get_or xs i d) found e))
    ∙ sym (filter_map-append f (take i xs) (get_or xs i d ∷ []))
    ∙ ap (filter_map f) (sym (take_more xs i d h))

-- the same, behind other rows
pub more-behind : {X Y : Type 0} (f : X → Option Y) (xs : List X) (i : ℕ) (d : X) (new old first : List Y) (found : Option Y) → i < length xs → found ≡ f (get_or xs i d) → new ≡ old ++ option_to_list found → old ≡ first ++ filter_map f (take i xs) → new ≡ first ++ filter_map f (take (i + 1) xs)
more-behind f xs i d new old first found h e n o =
    n
    ∙ ap (λ ys. ys ++ option_to_list found) o
    ∙ append_assoc first (filter_map f (take i xs)) (option_to_list found)
    ∙ ap (λ ys. first ++ ys) (more-found f xs i d (filter_map f (take i xs) ++ option_to_list found) (filter_map f (take i xs)) found h e refl refl)
