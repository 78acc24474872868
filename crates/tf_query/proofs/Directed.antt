-- Lists in a direction: as they stand, or turned round.
use Rattle.std.proofs.Common.{◌≡◌, ℕ, Bool, true, false, ◌||◌, cond, List, [], ◌∷◌, ◌++◌, filter, map, reverse, refl, sym, ◌∙◌, ap, subst, inl, inr}
use Rattle.std.specs.Prelude.{nat_eq}
use Rattle.std.proofs.lemmas.Grind.{reverse_onto}
use Rattle.std.proofs.lemmas.List.{append-nil, map-append}
use Rattle.std.proofs.lemmas.List.Elements.{filter-append}
use Rattle.tf_manifest.proofs.Members.{Has, has_either}
use Rattle.tf_scan.specs.declared.direction.Direction.{Direction}
use Rattle.tf_scan.specs.declared.direction.Direction.TheVariants.{Rising, Falling}
use Rattle.tf_scan.specs.Order.{AllBehind, IsInOrder}
use Rattle.tf_scan.specs.Sets.{is_among}
use Rattle.tf_scan.proofs.Members.{among-append, same-members}
use Rattle.tf_scan.proofs.Order.{AllBefore, in_order-append}
use Rattle.tf_query.specs.Matches.{AreDated, holds_at, in_direction, matches_of}
use Rattle.tf_query.proofs.Dated.{among_kept, any_held, dated_kept}

module _ {X : Type 0} where
  -- the first element comes last
  pub reverse_first : (x : X) (xs : List X) → reverse (x ∷ xs) ≡ reverse xs ++ x ∷ []
  reverse_first x xs = reverse_onto xs x []

  pub map_reverse : {Y : Type 0} (f : X → Y) (xs : List X) → map f (reverse xs) ≡ reverse (map f xs)
  map_reverse f [] = refl
  map_reverse f (x ∷ xs) =
      ap (map f) (reverse_first x xs) ∙ map-append f (reverse xs) (x ∷ [])
      ∙ ap (λ ys. ys ++ f x ∷ []) (map_reverse f xs) ∙ sym (reverse_onto (map f xs) (f x) [])

  pub map_directed : {Y : Type 0} (f : X → Y) (d : Direction) (xs : List X) → map f (in_direction d xs) ≡ in_direction d (map f xs)
  map_directed f Rising xs = refl
  map_directed f Falling xs = map_reverse f xs

  filter_reverse : (p : X → Bool) (xs : List X) → filter p (reverse xs) ≡ reverse (filter p xs)
  filter_reverse p [] = refl
  filter_reverse p (x ∷ xs) =
      ap (filter p) (reverse_first x xs) ∙ filter-append p (reverse xs) (x ∷ [])
      ∙ ap (λ ys. ys ++ filter p (x ∷ [])) (filter_reverse p xs) ∙ step (p x)
    where
      step : (b : Bool) → reverse (filter p xs) ++ cond b (x ∷ []) [] ≡ reverse (cond b (x ∷ filter p xs) (filter p xs))
      step true = sym (reverse_first x (filter p xs))
      step false = append-nil (reverse (filter p xs))

  pub filter_directed : (p : X → Bool) (d : Direction) (xs : List X) → filter p (in_direction d xs) ≡ in_direction d (filter p xs)
  filter_directed p Rising xs = refl
  filter_directed p Falling xs = filter_reverse p xs

  has_reversed : (xs : List X) (x : X) → Has (reverse xs) x → Has xs x
  has_reversed [] x h = h
  has_reversed (y ∷ xs) x h = elim (has_either (reverse xs) (y ∷ []) x (subst (λ ys. Has ys x) (reverse_first y xs) h)) [
    | inl before ↦ inr (has_reversed xs x before)
    | inr (inl same) ↦ inl same
    | inr (inr none) ↦ absurd none
  ]

  pub has_directed : (d : Direction) (xs : List X) (x : X) → Has (in_direction d xs) x → Has xs x
  has_directed Rising xs x h = h
  has_directed Falling xs x h = has_reversed xs x h

among_reversed : (t : ℕ) (ts : List ℕ) → is_among t (reverse ts) ≡ is_among t ts
among_reversed t [] = refl
among_reversed t (u ∷ ts) =
    ap (is_among t) (reverse_first u ts) ∙ among-append t (reverse ts) (u ∷ [])
    ∙ ap (λ b. b || is_among t (u ∷ [])) (among_reversed t ts) ∙ swap (is_among t ts) (nat_eq t u)
  where
    swap : (a b : Bool) → (a || (b || false)) ≡ (b || a)
    swap true true = refl
    swap true false = refl
    swap false true = refl
    swap false false = refl

among_directed : (d : Direction) (t : ℕ) (ts : List ℕ) → is_among t (in_direction d ts) ≡ is_among t ts
among_directed Rising t ts = refl
among_directed Falling t ts = among_reversed t ts

-- turned round, all comes before what was first
before_first : (t : ℕ) (us : List ℕ) → AllBehind Rising t us → AllBefore Falling us (t ∷ [])
before_first t [] h = tt
before_first t (u ∷ us) h = ((h.0, tt), before_first t us h.1)

all_before_append : (d : Direction) (ts us vs : List ℕ) → AllBefore d ts vs → AllBefore d us vs → AllBefore d (ts ++ us) vs
all_before_append d [] us vs h k = k
all_before_append d (t ∷ ts) us vs h k = (h.0, all_before_append d ts us vs h.1 k)

before_reversed : (d : Direction) (ts vs : List ℕ) → AllBefore d ts vs → AllBefore d (reverse ts) vs
before_reversed d [] vs h = tt
before_reversed d (t ∷ ts) vs h =
    subst (λ us. AllBefore d us vs) (sym (reverse_first t ts))
    (all_before_append d (reverse ts) (t ∷ []) vs (before_reversed d ts vs h.1) (h.0, tt))

in_order_reversed : (ts : List ℕ) → IsInOrder Rising ts → IsInOrder Falling (reverse ts)
in_order_reversed [] h = tt
in_order_reversed (t ∷ ts) h =
    subst (IsInOrder Falling) (sym (reverse_first t ts))
    (in_order-append Falling (reverse ts) (t ∷ []) (in_order_reversed ts h.1) (tt, tt) (before_reversed Falling ts (t ∷ []) (before_first t ts h.0)))

in_order_directed : (d : Direction) (ts : List ℕ) → IsInOrder Rising ts → IsInOrder d (in_direction d ts)
in_order_directed Rising ts h = h
in_order_directed Falling ts h = in_order_reversed ts h

module _ {X : Type 0} (timestamp : X → ℕ) (records : List X) (dated : AreDated timestamp records) where
  in_order_matches : (d : Direction) (accepts : X → Bool) → IsInOrder d (matches_of timestamp d accepts records)
  in_order_matches d accepts =
      subst (IsInOrder d) (sym (map_directed timestamp d (filter accepts records)))
      (in_order_directed d (map timestamp (filter accepts records)) (dated_kept timestamp accepts records dated))

  pub among_matches : (d : Direction) (accepts : X → Bool) (t : ℕ) → is_among t (matches_of timestamp d accepts records) ≡ holds_at timestamp accepts records t
  among_matches d accepts t =
      ap (is_among t) (map_directed timestamp d (filter accepts records))
      ∙ among_directed d t (map timestamp (filter accepts records))
      ∙ among_kept timestamp accepts t records ∙ any_held timestamp records dated t accepts

  -- a list in order with the timestamps of matches is the list of these
  pub list_of_matches : (d : Direction) (accepts : X → Bool) (left : List ℕ) → IsInOrder d left → ((t : ℕ) → is_among t left ≡ holds_at timestamp accepts records t) → left ≡ matches_of timestamp d accepts records
  list_of_matches d accepts left ordered members =
      same-members d left (matches_of timestamp d accepts records) ordered (in_order_matches d accepts)
      (λ t. members t ∙ sym (among_matches d accepts t))
