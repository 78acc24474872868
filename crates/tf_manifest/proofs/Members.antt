-- Elements of lists, by recursion along the list.
use Rattle.std.proofs.Common.{◌≡◌, List, [], ◌∷◌, ◌++◌, map, Option, Some, None, Bool, true, false, ◌||◌, cond, find, refl, sym, ◌∙◌, ap, subst, inl, inr, ◌⊎◌}
use Rattle.std.specs.List.{All, filter_map, cons_option, list_any}
use Rattle.std.proofs.lemmas.List.Elements.{All-head, All-tail}
use Rattle.std.proofs.lemmas.Option.{none-some}

-- x is an element of the list
abbrev pub Has : {X : Type 0} → List X → X → Type 0
Has [] x = ⊥
Has (y ∷ ys) x = (y ≡ x) ⊎ Has ys x

pub bool_cases : {P : Type 0} (b : Bool) → (b ≡ true → P) → (b ≡ false → P) → P
bool_cases true t f = t refl
bool_cases false t f = f refl

-- what holds of both branches holds of a choice
pub chosen : {X : Type 0} (P : X → Type 0) (b : Bool) (x y : X) → (b ≡ true → P x) → (b ≡ false → P y) → P (cond b x y)
chosen P true x y t f = t refl
chosen P false x y t f = f refl

module _ {X : Type 0} where
  pub has_left : (xs ys : List X) (x : X) → Has xs x → Has (xs ++ ys) x
  has_left [] ys x h = absurd h
  has_left (y ∷ xs) ys x (inl e) = inl e
  has_left (y ∷ xs) ys x (inr h) = inr (has_left xs ys x h)

  pub has_right : (xs ys : List X) (x : X) → Has ys x → Has (xs ++ ys) x
  has_right [] ys x h = h
  has_right (y ∷ xs) ys x h = inr (has_right xs ys x h)

  pub has_either : (xs ys : List X) (x : X) → Has (xs ++ ys) x → Has xs x ⊎ Has ys x
  has_either [] ys x h = inr h
  has_either (y ∷ xs) ys x (inl e) = inl (inl e)
  has_either (y ∷ xs) ys x (inr h) = elim (has_either xs ys x h) [
    | inl l ↦ inl (inr l)
    | inr r ↦ inr r
  ]

  -- what holds of all holds of each
  pub all_has : (P : X → Type 0) (xs : List X) (x : X) → All P xs → Has xs x → P x
  all_has P [] x all h = absurd h
  all_has P (y ∷ xs) x all (inl e) = subst P e (All-head P y xs all)
  all_has P (y ∷ xs) x all (inr h) = all_has P xs x (All-tail P y xs all) h

  pub any_has : (p : X → Bool) (xs : List X) (x : X) → Has xs x → p x ≡ true → list_any p xs ≡ true
  any_has p [] x h passes = absurd h
  any_has p (y ∷ xs) x (inl e) passes = first (p y) (ap p e ∙ passes) where
    first : (b : Bool) → b ≡ true → (b || list_any p xs) ≡ true
    first true e = refl
    first false e = absurd (cc)
  any_has p (y ∷ xs) x (inr h) passes = later (p y) (any_has p xs x h passes) where
    later : (b : Bool) → list_any p xs ≡ true → (b || list_any p xs) ≡ true
    later true e = refl
    later false e = e

  -- where none is found, no element passes
  pub none_has : (p : X → Bool) (xs : List X) (x : X) → find p xs ≡ None → Has xs x → p x ≡ true → ⊥
  none_has p [] x none h passes = h
  none_has p (y ∷ xs) x none h passes = by_test (p y) refl none h (λ rest later. none_has p xs x rest later passes) where
    by_test : (b : Bool) → p y ≡ b → cond b (Some y) (find p xs) ≡ None → Has (y ∷ xs) x → (find p xs ≡ None → Has xs x → ⊥) → ⊥
    by_test true e none h again = absurd (none-some y (sym none))
    by_test false e none (inl same) again = let wrong : true ≡ false = sym passes ∙ ap p (sym same) ∙ e in absurd (cc)
    by_test false e none (inr h) again = again none h

has_behind : {Y : Type 0} (o : Option Y) (ys : List Y) (y : Y) → Has ys y → Has (cons_option o ys) y
has_behind None ys y h = h
has_behind (Some x) ys y h = inr h

module _ {X Y : Type 0} where
  pub has_map : (f : X → Y) (xs : List X) (x : X) → Has xs x → Has (map f xs) (f x)
  has_map f [] x h = absurd h
  has_map f (y ∷ xs) x (inl e) = inl (ap f e)
  has_map f (y ∷ xs) x (inr h) = inr (has_map f xs x h)

  -- an element of a mapped list, with what it was made of
  pub record Made (f : X → Y) (xs : List X) (y : Y) : Type 0 where
    pub from : X
    pub has : Has xs from
    pub is : f from ≡ y

  pub has_made : (f : X → Y) (xs : List X) (y : Y) → Has (map f xs) y → Made f xs y
  has_made f [] y h = absurd h
  has_made f (x ∷ xs) y (inl e) = record { from = x; has = inl refl; is = e }
  has_made f (x ∷ xs) y (inr h) = let rest = has_made f xs y h in record { from = rest.from; has = inr rest.has; is = rest.is }

  -- an element that a list was chosen from
  pub record Chosen (h : X → Option Y) (xs : List X) (y : Y) : Type 0 where
    pub from : X
    pub has : Has xs from
    pub is : h from ≡ Some y

  pub has_chosen : (h : X → Option Y) (xs : List X) (x : X) (y : Y) → Has xs x → h x ≡ Some y → Has (filter_map h xs) y
  has_chosen h [] x y has is = absurd has
  has_chosen h (z ∷ xs) x y (inl e) is = subst (λ (o : Option Y). Has (cons_option o (filter_map h xs)) y) (sym (ap h e ∙ is)) (inl refl)
  has_chosen h (z ∷ xs) x y (inr has) is = has_behind (h z) (filter_map h xs) y (has_chosen h xs x y has is)

  pub chosen_from : (h : X → Option Y) (xs : List X) (y : Y) → Has (filter_map h xs) y → Chosen h xs y
  chosen_from h [] y has = absurd has
  chosen_from h (x ∷ xs) y has = by_option (h x) refl has (chosen_from h xs y) where
    by_rest : Chosen h xs y → Chosen h (x ∷ xs) y
    by_rest rest = record { from = rest.from; has = inr rest.has; is = rest.is }

    by_option : (o : Option Y) → h x ≡ o → Has (cons_option o (filter_map h xs)) y → (Has (filter_map h xs) y → Chosen h xs y) → Chosen h (x ∷ xs) y
    by_option None e has again = by_rest (again has)
    by_option (Some z) e (inl same) again = record { from = x; has = inl refl; is = e ∙ ap Some same }
    by_option (Some z) e (inr has) again = by_rest (again has)
