-- Records that are found part by part, and are read after that.
use Rattle.std.proofs.Common.{◌≡◌, ◌∙◌, sym, refl, ap, arith, ℕ, zero, suc, ◌+◌, ◌<◌, List, [], ◌∷◌, ◌++◌, append_assoc, map, take, length, get_or, Option}
use Rattle.std.proofs.Math.ListN.{set}
use Rattle.std.specs.List.{filter_map}
use Rattle.std.specs.Option.{option_to_list}
use Rattle.std.proofs.lemmas.List.{get_or-map, get_or-take, map-append, map_more, take_more_set}
use Rattle.std.proofs.lemmas.List.Elements.{filter_map-append}
use Rattle.tf_look_ups.proofs.Found.{found-one}

module _ {X Y Z : Type 0} (g : X → Option Y) (f : Z → Option Y) where
  -- one of those that were found
  pub given-ahead : (xs : List X) (zs : List Z) (i : ℕ) (x : X) (d : Z) → i < length zs → map g (take (length zs) xs) ≡ map f zs → g (get_or xs i x) ≡ f (get_or zs i d)
  given-ahead xs [] i x d h e = absurd (omega arith)
  given-ahead [] (z ∷ zs) i x d h e = absurd (cc)
  given-ahead (y ∷ xs) (z ∷ zs) zero x d h e = cc
  given-ahead (y ∷ xs) (z ∷ zs) (suc i) x d h e = given-ahead xs zs i x d (omega arith) others
    where
      others : map g (take (length zs) xs) ≡ map f zs
      others = cc

  -- one more is found
  pub one-ahead : (xs : List X) (x : X) (zs : List Z) (i : ℕ) (d : Z) → i < length xs → i < length zs → g x ≡ f (get_or zs i d) → map g (take i xs) ≡ map f (take i zs) → map g (take (i + 1) (set xs i x)) ≡ map f (take (i + 1) zs)
  one-ahead xs x zs i d h k e o =
      ap (map g) (take_more_set xs i x h)
      ∙ map-append g (take i xs) (x ∷ [])
      ∙ ap (λ ys. ys ++ g x ∷ []) o
      ∙ ap (λ y. map f (take i zs) ++ y ∷ []) e
      ∙ sym (map_more f zs i d k)

-- one more, of what is read itself
pub same-ahead : {X Z : Type 0} (f : Z → X) (xs : List X) (x : X) (zs : List Z) (i : ℕ) (d : Z) → i < length xs → i < length zs → x ≡ f (get_or zs i d) → take i xs ≡ map f (take i zs) → take (i + 1) (set xs i x) ≡ map f (take (i + 1) zs)
same-ahead f xs x zs i d h k e o =
    take_more_set xs i x h
    ∙ ap (λ ys. ys ++ x ∷ []) o
    ∙ ap (λ y. map f (take i zs) ++ y ∷ []) e
    ∙ sym (map_more f zs i d k)

-- one of them
pub there-ahead : {X Z : Type 0} (f : Z → X) (xs : List X) (zs : List Z) (i : ℕ) (x : X) (d : Z) → i < length zs → take (length zs) xs ≡ map f zs → get_or xs i x ≡ f (get_or zs i d)
there-ahead f xs zs i x d h e =
    sym (get_or-take (length zs) xs i x h)
    ∙ ap (λ ys. get_or ys i x) e
    ∙ get_or-map f zs i d x h

module _ {X Y Z W : Type 0} (g : X → Option Y) (f : Z → Option Y) (p : Option Y → Option W) where
  -- what is read of those that were found
  read-ahead : (xs : List X) (zs : List Z) → map g xs ≡ map f zs → filter_map (λ x. p (g x)) xs ≡ filter_map (λ z. p (f z)) zs
  read-ahead [] [] e = refl
  read-ahead [] (z ∷ zs) e = absurd (cc)
  read-ahead (x ∷ xs) [] e = absurd (cc)
  read-ahead (x ∷ xs) (z ∷ zs) e =
      filter_map-append (λ v. p (g v)) (x ∷ []) xs
      ∙ ap (λ ys. ys ++ filter_map (λ v. p (g v)) xs) (found-one (λ v. p (g v)) x (p (g x)) refl ∙ ap (λ y. option_to_list (p y)) first ∙ sym (found-one (λ v. p (f v)) z (p (f z)) refl))
      ∙ ap (λ ys. filter_map (λ v. p (f v)) (z ∷ []) ++ ys) (read-ahead xs zs others)
      ∙ sym (filter_map-append (λ v. p (f v)) (z ∷ []) zs)
    where
      first : g x ≡ f z
      first = cc

      others : map g xs ≡ map f zs
      others = cc

  -- one more part
  part-ahead : (xs : List X) (part others rest : List Z) (old : List W) → map g xs ≡ map f part → rest ≡ part ++ others → (old ++ filter_map (λ x. p (g x)) xs) ++ filter_map (λ z. p (f z)) others ≡ old ++ filter_map (λ z. p (f z)) rest
  part-ahead xs part others rest old e s =
      append_assoc old (filter_map (λ x. p (g x)) xs) (filter_map (λ z. p (f z)) others)
      ∙ ap (λ ys. old ++ (ys ++ filter_map (λ z. p (f z)) others)) (read-ahead xs part e)
      ∙ ap (λ ys. old ++ ys) (sym (filter_map-append (λ z. p (f z)) part others))
      ∙ ap (λ zs. old ++ filter_map (λ z. p (f z)) zs) (sym s)

  -- with what is still to come, the rows are the same after one more part was read
  pub more-ahead : (xs : List X) (part others rest : List Z) (old new whole : List W) → map g xs ≡ map f part → rest ≡ part ++ others → new ≡ old ++ filter_map (λ x. p (g x)) xs → old ++ filter_map (λ z. p (f z)) rest ≡ whole → new ++ filter_map (λ z. p (f z)) others ≡ whole
  more-ahead xs part others rest old new whole e s n o = ap (λ ys. ys ++ filter_map (λ z. p (f z)) others) n ∙ part-ahead xs part others rest old e s ∙ o
