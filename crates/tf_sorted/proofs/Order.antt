-- Rows in key order: what the order of keys tells, and parts of them.
use Rattle.std.proofs.Common.{◌≡◌, List, [], ◌∷◌, ◌++◌, Bool, true, false, sym, ◌∙◌, ap}
use Rattle.std.specs.Cmp.{IsTotalOrder}
use Rattle.std.specs.Ordering.{is_gt, ordering_reverse}
use Rattle.std.specs.declared.cmp.Ordering.{Ordering}
use Rattle.std.specs.declared.cmp.Ordering.TheVariants.{Less, Equal, Greater}
use Rattle.tf_sorted.specs.Rows.{AllAfter, IsRising}

module _ {K : Type 0} (cmp : K → K → Ordering) (total : IsTotalOrder cmp) where
  -- one key is above another that is below it
  pub greater_from_less : (x y : K) → cmp x y ≡ Less → cmp y x ≡ Greater
  greater_from_less x y e = total.antisymm y x ∙ ap ordering_reverse e

  pub less_from_greater : (x y : K) → cmp x y ≡ Greater → cmp y x ≡ Less
  less_from_greater x y e = total.antisymm y x ∙ ap ordering_reverse e

  -- below what is not above k is below k
  pub below_upto : (y x k : K) (o : Ordering) → cmp x k ≡ o → is_gt o ≡ false → cmp y x ≡ Less → cmp y k ≡ Less
  below_upto y x k Less e h l = total.trans y x k l e
  below_upto y x k Equal e h l = less_from_greater k y (sym (total.congr x k y e) ∙ greater_from_less y x l)
  below_upto y x k Greater e h l = absurd (let t : true ≡ false = h in cc)

module _ {K V : Type 0} (cmp : K → K → Ordering) where
  AllAfter-left : (k : K) (xs ys : List (K × V)) → AllAfter cmp k (xs ++ ys) → AllAfter cmp k xs
  AllAfter-left k [] ys a = tt
  AllAfter-left k (x ∷ xs) ys a = (a.0, AllAfter-left k xs ys a.1)

  pub AllAfter-right : (k : K) (xs ys : List (K × V)) → AllAfter cmp k (xs ++ ys) → AllAfter cmp k ys
  AllAfter-right k [] ys a = a
  AllAfter-right k (x ∷ xs) ys a = AllAfter-right k xs ys a.1

  pub AllAfter-append : (k : K) (xs ys : List (K × V)) → AllAfter cmp k xs → AllAfter cmp k ys → AllAfter cmp k (xs ++ ys)
  AllAfter-append k [] ys a b = b
  AllAfter-append k (x ∷ xs) ys a b = (a.0, AllAfter-append k xs ys a.1 b)

  -- a part of rows that rise rises
  pub IsRising-left : (xs ys : List (K × V)) → IsRising cmp (xs ++ ys) → IsRising cmp xs
  IsRising-left [] ys a = tt
  IsRising-left (x ∷ xs) ys a = (AllAfter-left x.0 xs ys a.0, IsRising-left xs ys a.1)

  pub IsRising-right : (xs ys : List (K × V)) → IsRising cmp (xs ++ ys) → IsRising cmp ys
  IsRising-right [] ys a = a
  IsRising-right (x ∷ xs) ys a = IsRising-right xs ys a.1
