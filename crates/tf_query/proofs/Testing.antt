-- Transfers that are read part by part and tested.
use Rattle.std.proofs.Common.{◌≡◌, ◌⊎◌, inl, inr, ◌∙◌, sym, refl, ap, ℕ, zero, suc, ◌+◌, ◌-◌, ◌<◌, ◌≤◌, arith, List, [], ◌∷◌, ◌++◌, append_assoc, get_or, length, take, drop, Option}
use Rattle.std.specs.List.{filter_map}
use Rattle.std.proofs.lemmas.List.{append-nil, length-append, length-take, length-take-le, take-append-drop, take_all, take_at}
use Rattle.std.proofs.lemmas.List.Elements.{filter_map-append}
use Rattle.tf_manifest.specs.View.{View}
use Rattle.tf_records.specs.declared.transfer.Transfer.{Transfer}
use Rattle.tf_scan.specs.declared.direction.Direction.{Direction}
use Rattle.tf_query.specs.declared.residual.Residual.{Residual}
use Rattle.tf_query.specs.declared.window.Window.{Window}
use Rattle.tf_query.specs.Reading.{IsPart, all_within}
use Rattle.tf_query.specs.Residual.{AreTested, first_passing, passing_in}

-- ---- lists

module _ {X : Type 0} where
  -- what is cut off is cut off again
  pub take-taken : (n : ℕ) (xs ys : List X) → take n (take n xs ++ ys) ≡ take n (xs ++ ys)
  take-taken zero xs ys = refl
  take-taken (suc n) [] ys = refl
  take-taken (suc n) (x ∷ xs) ys = ap (λ zs. x ∷ zs) (take-taken n xs ys)

  none-left : (n : ℕ) (xs : List X) → 0 < n → take n xs ≡ [] → xs ≡ []
  none-left zero xs h e = absurd (omega arith)
  none-left (suc n) [] h e = refl
  none-left (suc n) (x ∷ xs) h e = cc

-- ---- rows that are put behind others

module _ {X Y : Type 0} (f : X → Option Y) where
  -- as many as are asked for
  pub enough : (most : ℕ) (xs : List X) (i : ℕ) (rows first : List Y) → length rows ≡ most → rows ≡ first ++ filter_map f (take i xs) → rows ≡ take most (first ++ filter_map f xs)
  enough most xs i rows first full o =
      let all : first ++ filter_map f xs ≡ rows ++ filter_map f (drop i xs) =
      ap (λ ys. first ++ filter_map f ys) (sym (take-append-drop i xs))
      ∙ ap (λ ys. first ++ ys) (filter_map-append f (take i xs) (drop i xs))
      ∙ sym (append_assoc first (filter_map f (take i xs)) (filter_map f (drop i xs)))
      ∙ ap (λ ys. ys ++ filter_map f (drop i xs)) (sym o) in
      sym (ap (take most) all ∙ take_at rows (filter_map f (drop i xs)) most full)

-- ---- parts

module _ (view : View) (residual : Residual) (d : Direction) (w : Window) where
  abbrev found : List ℕ → List Transfer
  found ts = filter_map (passing_in view residual) ts

  -- of one more part those that pass are put behind the others
  tested-more : (count asked : ℕ) (part : List ℕ) (rows more : List Transfer) (old new whole : List ℕ) → take w.most (rows ++ found (all_within w old)) ≡ first_passing view residual w whole → IsPart d w asked count part old new → asked ≤ length part → more ≡ take w.most (rows ++ found (take count part)) → AreTested view residual d w count asked more new whole
  tested-more count asked part rows more old new whole joined p wide m = record {
    few = omega (arith, ap length m, length-take w.most (rows ++ found (take count part)));
    inside = p.few;
    left_from = p.left_from;
    joined =
        ap (λ ts. take w.most (ts ++ found (all_within w new))) m
        ∙ take-taken w.most (rows ++ found (take count part)) (found (all_within w new))
        ∙ ap (take w.most) (append_assoc rows (found (take count part)) (found (all_within w new)))
        ∙ ap (λ ts. take w.most (rows ++ ts)) (sym (filter_map-append (passing_in view residual) (take count part) (all_within w new)))
        ∙ ap (λ ts. take w.most (rows ++ found ts)) p.whole
        ∙ joined;
    ends = λ short. none-left (asked - count) (all_within w new) (omega arith) (p.ends (omega arith));
  }

  pub tested-first : (count asked : ℕ) (part : List ℕ) (rows none : List Transfer) (old new whole : List ℕ) → all_within w old ≡ all_within w whole → none ≡ [] → IsPart d w asked count part old new → asked ≤ length part → rows ≡ take w.most (none ++ found (take count part)) → AreTested view residual d w count asked rows new whole
  tested-first count asked part rows none old new whole same empty p wide m =
      tested-more count asked part [] rows old new whole (ap (λ ts. take w.most (found ts)) same) p wide (m ∙ ap (λ ts. take w.most (ts ++ found (take count part))) empty)

  pub tested-next : (last count asked : ℕ) (part : List ℕ) (rows more : List Transfer) (old new whole : List ℕ) → AreTested view residual d w last asked rows old whole → IsPart d w asked count part old new → asked ≤ length part → more ≡ take w.most (rows ++ found (take count part)) → AreTested view residual d w count asked more new whole
  tested-next last count asked part rows more old new whole t p wide m = tested-more count asked part rows more old new whole t.joined p wide m

  -- where the last part isn't full, or there are as many rows as are asked for, they are all
  pub tested-all : (count asked : ℕ) (rows : List Transfer) (left whole : List ℕ) → AreTested view residual d w count asked rows left whole → (count < asked) ⊎ (w.most ≤ length rows) → rows ≡ first_passing view residual w whole
  tested-all count asked rows left whole t h = sym (ended h) ∙ t.joined
    where
      ended : (count < asked) ⊎ (w.most ≤ length rows) → take w.most (rows ++ found (all_within w left)) ≡ rows
      ended (inl l) = ap (λ ts. take w.most (rows ++ found ts)) (t.ends l) ∙ ap (take w.most) (append-nil rows) ∙ take_all w.most rows t.few
      ended (inr m) = take_at rows (found (all_within w left)) w.most (omega (arith, t.few))

-- a part takes just as many out of those in a window
pub left-behind : (d : Direction) (w : Window) (most count : ℕ) (part old new : List ℕ) → IsPart d w most count part old new → length (all_within w new) + count ≡ length (all_within w old)
left-behind d w most count part old new p = omega (arith, ap length p.whole, length-append (take count part) (all_within w new), length-take-le count part p.inside)
