-- Keys that rise can be searched by halving.
use Rattle.std.proofs.Common.{◌≡◌, ℕ, zero, suc, ◌+◌, List, [], ◌∷◌, get_or, false, sym, subst, arith}
use Rattle.std.specs.Cmp.{IsTotalOrder}
use Rattle.std.specs.List.Sorted.{IsSortedBy, IsNonDecreasingBy}
use Rattle.std.specs.Ordering.{is_lt, ordering_index}
use Rattle.std.specs.declared.cmp.Ordering.{Ordering}
use Rattle.std.proofs.lemmas.List.Sorted.{searchable_from_sorted}
use Rattle.std.proofs.lemmas.Map.Lookups.{CmpEqualImpliesEq}
use Rattle.tf_sorted.specs.Rows.{IsRising}
use Rattle.tf_table.proofs.Rising.{greater_back, is_lt-not}

pub next : (k : ℕ) → suc k + 1 ≡ suc (k + 1)
next k = omega arith

module _ {K E : Type 0} (cmp : K → K → Ordering) (o : IsTotalOrder cmp) (exact : CmpEqualImpliesEq cmp) where
  -- rows that rise don't fall
  sorted-rising : (rows : List (K × E)) → IsRising cmp rows → IsSortedBy (λ (r s : K × E). is_lt (cmp r.0 s.0)) rows
  sorted-rising [] rising k d l h = absurd (omega arith)
  sorted-rising (r ∷ []) rising k d l h = absurd (omega arith)
  sorted-rising (r ∷ s ∷ rows) rising zero d l h = is_lt-not (cmp s.0 r.0) (λ e. let g = greater_back cmp o r.0 s.0 rising.0.0 in cc)
  sorted-rising (r ∷ s ∷ rows) rising (suc k) d l h = subst (λ m. is_lt (cmp (get_or (r ∷ s ∷ rows) m d).0 (get_or (s ∷ rows) k d).0) ≡ false) (sym (next k)) (sorted-rising (s ∷ rows) rising.1 k d (omega arith) (omega arith))

  pub searchable : (rows : List (K × E)) (key : K) → IsRising cmp rows → IsNonDecreasingBy (λ (r : K × E). ordering_index (cmp r.0 key)) rows
  searchable rows key rising = searchable_from_sorted o (λ (r : K × E). r.0) rows key (sorted-rising rows rising)
