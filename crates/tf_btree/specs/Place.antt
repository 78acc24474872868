-- Where a key lies among the entries of a node.
use Rattle.std.specs.Prelude.{◌≡◌, ℕ, suc, ◌<◌, ◌≤◌, List, [], ◌∷◌, length, take, drop, slice_index_or}
use Rattle.std.specs.declared.cmp.Ordering.{Ordering}
use Rattle.std.specs.declared.cmp.Ordering.TheVariants.{Less, Equal, Greater}
use Rattle.tf_btree.specs.Subtree.{joined}

-- the key of each of these rows has this property
abbrev pub AllKeys : {K V : Type 0} → (K → Type 0) → List (K × V) → Type 0
AllKeys P [] = Unit {0}
AllKeys P (r ∷ rs) = P r.0 × AllKeys P rs

module _ {K V : Type 0} (cmp : K → K → Ordering) where
  -- each of these rows has a lesser key than k
  abbrev pub AllBefore : K → List (K × V) → Type 0
  AllBefore k rows = AllKeys (λ (q : K). cmp q k ≡ Less) rows

  -- each of these rows has a greater key than k
  abbrev pub AllBeyond : K → List (K × V) → Type 0
  AllBeyond k rows = AllKeys (λ (q : K). cmp q k ≡ Greater) rows

  -- the rows before k's place are less, those behind it greater
  pub record Among (k : K) (a c : List (K × V)) : Type 0 where
    pub before : AllBefore k a
    pub beyond : AllBeyond k c

  -- the entry at i has the row of k alone
  pub record IsAt (k : K) (ps : List (List (K × V))) (i : ℕ) : Type 0 where
    pub in_range : i < length ps
    pub row : (q : K) × (w : V) × (slice_index_or ps i [] ≡ (q, w) ∷ []) × (cmp q k ≡ Equal)
    pub among : Among k (joined (take i ps)) (joined (drop (suc i) ps))

  -- no entry has a row of k, and a new one would go to i
  pub record IsGap (k : K) (ps : List (List (K × V))) (i : ℕ) : Type 0 where
    pub in_range : i ≤ length ps
    pub among : Among k (joined (take i ps)) (joined (drop i ps))

  -- a row of k is below the entry at i, if it is below any
  pub record IsBelow (k : K) (ps : List (List (K × V))) (i : ℕ) : Type 0 where
    pub in_range : i < length ps
    pub among : Among k (joined (take i ps)) (joined (drop (suc i) ps))
