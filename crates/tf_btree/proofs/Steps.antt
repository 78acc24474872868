-- A step of a cursor: within its run, and to the next run.
use Rattle.tf_btree.proofs.Words.{◌≡◌, ℕ, ◌+◌, ◌<◌, List, [], ◌∷◌, ◌++◌, length, drop, get_or, Option, refl, sym, ◌∙◌, ap, arith, drop_all, drop_more, Ordering, Box, Subtree, rows, pairs, rows_of, rows_after, AllLeaves, IsKeyOf, unboxed, nil_from_length, subst}
use Rattle.tf_btree.specs.Cursor.{IsNextRun}

-- one row less at the head of a run is one less at the head of what is left
pub step_on : {K V : Type 0} (mid back : List (K × V)) (ks : List K) (vs : List V) (at : ℕ) (d : K) (e : V) → length ks ≡ length vs → at < length ks
    → (pairs (drop at ks) (drop at vs) ++ mid) ++ back ≡ (get_or ks at d, get_or vs at e) ∷ ((pairs (drop (at + 1) ks) (drop (at + 1) vs) ++ mid) ++ back)
step_on mid back ks vs at d e same lt = rw (drop_more ks at d lt, drop_more vs at e (omega arith)) refl

-- a run that is used up leaves the rows behind it, which the next run takes up
pub refill : {K V : Type 0} (cmp : K → K → Ordering) (all_rows : List (K × V)) (leaves further : List (Subtree K V)) (next behind : Option K) (ks ks' : List K) (vs vs' : List V) (at : ℕ) (left : List (K × V)) → IsNextRun cmp all_rows leaves next ks' vs' further behind → at ≡ length ks
    → (pairs (drop at ks) (drop at vs) ++ rows_of leaves) ++ rows_after cmp next all_rows ≡ left → (pairs ks' vs' ++ rows_of further) ++ rows_after cmp behind all_rows ≡ left
refill {K} {V} cmp all_rows leaves further next behind ks ks' vs vs' at left run used is =
    let none : pairs (drop at ks) (drop at vs) ≡ [] = rw (drop_all at ks (omega arith)) refl in
    sym run.all ∙ sym (ap (λ (r : List (K × V)). (r ++ rows_of leaves) ++ rows_after cmp next all_rows) none) ∙ is

-- the first of leaves is one
pub first_low : {K V : Type 0} (cs behind : List (Subtree K V)) (leaf : Subtree K V) → cs ≡ leaf ∷ behind → AllLeaves cs → leaf.height ≡ 0
first_low {K} {V} cs behind leaf is filled = (subst (λ (r : List (Subtree K V)). AllLeaves r) is filled).0

-- the run of the first leaf, and what is behind it
pub first_leaf : {K V : Type 0} (cmp : K → K → Ordering) (all_rows : List (K × V)) (next : Option K) (cs behind : List (Subtree K V)) (leaf : Subtree K V) (ks : List K) (vs : List V) → cs ≡ leaf ∷ behind → AllLeaves cs
    → length ks ≡ length vs → pairs ks vs ≡ rows leaf → length ks ≡ length leaf.parts → IsKeyOf cmp all_rows next → IsNextRun cmp all_rows cs next ks vs behind next
first_leaf {K} {V} cmp all_rows next cs behind leaf ks vs is filled same own long member =
    let leaves : AllLeaves (leaf ∷ behind) = subst (λ (r : List (Subtree K V)). AllLeaves r) is filled in
    let some : 0 < length leaf.parts = leaves.1 in
    record {
      same = same;
      some = omega arith;
      filled = leaves.2;
      all = ap (λ (r : List (Subtree K V)). rows_of r ++ rows_after cmp next all_rows) is ∙ ap (λ (r : List (K × V)). (r ++ rows_of behind) ++ rows_after cmp next all_rows) (sym own);
      member = member;
    }

pub no_leaves : {X Z : Type 0} (bs : List (Box X Z)) → length bs ≡ 0 → unboxed bs ≡ []
no_leaves bs e = ap unboxed (nil_from_length bs e)
