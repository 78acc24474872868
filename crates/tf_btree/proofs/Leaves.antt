-- The leaves below one branch, before and behind one of them.
use Rattle.tf_btree.proofs.Words.{◌≡◌, ℕ, suc, List, [], ◌∷◌, ◌++◌, map, take, drop, Some, Bool, true, false, refl, sym, ◌∙◌, ap, subst, arith, append_assoc, Box, take-append-drop, take-map, drop-map, Subtree, joined, rows, first_key, AllChildren, height_of, parts_of, subtree_of, IsNode, unbox}
use Rattle.tf_btree.proofs.Words.{unboxed, rows_of, AllLeaves}
use Rattle.tf_btree.proofs.Entries.{same_height, same_parts, some_parts}

pub AllLeaves-parts : {K V : Type 0} (cs ds : List (Subtree K V)) → AllLeaves (cs ++ ds) → AllLeaves cs × AllLeaves ds
AllLeaves-parts [] ds a = (tt, a)
AllLeaves-parts (c ∷ cs) ds a = let rest = AllLeaves-parts cs ds a.2 in ((a.0, a.1, rest.0), rest.1)

pub rows_of-append : {K V : Type 0} (cs ds : List (Subtree K V)) → rows_of (cs ++ ds) ≡ rows_of cs ++ rows_of ds
rows_of-append [] ds = refl
rows_of-append (c ∷ cs) ds = ap (λ r. rows c ++ r) (rows_of-append cs ds) ∙ sym (append_assoc (rows c) (rows_of cs) (rows_of ds))

-- children of height 0, each with a first key
leaves_in : {K V : Type 0} (ks : List K) (cs : List (Subtree K V)) → map Some ks ≡ map first_key (map rows cs) → AllChildren 1 cs → AllLeaves cs
leaves_in ks [] e h = tt
leaves_in [] (c ∷ cs) e h = absurd (cc)
leaves_in (k ∷ ks) (c ∷ cs) e h =
    let first : Some k ≡ first_key (rows c) = cc in
    let rest : map Some ks ≡ map first_key (map rows cs) = cc in
    let level : suc c.height ≡ 1 = h.0.level in
    (omega arith, some_parts c k first, leaves_in ks cs rest h.1)

bottom_leaves : {K V : Type 0} (b : Bool) (ks : List K) (vs : List V) (cs : List (Subtree K V)) → b ≡ true → IsNode b ks vs cs → height_of b cs ≡ 1 → AllLeaves cs
bottom_leaves false ks vs cs e n h = absurd (cc)
bottom_leaves true ks vs cs e n h = leaves_in ks cs n.first_keys (rw h at n.kind.1)

branch_parts : {K V : Type 0} (b : Bool) (ks : List K) (vs : List V) (cs : List (Subtree K V)) → b ≡ true → parts_of b ks vs cs ≡ map rows cs
branch_parts false ks vs cs e = absurd (cc)
branch_parts true ks vs cs e = refl

module _ {K V A : Type 0} (b : Bool) (ks : List K) (vs : List V) (bs : List (Box (Subtree K V) A)) (s : Subtree K V) (n : ℕ)
    (node : IsNode b ks vs (unboxed bs)) (is : subtree_of b ks vs (unboxed bs) ≡ s) (branch : b ≡ true) (bottom : s.height ≡ 1) where
  the_leaves : AllLeaves (unboxed bs)
  the_leaves = bottom_leaves b ks vs (unboxed bs) branch node (same_height is ∙ bottom)

  the_parts : map rows (unboxed bs) ≡ s.parts
  the_parts = sym (branch_parts b ks vs (unboxed bs) branch) ∙ same_parts is

  dropped : unboxed (drop n bs) ≡ drop n (unboxed bs)
  dropped = sym (drop-map (unbox {X = Subtree K V} {Z = A}) n bs)

  taken : unboxed (take n bs) ≡ take n (unboxed bs)
  taken = sym (take-map (unbox {X = Subtree K V} {Z = A}) n bs)

  pub behind_filled : AllLeaves (unboxed (drop n bs))
  behind_filled = subst (λ (cs : List (Subtree K V)). AllLeaves cs) (sym dropped) (AllLeaves-parts (take n (unboxed bs)) (drop n (unboxed bs)) (rw (take-append-drop n (unboxed bs)) the_leaves)).1

  pub before_filled : AllLeaves (unboxed (take n bs))
  before_filled = subst (λ (cs : List (Subtree K V)). AllLeaves cs) (sym taken) (AllLeaves-parts (take n (unboxed bs)) (drop n (unboxed bs)) (rw (take-append-drop n (unboxed bs)) the_leaves)).0

  pub behind_rows : rows_of (unboxed (drop n bs)) ≡ joined (drop n s.parts)
  behind_rows = ap (λ (cs : List (Subtree K V)). rows_of cs) dropped ∙ ap joined (sym (drop-map rows n (unboxed bs)) ∙ ap (λ (ps : List (List (K × V))). drop n ps) the_parts)

  pub before_rows : rows_of (unboxed (take n bs)) ≡ joined (take n s.parts)
  before_rows = ap (λ (cs : List (Subtree K V)). rows_of cs) taken ∙ ap joined (sym (take-map rows n (unboxed bs)) ∙ ap (λ (ps : List (List (K × V))). take n ps) the_parts)
