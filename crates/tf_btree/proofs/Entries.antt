-- What a node's runs make of its entries, before and after an edit.
use Rattle.tf_btree.proofs.Words.{◌≡◌, ℕ, zero, suc, ◌<◌, ◌≤◌, List, [], ◌∷◌, length, map, get_or, Some, Bool, true, false, refl, sym, ◌∙◌, ap, subst, arith, Box, map-append, map-set, take-map, drop-map, length-map, get_or-map, Fill, Subtree, IsChildAt, joined, rows, fill_of, first_key, empty_node}
use Rattle.tf_btree.proofs.Words.{single_rows, AllChildren, height_over, parts_of, subtree_of, IsNode, HasRoom, unbox, unboxed}
use Rattle.std.specs.List.{insert, remove}
use Rattle.tf_btree.proofs.Order.{rising_entry}
use Rattle.tf_btree.proofs.Runs.{AllChildren-own, AllChildren-get_or}

-- a map of an edited list is the edited map
pub ruleset mapped = (map-append, ← take-map, ← drop-map, map-set)

pub same_kind : {K V : Type 0} {s t : Subtree K V} → s ≡ t → s.is_branch ≡ t.is_branch
same_kind {K} {V} e = ap (λ (s : Subtree K V). s.is_branch) e

pub same_height : {K V : Type 0} {s t : Subtree K V} → s ≡ t → s.height ≡ t.height
same_height {K} {V} e = ap (λ (s : Subtree K V). s.height) e

pub same_parts : {K V : Type 0} {s t : Subtree K V} → s ≡ t → s.parts ≡ t.parts
same_parts {K} {V} e = ap (λ (s : Subtree K V). s.parts) e

pub same_fills : {K V : Type 0} {s t : Subtree K V} → s ≡ t → s.fills ≡ t.fills
same_fills {K} {V} e = ap (λ (s : Subtree K V). s.fills) e

pub empty_kind : {K V : Type 0} (b : Bool) (s : Subtree K V) → s ≡ empty_node b → s.is_branch ≡ b
empty_kind true s e = same_kind e
empty_kind false s e = same_kind e

-- equal fields make equal subtrees
pub same_subtree : {K V : Type 0} (b b' : Bool) (h h' : ℕ) (p p' : List (List (K × V))) (f f' : List Fill) → b ≡ b' → h ≡ h' → p ≡ p' → f ≡ f' → (let s : Subtree K V = record { is_branch = b; height = h; parts = p; fills = f } in s) ≡ record { is_branch = b'; height = h'; parts = p'; fills = f' }
same_subtree {K} {V} b b' h h' p p' f f' eb eh ep ef =
    let at : Bool → ℕ → List (List (K × V)) → List Fill → Subtree K V = λ x y z w. record { is_branch = x; height = y; parts = z; fills = w } in
    ap (λ x. at x h p f) eb ∙ ap (λ y. at b' y p f) eh ∙ ap (λ z. at b' h' z f) ep ∙ ap (λ w. at b' h' p' w) ef

-- room does not shrink
pub room_after : (m : ℕ) (b : Bool) (n k v c n' k' v' c' : ℕ) → HasRoom m b n k v c → n' ≤ m → k ≤ k' → v ≤ v' → c ≤ c' → HasRoom m b n' k' v' c'
room_after m b n k v c n' k' v' c' room few keys values children = record {
  entries_fit = few;
  keys_fit = omega (arith, room.keys_fit);
  values_fit = λ kind. omega (arith, room.values_fit kind);
  children_fit = λ kind. omega (arith, room.children_fit kind);
}

-- there are as many entries as keys
pub length-parts : {K V : Type 0} (b : Bool) (ks : List K) (vs : List V) (cs : List (Subtree K V)) → IsNode b ks vs cs → length (parts_of b ks vs cs) ≡ length ks
length-parts b ks vs cs n = sym (length-map (parts_of b ks vs cs) first_key) ∙ sym (ap length n.first_keys) ∙ length-map ks Some

-- so many as the node is seen to have
pub length-seen : {K V : Type 0} (b : Bool) (ks : List K) (vs : List V) (cs : List (Subtree K V)) (s : Subtree K V) → IsNode b ks vs cs → subtree_of b ks vs cs ≡ s → length s.parts ≡ length ks
length-seen b ks vs cs s n is = ap length (sym (same_parts is)) ∙ length-parts b ks vs cs n

-- a leaf has a value for each key, and no children
pub leaf_same : {K V : Type 0} (b : Bool) (ks : List K) (vs : List V) (cs : List (Subtree K V)) → b ≡ false → IsNode b ks vs cs → (cs ≡ []) × (length ks ≡ length vs)
leaf_same true ks vs cs e n = absurd (cc)
leaf_same false ks vs cs e n = n.kind

pub leaf_parts : {K V : Type 0} (b : Bool) (ks : List K) (vs : List V) (cs : List (Subtree K V)) → b ≡ false → parts_of b ks vs cs ≡ single_rows ks vs
leaf_parts true ks vs cs e = absurd (cc)
leaf_parts false ks vs cs e = refl

-- equally high children with their first keys make a branch
pub branch_node : {K V : Type 0} (ks : List K) (vs : List V) (cs : List (Subtree K V)) (h : ℕ) → vs ≡ [] → AllChildren h cs → map Some ks ≡ map first_key (map rows cs) → IsNode true ks vs cs
branch_node ks vs cs h none high firsts = record { kind = (none, AllChildren-own h cs high); first_keys = firsts }

pub unboxed-insert : {X Z : Type 0} (bs : List (Box X Z)) (i : ℕ) (b : Box X Z) → unboxed (insert bs i b) ≡ insert (unboxed bs) i b.value
unboxed-insert bs i b = simp mapped

pub unboxed-remove : {X Z : Type 0} (bs : List (Box X Z)) (i : ℕ) → unboxed (remove bs i) ≡ remove (unboxed bs) i
unboxed-remove bs i = simp mapped

-- what is high as a new child asks, where there are others
pub high_as : {K V : Type 0} (cs : List (Subtree K V)) (h : ℕ) → AllChildren (height_over cs) cs → (0 < length (map rows cs) → height_over cs ≡ h) → AllChildren h cs
high_as [] h a e = tt
high_as (c ∷ cs) h a e = subst (λ (m : ℕ). AllChildren m (c ∷ cs)) (e (omega arith)) a

pub get_or-first : {K V : Type 0} (ks : List K) (ps : List (List (K × V))) (i : ℕ) (k : K) (d : List (K × V)) → map Some ks ≡ map first_key ps → i < length ks → Some (get_or ks i k) ≡ first_key (get_or ps i d)
get_or-first [] ps i k d e lt = absurd (omega arith)
get_or-first (x ∷ ks) [] i k d e lt = absurd (cc)
get_or-first (x ∷ ks) (p ∷ ps) zero k d e lt = cc
get_or-first (x ∷ ks) (p ∷ ps) (suc i) k d e lt = let t : map Some ks ≡ map first_key ps = cc in get_or-first ks ps i k d t (omega arith)

-- rows that begin with some key come from some entry
pub some_parts : {K V : Type 0} (s : Subtree K V) (k : K) → Some k ≡ first_key (rows s) → 0 < length s.parts
some_parts s k e = elim s.parts as (λ (p : List (List _)). Some k ≡ first_key (joined p) → 0 < length p) [ [] ↦ λ h. absurd (cc) | p ∷ ps ↦ λ h. omega arith ] e

some_child : {K V : Type 0} (ks : List K) (ps : List (List (K × V))) (i : ℕ) (c : Subtree K V) → map Some ks ≡ map first_key ps → i < length ks → get_or ps i [] ≡ rows c → 0 < length c.parts
some_child [] ps i c e lt at = absurd (omega arith)
some_child (k ∷ ks) ps i c e lt at = some_parts c (get_or (k ∷ ks) i k) (get_or-first (k ∷ ks) ps i k [] e lt ∙ ap first_key at)

branch_child : {K V A : Type 0} (ks : List K) (vs : List V) (bs : List (Box (Subtree K V) A)) (i : ℕ) (x : Box (Subtree K V) A) → IsNode true ks vs (unboxed bs) → i < length (map rows (unboxed bs)) → x ≡ get_or bs i x → IsChildAt (subtree_of true ks vs (unboxed bs)) i x.value
branch_child {K} {V} {A} ks vs bs i x n lt is =
    let long = length-parts true ks vs (unboxed bs) n in
    let parts : length (map rows (unboxed bs)) ≡ length (unboxed bs) = length-map (unboxed bs) rows in
    let boxes : length (unboxed bs) ≡ length bs = length-map bs (unbox {X = Subtree K V} {Z = A}) in
    let own : get_or (unboxed bs) i x.value ≡ x.value = get_or-map unbox bs i x x.value (omega arith) ∙ ap unbox (sym is) in
    let entry : get_or (map rows (unboxed bs)) i [] ≡ rows x.value = get_or-map rows (unboxed bs) i x.value [] (omega arith) ∙ ap rows own in
    record {
      entry = entry;
      fill = get_or-map fill_of (unboxed bs) i x.value (fill_of x.value) (omega arith) ∙ ap fill_of own;
      fills = omega (arith, length-map (unboxed bs) fill_of);
      level = sym (AllChildren-get_or _ (unboxed bs) i x.value n.kind.1 (omega arith)) ∙ ap (λ (s : Subtree K V). suc s.height) own;
      some = some_child ks (map rows (unboxed bs)) i x.value n.first_keys (omega arith) entry;
      rising = λ cmp h. rw entry at (rising_entry cmp (map rows (unboxed bs)) i lt h);
    }

-- what stands at a place of a branch is its child there
pub child_at : {K V A : Type 0} (b : Bool) (ks : List K) (vs : List V) (bs : List (Box (Subtree K V) A)) (s : Subtree K V) (i : ℕ) (x : Box (Subtree K V) A) (child : Subtree K V) → s.is_branch ≡ true → IsNode b ks vs (unboxed bs)
    → subtree_of b ks vs (unboxed bs) ≡ s → i < length s.parts → x ≡ get_or bs i x → child ≡ x.value → IsChildAt s i child
child_at false ks vs bs s i x child e n is lt read at = absurd (let kind = same_kind is in cc)
child_at true ks vs bs s i x child e n is lt read at = rw (← is, at) (branch_child ks vs bs i x n (rw (← is) at lt) read)

-- a leaf has no children, a branch one for each entry
pub leaf_fills : {K V : Type 0} (b : Bool) (ks : List K) (vs : List V) (cs : List (Subtree K V)) (s : Subtree K V) → IsNode b ks vs cs → subtree_of b ks vs cs ≡ s → s.is_branch ≡ false → s.fills ≡ []
leaf_fills b ks vs cs s n is e = sym (same_fills is) ∙ ap (map fill_of) (leaf_same b ks vs cs (same_kind is ∙ e) n).0

pub length-fills : {K V : Type 0} (b : Bool) (ks : List K) (vs : List V) (cs : List (Subtree K V)) (s : Subtree K V) → IsNode b ks vs cs → subtree_of b ks vs cs ≡ s → s.is_branch ≡ true → length s.fills ≡ length s.parts
length-fills false ks vs cs s n is e = absurd (let kind = same_kind is in cc)
length-fills true ks vs cs s n is e = rw (← is) (length-map cs fill_of ∙ sym (length-map cs rows))
