-- The first row of a node, where an edit is behind it.
use Rattle.tf_btree.proofs.Words.{◌≡◌, ℕ, zero, suc, ◌<◌, ◌≤◌, List, [], ◌∷◌, length, set, get_or, Bool, true, Some, sym, refl, ◌∙◌, ap, subst, arith, Box, set-get_or, length-set, get_or-set_other, get_or-insert_below, IsFilled, edge_at, Subtree, IsChildAt, joined, rows, fill_of, first_key}
use Rattle.tf_btree.proofs.Words.{parts_of, subtree_of, unboxed, IsCounted, IsNode}
use Rattle.std.specs.List.{insert}
use Rattle.tf_btree.proofs.Entries.{same_parts, length-seen, get_or-first}
use Rattle.tf_btree.proofs.Filled.{filled_edited, filled_branch}
use Rattle.tf_btree.proofs.Children.{ChildPut, child_put, child_filled}

pub some_first : {K V : Type 0} (rows : List (K × V)) (k : K) → Some k ≡ first_key rows → 0 < length rows
some_first [] k e = absurd (cc)
some_first (r ∷ rows) k e = omega arith

first_of : {K V : Type 0} (b : Bool) (ks : List K) (vs : List V) (cs : List (Subtree K V)) → IsNode b ks vs cs → 0 < length ks → 0 < length (get_or (parts_of b ks vs cs) 0 [])
first_of b [] vs cs n lt = absurd (omega arith)
first_of b (k ∷ ks) vs cs n lt = some_first (get_or (parts_of b (k ∷ ks) vs cs) 0 []) (get_or (k ∷ ks) 0 k) (get_or-first (k ∷ ks) (parts_of b (k ∷ ks) vs cs) 0 k [] n.first_keys (omega arith))

-- the first entry has rows
pub first_part : {K V : Type 0} (b : Bool) (ks : List K) (vs : List V) (cs : List (Subtree K V)) (s : Subtree K V) → IsNode b ks vs cs → subtree_of b ks vs cs ≡ s → 0 < length s.parts → 0 < length (get_or s.parts 0 [])
first_part {K} {V} b ks vs cs s n is some =
    let long = length-seen b ks vs cs s n is in
    subst (λ (p : List (List (K × V))). 0 < length (get_or p 0 [])) (same_parts is) (first_of b ks vs cs n (omega arith))

first_joined : {K V : Type 0} (ps : List (List (K × V))) → 0 < length (get_or ps 0 []) → first_key (joined ps) ≡ first_key (get_or ps 0 [])
first_joined [] some = refl
first_joined ([] ∷ ps) some = absurd (omega arith)
first_joined ((r ∷ p) ∷ ps) some = refl

-- another entry behind the first one leaves the first row, and so does a further one
pub first-set : {K V : Type 0} (ps : List (List (K × V))) (i : ℕ) (p : List (K × V)) → 0 < i → 0 < length (get_or ps 0 []) → first_key (joined (set ps i p)) ≡ first_key (joined ps)
first-set ps i p lt some = let same = get_or-set_other ps i 0 p [] (omega arith) in first_joined (set ps i p) (rw same some) ∙ ap first_key same ∙ sym (first_joined ps some)

pub first-insert : {K V : Type 0} (ps : List (List (K × V))) (i : ℕ) (p : List (K × V)) → 0 < i → i ≤ length ps → 0 < length (get_or ps 0 []) → first_key (joined (insert ps i p)) ≡ first_key (joined ps)
first-insert ps i p lt within some = let same = get_or-insert_below ps i p [] 0 lt within in first_joined (insert ps i p) (rw same some) ∙ ap first_key same ∙ sym (first_joined ps some)

-- an entry that begins as the one before it did leaves the first row
pub first-set_same : {K V : Type 0} (ps : List (List (K × V))) (i : ℕ) (p : List (K × V)) → first_key p ≡ first_key (get_or ps i []) → i < length ps → 0 < length (get_or ps 0 []) → first_key (joined (set ps i p)) ≡ first_key (joined ps)
first-set_same [] i p e lt some = absurd (omega arith)
first-set_same ([] ∷ ps) i p e lt some = absurd (omega arith)
first-set_same ((r ∷ q) ∷ ps) (suc i) p e lt some = cc
first-set_same ((r ∷ q) ∷ ps) zero [] e lt some = absurd (cc)
first-set_same ((r ∷ q) ∷ ps) zero (t ∷ p) e lt some = cc

kept_key : {K V A : Type 0} (b : Bool) (ks : List K) (vs : List V) (bs : List (Box (Subtree K V) A)) (s : Subtree K V) (i : ℕ) (k : K) (child : Subtree K V) → IsNode b ks vs (unboxed bs) → subtree_of b ks vs (unboxed bs) ≡ s → i < length ks
    → get_or s.parts i [] ≡ rows child → first_key (rows child) ≡ Some (get_or ks i k)
kept_key {K} {V} b ks vs bs s i k child n is lt entry =
    sym (get_or-first ks (parts_of b ks vs (unboxed bs)) i k [] n.first_keys lt ∙ ap (λ (p : List (List (K × V))). first_key (get_or p i [])) (same_parts is) ∙ ap first_key entry)

-- a branch with a child edited that begins as before keeps its keys
pub child_kept : {K V A : Type 0} (b : Bool) (ks : List K) (vs : List V) (bs : List (Box (Subtree K V) A)) (s : Subtree K V) (i : ℕ) (y : Box (Subtree K V) A) (child : Subtree K V) → s.is_branch ≡ true → IsNode b ks vs (unboxed bs)
    → subtree_of b ks vs (unboxed bs) ≡ s → i < length s.parts → IsChildAt s i child → first_key (rows y.value) ≡ first_key (rows child) → y.value.height ≡ child.height → IsCounted y.value → ChildPut b ks vs (unboxed (set bs i y)) s i y.value
child_kept b [] vs bs s i y child e n is lt at first height counted = let long = length-seen b [] vs (unboxed bs) s n is in absurd (omega arith)
child_kept {K} {V} b (k ∷ ks) vs bs s i y child e n is lt at first height counted =
    let long = length-seen b (k ∷ ks) vs (unboxed bs) s n is in
    let within : i < length (k ∷ ks) = omega arith in
    let key = first ∙ kept_key b (k ∷ ks) vs bs s i k child n is within at.entry in
    let put = child_put b (k ∷ ks) vs bs s i (get_or (k ∷ ks) i k) y child e n is lt at key height counted in
    subst (λ (ls : List K). ChildPut b ls vs (unboxed (set bs i y)) s i y.value) (set-get_or (k ∷ ks) i k) put

-- and stays filled where the child does
pub kept_filled : {K V : Type 0} (edge : Bool) (old new : Subtree K V) (i : ℕ) (child f : Subtree K V) → IsChildAt old i child → i < length old.parts → new.parts ≡ set old.parts i (rows f) → new.fills ≡ set old.fills i (fill_of f)
    → ((e : Bool) → IsFilled e (fill_of child) → IsFilled e (fill_of f)) → IsFilled edge (fill_of old) → IsFilled edge (fill_of new)
kept_filled {K} {V} edge old new i child f at lt parts fills keeps filled =
    let done = keeps (edge_at edge old.fills i) (child_filled edge (edge_at edge old.fills i) old i child at lt refl filled.below) in
    let many : length new.parts ≡ length old.parts = ap length parts ∙ length-set old.parts i (rows f) in
    filled_branch edge new (set old.fills i (fill_of f)) fills (filled_edited edge old.fills i (fill_of f) (omega (arith, at.fills)) filled.below done) (λ off. let half = filled.half off in omega arith)
