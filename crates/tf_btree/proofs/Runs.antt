-- What an edit of a node's runs makes of its entries.
use Rattle.tf_btree.proofs.Words.{◌≡◌, ℕ, zero, suc, ◌<◌, List, [], ◌∷◌, ◌++◌, length, map, take, drop, set, get_or, Some, false, refl, sym, ap, subst, arith, length-append, length-take, length-drop, Subtree, pairs, IsNode, first_key, single_rows, IsChild, AllChildren, height_over}
use Rattle.std.specs.List.{insert, remove}

pub single_rows-append : {K V : Type 0} (ks ls : List K) (vs ws : List V) → length ks ≡ length vs → single_rows (ks ++ ls) (vs ++ ws) ≡ single_rows ks vs ++ single_rows ls ws
single_rows-append [] ls [] ws e = refl
single_rows-append [] ls (v ∷ vs) ws e = absurd (omega arith)
single_rows-append (k ∷ ks) ls [] ws e = absurd (omega arith)
single_rows-append (k ∷ ks) ls (v ∷ vs) ws e = ap (λ xs. ((k, v) ∷ []) ∷ xs) (single_rows-append ks ls vs ws (omega arith))

pub length-single_rows : {K V : Type 0} (ks : List K) (vs : List V) → length ks ≡ length vs → length (single_rows ks vs) ≡ length ks
length-single_rows [] vs e = refl
length-single_rows (k ∷ ks) [] e = absurd (omega arith)
length-single_rows (k ∷ ks) (v ∷ vs) e = ap suc (length-single_rows ks vs (omega arith))

pub length-pairs : {K V : Type 0} (ks : List K) (vs : List V) → length ks ≡ length vs → length (pairs ks vs) ≡ length ks
length-pairs [] vs e = refl
length-pairs (k ∷ ks) [] e = absurd (omega arith)
length-pairs (k ∷ ks) (v ∷ vs) e = ap suc (length-pairs ks vs (omega arith))

pub length_insert_pos : {X : Type 0} (xs : List X) (i : ℕ) (x : X) → 0 < length (insert xs i x)
length_insert_pos xs i x = omega (arith, length-append (take i xs) (x ∷ drop i xs))

pub take-single_rows : {K V : Type 0} (n : ℕ) (ks : List K) (vs : List V) → single_rows (take n ks) (take n vs) ≡ take n (single_rows ks vs)
take-single_rows zero ks vs = refl
take-single_rows (suc n) [] vs = refl
take-single_rows (suc n) (k ∷ ks) [] = refl
take-single_rows (suc n) (k ∷ ks) (v ∷ vs) = ap (λ xs. ((k, v) ∷ []) ∷ xs) (take-single_rows n ks vs)

single_rows-none : {K V : Type 0} (ks : List K) → single_rows {V = V} ks [] ≡ []
single_rows-none [] = refl
single_rows-none (k ∷ ks) = refl

pub drop-single_rows : {K V : Type 0} (n : ℕ) (ks : List K) (vs : List V) → single_rows (drop n ks) (drop n vs) ≡ drop n (single_rows ks vs)
drop-single_rows zero ks vs = refl
drop-single_rows (suc n) [] vs = refl
drop-single_rows (suc n) (k ∷ ks) [] = single_rows-none (drop n ks)
drop-single_rows (suc n) (k ∷ ks) (v ∷ vs) = drop-single_rows n ks vs

pub single_rows-first : {K V : Type 0} (ks : List K) (vs : List V) → length ks ≡ length vs → map Some ks ≡ map first_key (single_rows ks vs)
single_rows-first [] vs e = refl
single_rows-first (k ∷ ks) [] e = absurd (omega arith)
single_rows-first (k ∷ ks) (v ∷ vs) e = ap (λ xs. Some k ∷ xs) (single_rows-first ks vs (omega arith))

pub same_take : {X Y : Type 0} (n : ℕ) (xs : List X) (ys : List Y) → length xs ≡ length ys → length (take n xs) ≡ length (take n ys)
same_take n xs ys e = omega (arith, length-take n xs, length-take n ys)

pub same_drop : {X Y : Type 0} (n : ℕ) (xs : List X) (ys : List Y) → length xs ≡ length ys → length (drop n xs) ≡ length (drop n ys)
same_drop n xs ys e = omega (arith, length-drop n xs, length-drop n ys)

pub insert-single_rows : {K V : Type 0} (ks : List K) (vs : List V) (i : ℕ) (k : K) (v : V) → length ks ≡ length vs → single_rows (insert ks i k) (insert vs i v) ≡ insert (single_rows ks vs) i ((k, v) ∷ [])
insert-single_rows ks vs i k v e =
    let front = single_rows-append (take i ks) (k ∷ drop i ks) (take i vs) (v ∷ drop i vs) (same_take i ks vs e) in
    let a = take-single_rows i ks vs in
    let b = drop-single_rows i ks vs in
    cc

pub remove-single_rows : {K V : Type 0} (ks : List K) (vs : List V) (i : ℕ) → length ks ≡ length vs → single_rows (remove ks i) (remove vs i) ≡ remove (single_rows ks vs) i
remove-single_rows ks vs i e =
    let front = single_rows-append (take i ks) (drop (suc i) ks) (take i vs) (drop (suc i) vs) (same_take i ks vs e) in
    let a = take-single_rows i ks vs in
    let b = drop-single_rows (suc i) ks vs in
    cc

pub set-single_rows : {K V : Type 0} (ks : List K) (vs : List V) (i : ℕ) (k : K) (v : V) → length ks ≡ length vs → single_rows (set ks i k) (set vs i v) ≡ set (single_rows ks vs) i ((k, v) ∷ [])
set-single_rows [] [] i k v e = refl
set-single_rows [] (y ∷ vs) i k v e = absurd (omega arith)
set-single_rows (x ∷ ks) [] i k v e = absurd (omega arith)
set-single_rows (x ∷ ks) (y ∷ vs) zero k v e = refl
set-single_rows (x ∷ ks) (y ∷ vs) (suc i) k v e = ap (λ r. ((x, y) ∷ []) ∷ r) (set-single_rows ks vs i k v (omega arith))

pub single_is : {K V : Type 0} (ks : List K) (vs : List V) (i : ℕ) (d : K) (e : V) → length ks ≡ length vs → i < length ks → get_or (single_rows ks vs) i [] ≡ (get_or ks i d, get_or vs i e) ∷ []
single_is [] vs i d e same lt = absurd (omega arith)
single_is (k ∷ ks) [] i d e same lt = absurd (omega arith)
single_is (k ∷ ks) (v ∷ vs) zero d e same lt = refl
single_is (k ∷ ks) (v ∷ vs) (suc i) d e same lt = single_is ks vs i d e (omega arith) (omega arith)

pub AllChildren-append : {K V : Type 0} (h : ℕ) (cs ds : List (Subtree K V)) → AllChildren h cs → AllChildren h ds → AllChildren h (cs ++ ds)
AllChildren-append h [] ds a b = b
AllChildren-append h (c ∷ cs) ds a b = (a.0, AllChildren-append h cs ds a.1 b)

pub AllChildren-take : {K V : Type 0} (h n : ℕ) (cs : List (Subtree K V)) → AllChildren h cs → AllChildren h (take n cs)
AllChildren-take h zero cs a = tt
AllChildren-take h (suc n) [] a = tt
AllChildren-take h (suc n) (c ∷ cs) a = (a.0, AllChildren-take h n cs a.1)

pub AllChildren-drop : {K V : Type 0} (h n : ℕ) (cs : List (Subtree K V)) → AllChildren h cs → AllChildren h (drop n cs)
AllChildren-drop h zero cs a = a
AllChildren-drop h (suc n) [] a = tt
AllChildren-drop h (suc n) (c ∷ cs) a = AllChildren-drop h n cs a.1

pub AllChildren-insert : {K V : Type 0} (h : ℕ) (cs : List (Subtree K V)) (i : ℕ) (c : Subtree K V) → AllChildren h cs → IsChild h c → AllChildren h (insert cs i c)
AllChildren-insert h cs i c a e = AllChildren-append h (take i cs) (c ∷ drop i cs) (AllChildren-take h i cs a) (e, AllChildren-drop h i cs a)

pub AllChildren-remove : {K V : Type 0} (h : ℕ) (cs : List (Subtree K V)) (i : ℕ) → AllChildren h cs → AllChildren h (remove cs i)
AllChildren-remove h cs i a = AllChildren-append h (take i cs) (drop (suc i) cs) (AllChildren-take h i cs a) (AllChildren-drop h (suc i) cs a)

pub AllChildren-set : {K V : Type 0} (h : ℕ) (cs : List (Subtree K V)) (i : ℕ) (c : Subtree K V) → AllChildren h cs → IsChild h c → AllChildren h (set cs i c)
AllChildren-set h [] i c a e = tt
AllChildren-set h (x ∷ cs) zero c a e = (e, a.1)
AllChildren-set h (x ∷ cs) (suc i) c a e = (a.0, AllChildren-set h cs i c a.1 e)

pub AllChildren-get_or : {K V : Type 0} (h : ℕ) (cs : List (Subtree K V)) (i : ℕ) (d : Subtree K V) → AllChildren h cs → i < length cs → suc (get_or cs i d).height ≡ h
AllChildren-get_or h [] i d a lt = absurd (omega arith)
AllChildren-get_or h (c ∷ cs) zero d a lt = a.0.level
AllChildren-get_or h (c ∷ cs) (suc i) d a lt = AllChildren-get_or h cs i d a.1 (omega arith)

-- children have that height over them, unless there is none
pub height_over-high : {K V : Type 0} (h : ℕ) (cs : List (Subtree K V)) → AllChildren h cs → 0 < length cs → height_over cs ≡ h
height_over-high h [] a some = absurd (omega arith)
height_over-high h (c ∷ cs) a some = a.0.level

-- so any such list is high by its own measure
pub AllChildren-own : {K V : Type 0} (h : ℕ) (cs : List (Subtree K V)) → AllChildren h cs → AllChildren (height_over cs) cs
AllChildren-own h [] a = tt
AllChildren-own h (c ∷ cs) a = subst (λ (m : ℕ). AllChildren m (c ∷ cs)) (sym a.0.level) a

-- a value for each key makes a leaf
pub leaf_node : {K V : Type 0} (ks : List K) (vs : List V) (cs : List (Subtree K V)) → cs ≡ [] → length ks ≡ length vs → IsNode false ks vs cs
leaf_node ks vs cs none same = record { kind = (none, same); first_keys = single_rows-first ks vs same }

-- what an entry with one row gives, read in two ways
pub entry_value : {K V : Type 0} (p : List (K × V)) (r : K × V) (q : K) (w : V) → p ≡ r ∷ [] → p ≡ (q, w) ∷ [] → r.1 ≡ w
entry_value p r q w read here = let both : r ≡ (q, w) = cc in ap (λ s. s.1) both
