-- Lists of lists: where an entry's rows lie among all.
use Rattle.tf_btree.proofs.Words.{◌≡◌, ℕ, zero, suc, ◌-◌, ◌<◌, ◌≤◌, List, [], ◌∷◌, ◌++◌, length, take, drop, set, get_or, refl, sym, ◌∙◌, ap, arith, append_assoc, set_split, take-append-drop, length-take-le, insert-append_left, insert-append_right, joined}
use Rattle.std.specs.List.{insert, remove}

pub joined-append : {X : Type 0} (ps qs : List (List X)) → joined (ps ++ qs) ≡ joined ps ++ joined qs
joined-append [] qs = refl
joined-append (p ∷ ps) qs = ap (λ r. p ++ r) (joined-append ps qs) ∙ sym (append_assoc p (joined ps) (joined qs))

-- the rows before an entry, its own, and those behind it
pub joined_split : {X : Type 0} (ps : List (List X)) (i : ℕ) (d : List X) → i < length ps → joined ps ≡ joined (take i ps) ++ (get_or ps i d ++ joined (drop (suc i) ps))
joined_split [] i d lt = absurd (omega arith)
joined_split (p ∷ ps) zero d lt = refl
joined_split (p ∷ ps) (suc i) d lt = ap (λ r. p ++ r) (joined_split ps i d (omega arith)) ∙ sym (append_assoc p (joined (take i ps)) _)

pub joined-take-drop : {X : Type 0} (i : ℕ) (ps : List (List X)) → joined ps ≡ joined (take i ps) ++ joined (drop i ps)
joined-take-drop zero ps = refl
joined-take-drop (suc i) [] = refl
joined-take-drop (suc i) (p ∷ ps) = ap (λ r. p ++ r) (joined-take-drop i ps) ∙ sym (append_assoc p (joined (take i ps)) _)

-- the same with other rows in an entry
pub joined-set : {X : Type 0} (ps : List (List X)) (i : ℕ) (p : List X) → i < length ps → joined (set ps i p) ≡ joined (take i ps) ++ (p ++ joined (drop (suc i) ps))
joined-set ps i p lt = ap joined (set_split ps i p lt) ∙ joined-append (take i ps) (p ∷ drop (suc i) ps)

pub joined-insert : {X : Type 0} (ps : List (List X)) (i : ℕ) (p : List X) → joined (insert ps i p) ≡ joined (take i ps) ++ (p ++ joined (drop i ps))
joined-insert ps i p = joined-append (take i ps) (p ∷ drop i ps)

pub joined-remove : {X : Type 0} (ps : List (List X)) (i : ℕ) → joined (remove ps i) ≡ joined (take i ps) ++ joined (drop (suc i) ps)
joined-remove ps i = joined-append (take i ps) (drop (suc i) ps)

-- a list with one more in the first of two parts, or in the second
pub insert_left : {X : Type 0} (xs : List X) (m i : ℕ) (x : X) → i ≤ m → m ≤ length xs → insert (take m xs) i x ++ drop m xs ≡ insert xs i x
insert_left {X} xs m i x le within = let long = length-take-le m xs within in sym (insert-append_left (take m xs) (drop m xs) i x (omega arith)) ∙ ap (λ (ys : List X). insert ys i x) (take-append-drop m xs)

pub insert_right : {X : Type 0} (xs : List X) (m i : ℕ) (x : X) → m ≤ i → m ≤ length xs → take m xs ++ insert (drop m xs) (i - m) x ≡ insert xs i x
insert_right {X} xs m i x le within = sym (insert-append_right (take m xs) (drop m xs) m i x (length-take-le m xs within) le) ∙ ap (λ (ys : List X). insert ys i x) (take-append-drop m xs)

pub joined-insert_none : {X : Type 0} (ps : List (List X)) (i : ℕ) → joined (insert ps i []) ≡ joined ps
joined-insert_none ps i = joined-insert ps i [] ∙ sym (joined-take-drop i ps)
