-- Room for entries, before and after an edit of a run.
use Rattle.tf_btree.proofs.Words.{◌≡◌, ℕ, ◌+◌, ◌<◌, ◌≤◌, List, ◌++◌, length, take, drop, insert, Bool, true, false, arith, length-take, length-drop, length-insert, length-append}

pub le_same : (m : ℕ) → m ≤ m
le_same m = omega arith

pub le_from : (m n : ℕ) → n ≡ m → m ≤ n
le_from m n e = omega arith

pub take_fits : {X : Type 0} (xs : List X) (n m : ℕ) → length xs ≤ m → length (take n xs) ≤ m
take_fits xs n m fits = omega (arith, length-take n xs)

pub drop_fits : {X : Type 0} (xs : List X) (n m : ℕ) → length xs ≤ m → length (drop n xs) ≤ m
drop_fits xs n m fits = omega (arith, length-drop n xs)

pub insert_fits : {X : Type 0} (xs : List X) (i : ℕ) (x : X) (n m : ℕ) → n ≡ length xs → i ≤ n → n < m → length (insert xs i x) ≤ m
insert_fits xs i x n m long le room = omega (arith, length-insert xs i x (omega arith))

pub insert_same : {X Y : Type 0} (xs : List X) (us : List Y) (i : ℕ) (x : X) (u : Y) (n : ℕ) → n ≡ length xs → i ≤ n → length xs ≡ length us → length (insert xs i x) ≡ length (insert us i u)
insert_same xs us i x u n long le same = omega (arith, length-insert xs i x (omega arith), length-insert us i u (omega arith))

pub append_fits : {X : Type 0} (xs ys : List X) (j k m : ℕ) → j ≡ length xs → k ≡ length ys → j + k ≤ m → length (xs ++ ys) ≤ m
append_fits xs ys j k m long longer room = omega (arith, length-append xs ys)

pub append_same : {X Y : Type 0} (xs ys : List X) (us vs : List Y) → length xs ≡ length us → length ys ≡ length vs → length (xs ++ ys) ≡ length (us ++ vs)
append_same xs ys us vs e f = omega (arith, length-append xs ys, length-append us vs)

-- a node is of one kind
pub other_kind : (b : Bool) (Y : Type 0) → b ≡ true → b ≡ false → Y
other_kind b Y e f = absurd (cc)
