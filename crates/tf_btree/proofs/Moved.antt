-- An entry moved to a neighbour: how many entries are where.
use Rattle.tf_btree.proofs.Words.{◌≡◌, ℕ, ◌+◌, ◌-◌, ◌<◌, ◌≤◌, List, length, arith, insert, remove, length-insert, length-remove}

pub last_place : (m n : ℕ) → m ≡ n → 1 < n → m - 1 < n
last_place m n e more = omega arith

pub first_place : (n : ℕ) → 1 < n → 0 < n
first_place n more = omega arith

pub end_place : (m n : ℕ) → m ≡ n → m ≤ n
end_place m n e = omega arith

module _ {X : Type 0} (ps qs : List X) (i : ℕ) where
  pub removed_some : qs ≡ remove ps i → i < length ps → 1 < length ps → 0 < length qs
  removed_some e lt more = rw e (omega (arith, length-remove ps i lt))

  pub removed_fewer : qs ≡ remove ps i → i < length ps → length qs + 1 ≡ length ps
  removed_fewer e lt = rw e (omega (arith, length-remove ps i lt))

  pub inserted_more : (x : X) → qs ≡ insert ps i x → i ≤ length ps → length qs ≡ length ps + 1
  inserted_more x e le = rw e (omega (arith, length-insert ps i x le))

pub some_more : (m n : ℕ) → m ≡ n + 1 → 0 < m
some_more m n e = omega arith
