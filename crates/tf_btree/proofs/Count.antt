-- The invariant of a tree after an edit of its rows.
use Rattle.tf_btree.proofs.Words.{◌≡◌, ℕ, ◌+◌, ◌-◌, Option, Some, is_some, true, cond, sym, ◌∙◌, ap, arith, IsTotalOrder, Box, Ordering, Subtree, rows, value_at, with_row, without_row, rows_under, IsRoot, IsRootIfAny, IsTree}
use Rattle.tf_btree.proofs.Order.{rising-with_row, rising-without_row, length-with_row, length-without_row}

module _ {K V A : Type 0} (cmp : K → K → Ordering) (total : IsTotalOrder cmp) where
  pub tree_with : (root new : Box (Subtree K V) A) (n m : ℕ) (k : K) (v : V) → IsTree cmp (Some root) n → rows new.value ≡ with_row cmp k v (rows root.value) → IsRoot new.value
      → m ≡ n + cond (is_some (value_at cmp k (rows root.value))) 0 1 → IsTree cmp (Some new) m
  tree_with root new n m k v h all shape count = record {
    rising = rw all (rising-with_row cmp total k v (rows root.value) h.rising);
    counted = rw all (count ∙ ap (λ (l : ℕ). l + cond (is_some (value_at cmp k (rows root.value))) 0 1) h.counted ∙ sym (length-with_row cmp total k v (rows root.value) h.rising));
    shape = shape;
  }

  pub tree_without : (old new : Option (Box (Subtree K V) A)) (n m : ℕ) (k : K) → IsTree cmp old n → rows_under new ≡ without_row cmp k (rows_under old) → IsRootIfAny new
      → m + cond (is_some (value_at cmp k (rows_under old))) 1 0 ≡ n → IsTree cmp new m
  tree_without old new n m k h all shape count = record {
    rising = rw all (rising-without_row cmp total k (rows_under old) h.rising);
    counted = rw all (let e = length-without_row cmp total k (rows_under old) h.rising in let f = h.counted in omega arith);
    shape = shape;
  }

  -- a row that was removed was counted
  pub counted_row : (old : Option (Box (Subtree K V) A)) (n : ℕ) (k : K) (o : Option V) → IsTree cmp old n → o ≡ value_at cmp k (rows_under old) → is_some o ≡ true → (n - 1) + cond (is_some (value_at cmp k (rows_under old))) 1 0 ≡ n
  counted_row old n k o h e s = let all = rw (← e, s) at (length-without_row cmp total k (rows_under old) h.rising) in let many = h.counted in rw (← e, s) (omega arith)
