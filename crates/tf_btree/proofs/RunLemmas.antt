-- Runs of rows: the first rows from a key on, and what follows them.
use Rattle.tf_btree.proofs.Words.{◌≡◌, ℕ, suc, ◌+◌, ◌-◌, ◌<◌, ◌≤◌, List, [], ◌∷◌, ◌++◌, length, take, drop, get_or, Some, None, Option, IsSome, Bool, true, false, refl, sym, ◌∙◌, ap, subst, arith, inl, inr, append_assoc, IsTotalOrder, option_or, Ordering, Equal, is_lt, cases_lt, append-nil}
use Rattle.tf_btree.proofs.Words.{length-drop, tied_itself, Subtree, joined, rows, first_key, subtree_of, IsNode, IsRising, rows_from, value_at, IsBelow, pairs, rows_of, AllLeaves, IsRunFrom, rows_after, IsKeyOf}
use Rattle.tf_btree.proofs.Runs.{same_drop}
use Rattle.tf_btree.proofs.Entries.{leaf_same}
use Rattle.tf_btree.proofs.Order.{IsRising-right, rising_across, beyond_after, from-among, value_at-at, from_before_all, rows_from_all}
use Rattle.tf_btree.proofs.Placed.{node_from, node_gap, rows_high, value_gap}
use Rattle.tf_btree.proofs.Parts.{joined_split}

module _ {K V : Type 0} (cmp : K → K → Ordering) (total : IsTotalOrder cmp) (k : K) (b : Bool) (ks : List K) (vs : List V) (cs : List (Subtree K V)) (s : Subtree K V) (node : IsNode b ks vs cs) (is : subtree_of b ks vs cs ≡ s) (leaf : b ≡ false) (rising : IsRising cmp (rows s))
    (n : ℕ) (le : n ≤ length ks) (before : (d : K) → 0 < n → is_lt (cmp (get_or ks (n - 1) d) k) ≡ true) (after : (d : K) → n < length ks → is_lt (cmp (get_or ks n d) k) ≡ false) where
  pub leaf_run_from : IsRunFrom cmp k (rows s) (drop n ks) (drop n vs) [] None
  leaf_run_from = record {
    same = same_drop n ks vs (leaf_same b ks vs cs leaf node).1;
    filled = tt;
    front = rows s;
    back = [];
    split = sym (append-nil (rows s));
    begins = refl;
    all = node_from cmp total k b ks vs cs s node is rising leaf n before le after ∙ sym (append-nil (pairs (drop n ks) (drop n vs))) ∙ sym (append-nil (pairs (drop n ks) (drop n vs) ++ []));
  }

  pub leaf_run_some : IsSome (value_at cmp k (rows s)) → 0 < length (drop n ks)
  leaf_run_some some = elim (cases_lt n (length ks)) [
    | inl lt ↦ omega (arith, length-drop n ks)
    | inr ge ↦ absurd (
        let none = value_gap cmp k s.parts n (node_gap cmp total k b ks vs cs s node is rising leaf n before le (λ lt. absurd (omega arith))) in
        let t : false ≡ true = rw none at some in cc)
  ]

first_key-or : {K V : Type 0} (p r : List (K × V)) → first_key (p ++ r) ≡ option_or (first_key p) (first_key r)
first_key-or [] r = refl
first_key-or (x ∷ p) r = refl

-- a run of a child is one of its branch, with what follows in the branch behind it
pub branch_run : {K V : Type 0} (cmp : K → K → Ordering) (k : K) (ps : List (List (K × V))) (i : ℕ) (p : List (K × V)) (ks : List K) (vs : List V) (leaves : List (Subtree K V)) (next behind : Option K) → IsBelow cmp k ps i → get_or ps i [] ≡ p
    → IsRunFrom cmp k p ks vs leaves next → first_key (joined (drop (i + 1) ps)) ≡ behind → IsRunFrom cmp k (joined ps) ks vs leaves (option_or next behind)
branch_run {K} {V} cmp k ps i p ks vs leaves next behind h entry run last =
    let c = joined (drop (suc i) ps) in
    let at : i + 1 ≡ suc i = omega arith in
    let last' : first_key c ≡ behind = subst (λ (j : ℕ). first_key (joined (drop j ps)) ≡ behind) at last in
    let split : joined ps ≡ joined (take i ps) ++ (p ++ c) = joined_split ps i [] h.in_range ∙ ap (λ (r : List (K × V)). joined (take i ps) ++ (r ++ c)) entry in
    record {
      same = run.same;
      filled = run.filled;
      front = joined (take i ps) ++ run.front;
      back = run.back ++ c;
      split = split ∙ ap (λ (r : List (K × V)). joined (take i ps) ++ (r ++ c)) run.split ∙ ap (λ (r : List (K × V)). joined (take i ps) ++ r) (append_assoc run.front run.back c) ∙ sym (append_assoc (joined (take i ps)) run.front (run.back ++ c));
      begins = first_key-or run.back c ∙ ap (λ (o : Option K). option_or o (first_key c)) run.begins ∙ ap (λ (o : Option K). option_or next o) last';
      all = ap (λ (r : List (K × V)). rows_from cmp k r) split ∙ from-among cmp k (joined (take i ps)) p c h.among ∙ ap (λ (r : List (K × V)). r ++ c) run.all ∙ append_assoc (pairs ks vs ++ rows_of leaves) run.back c;
    }

nothing_behind : {K V : Type 0} (d : List (K × V)) → first_key d ≡ None → d ≡ []
nothing_behind [] e = refl
nothing_behind (y ∷ ys) e = absurd (let n : Some y.0 ≡ None = e in cc)

-- a run of a leaf is one of the branch over it, with the leaves behind it
pub bottom_run : {K V : Type 0} (cmp : K → K → Ordering) (k : K) (ps : List (List (K × V))) (i : ℕ) (p : List (K × V)) (ks : List K) (vs : List V) (leaves : List (Subtree K V)) → IsBelow cmp k ps i → get_or ps i [] ≡ p
    → IsRunFrom cmp k p ks vs [] None → rows_of leaves ≡ joined (drop (i + 1) ps) → AllLeaves leaves → IsRunFrom cmp k (joined ps) ks vs leaves None
bottom_run {K} {V} cmp k ps i p ks vs leaves h entry run all filled =
    let c = joined (drop (suc i) ps) in
    let at : i + 1 ≡ suc i = omega arith in
    let behind : rows_of leaves ≡ c = subst (λ (j : ℕ). rows_of leaves ≡ joined (drop j ps)) at all in
    let split : joined ps ≡ joined (take i ps) ++ (p ++ c) = joined_split ps i [] h.in_range ∙ ap (λ (r : List (K × V)). joined (take i ps) ++ (r ++ c)) entry in
    let own : rows_from cmp k p ≡ pairs ks vs = run.all ∙ ap (λ (r : List (K × V)). (pairs ks vs ++ []) ++ r) (nothing_behind run.back run.begins) ∙ append-nil (pairs ks vs ++ []) ∙ append-nil (pairs ks vs) in
    record {
      same = run.same;
      filled = filled;
      front = joined ps;
      back = [];
      split = sym (append-nil (joined ps));
      begins = refl;
      all = ap (λ (r : List (K × V)). rows_from cmp k r) split ∙ from-among cmp k (joined (take i ps)) p c h.among ∙ ap (λ (r : List (K × V)). r ++ c) own ∙ ap (λ (r : List (K × V)). pairs ks vs ++ r) (sym behind) ∙ sym (append-nil (pairs ks vs ++ rows_of leaves));
    }

-- what lies behind a run: the rows from the next key on, which is one of theirs
pub behind_facts : {K V : Type 0} (cmp : K → K → Ordering) (total : IsTotalOrder cmp) (front back : List (K × V)) (next : Option K) → IsRising cmp (front ++ back) → first_key back ≡ next
    → (rows_after cmp next (front ++ back) ≡ back) × IsKeyOf cmp (front ++ back) next
behind_facts cmp total front [] None h e = (refl, tt)
behind_facts cmp total front [] (Some k) h e = absurd (let n : None ≡ Some k = e in cc)
behind_facts cmp total front (y ∷ ys) None h e = absurd (let n : Some y.0 ≡ None = e in cc)
behind_facts {K} {V} cmp total front (y ∷ ys) (Some k) h e =
    let key : Some y.0 ≡ Some k = e in
    let same : y.0 ≡ k = cc in
    let before = rising_across cmp front (y ∷ ys) k h e in
    let right = IsRising-right cmp front (y ∷ ys) h in
    let tied : cmp k k ≡ Equal = tied_itself total k in
    let equal : cmp y.0 k ≡ Equal = subst (λ (q : K). cmp q k ≡ Equal) (sym same) tied in
    let upto : is_lt (cmp k k) ≡ false = rw tied refl in
    let at = value_at-at cmp k y.0 y.1 front ys (record { before = before; beyond = beyond_after cmp total y.0 k ys (rw equal refl) right.0 }) equal in (
      from_before_all cmp k front (y ∷ ys) before ∙ rows_from_all cmp k (y ∷ ys) (rows_high cmp total k k (y ∷ ys) right e upto),
      subst (λ (o : Option V). IsSome o) (sym at) refl,
    )

pub run_behind : {K V : Type 0} (cmp : K → K → Ordering) (total : IsTotalOrder cmp) (k : K) (all_rows : List (K × V)) (ks : List K) (vs : List V) (leaves : List (Subtree K V)) (next : Option K) (run : IsRunFrom cmp k all_rows ks vs leaves next) → IsRising cmp all_rows
    → (rows_from cmp k all_rows ≡ (pairs ks vs ++ rows_of leaves) ++ rows_after cmp next all_rows) × IsKeyOf cmp all_rows next
run_behind {K} {V} cmp total k all_rows ks vs leaves next run rising =
    let facts = behind_facts cmp total run.front run.back next (subst (λ (r : List (K × V)). IsRising cmp r) run.split rising) run.begins in (
      run.all ∙ ap (λ (r : List (K × V)). (pairs ks vs ++ rows_of leaves) ++ r) (sym facts.0 ∙ ap (λ (r : List (K × V)). rows_after cmp next r) (sym run.split)),
      subst (λ (r : List (K × V)). IsKeyOf cmp r next) (sym run.split) facts.1,
    )

-- from the first key on there are all rows
pub from_first : {K V : Type 0} (cmp : K → K → Ordering) (total : IsTotalOrder cmp) (k : K) (all_rows : List (K × V)) → IsRising cmp all_rows → first_key all_rows ≡ Some k → rows_from cmp k all_rows ≡ all_rows
from_first cmp total k all_rows rising e = (behind_facts cmp total [] all_rows (Some k) rising e).0
