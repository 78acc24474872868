-- What an edit at the root leaves.
use Rattle.tf_btree.proofs.Words.{◌≡◌, ◌≢◌, ℕ, suc, refl, ◌<◌, ◌≤◌, List, [], ◌∷◌, ◌++◌, length, Some, None, true, false, Option, Result, sym, ◌∙◌, ap, subst, arith, insert, append-nil, Box, Ordering, IsFilled, AllFilled, Fill, capacity, Subtree, joined, rows, fill_of, empty_node, IsParted, IsFilledWith, rows_behind, IsRoot, IsRootIfAny, IsTree, IsChildAt, one_more, get_or, drop_all, nil_from_length}
use Rattle.tf_btree.specs.Inserted.{IsInsert, KeepsLevel}
use Rattle.tf_btree.proofs.Entries.{same_parts, same_fills}
use Rattle.tf_btree.proofs.Filled.{filled_cons, filled_put}
use Rattle.tf_btree.proofs.Parts.{joined_split}

-- an empty branch has room, and no height of its own
pub empty_fits : {K V : Type 0} (top : Subtree K V) → top ≡ empty_node true → length top.parts < capacity
empty_fits top e = omega (arith, ap length (same_parts e))

pub empty_any : {K V : Type 0} (top : Subtree K V) (X : Type 0) → top ≡ empty_node true → 0 < length top.parts → X
empty_any top X e some = absurd (omega (arith, ap length (same_parts e)))

module _ {K V : Type 0} (top mid left : Subtree K V) (empty : top ≡ empty_node true)
    (first : mid ≡ record { is_branch = true; height = suc left.height; parts = insert top.parts 0 (rows left); fills = insert top.fills 0 (fill_of left) }) where
  one_part : mid.parts ≡ rows left ∷ []
  one_part = same_parts first ∙ ap (λ (ps : List (List (K × V))). insert ps 0 (rows left)) (same_parts empty)

  one_fill : mid.fills ≡ fill_of left ∷ []
  one_fill = same_fills first ∙ ap (λ (fs : List Fill). insert fs 0 (fill_of left)) (same_fills empty)

  -- with one child it has room for one more
  pub raised_some : 1 ≤ length mid.parts
  raised_some = omega (arith, ap length one_part)

  pub raised_fits : length mid.parts < capacity
  raised_fits = omega (arith, ap length one_part)

  module _ (new right : Subtree K V) (second : new ≡ record { is_branch = true; height = suc right.height; parts = insert mid.parts 1 (rows right); fills = insert mid.fills 1 (fill_of right) }) where
    two_parts : new.parts ≡ rows left ∷ rows right ∷ []
    two_parts = same_parts second ∙ ap (λ (ps : List (List (K × V))). insert ps 1 (rows right)) one_part

    two_fills : new.fills ≡ fill_of left ∷ fill_of right ∷ []
    two_fills = same_fills second ∙ ap (λ (fs : List Fill). insert fs 1 (fill_of right)) one_fill

    -- and with two it is a root over them
    pub raised_rows : rows new ≡ rows left ++ rows right
    raised_rows = ap joined two_parts ∙ ap (λ (r : List (K × V)). rows left ++ r) (append-nil (rows right))

    pub raised_root : IsFilled false (fill_of left) → IsFilled true (fill_of right) → IsRoot new
    raised_root f g = record {
      some = omega (arith, ap length two_parts);
      two = λ _. omega (arith, ap length two_parts);
      filled = record {
        half = λ e. absurd (cc);
        below = subst (λ (fs : List Fill). AllFilled true fs) (sym two_fills) (filled_cons true (fill_of left) (fill_of right ∷ []) f (filled_put true (fill_of right) [] g tt));
      };
    }

-- a root that wasn't split
module _ {K V A : Type 0} (old new : Subtree K V) (right : Option (Box (Subtree K V) A)) (none : right ≡ None) where
  pub whole_insert : {E : Type 0} (cmp : K → K → Ordering) (k : K) (v : V) (before : List (K × V)) (result : Result (Option V) E) → IsInsert cmp k v before result (rows new ++ rows_behind right) → IsInsert cmp k v before result (rows new)
  whole_insert {E} cmp k v before result h = subst (λ (r : List (K × V)). IsInsert cmp k v before result r) (ap (λ (o : Option (Box (Subtree K V) A)). rows new ++ rows_behind o) none ∙ append-nil (rows new)) h

  pub whole_root : IsRoot old → IsParted old new right → (IsFilled true (fill_of old) → IsFilledWith true new right) → IsRoot new
  whole_root r p f =
      let many : length old.parts ≤ length new.parts = rw none at p.entries in
      record {
        some = p.level.some;
        two = λ b. let n = r.two (sym p.level.kind ∙ b) in omega arith;
        filled = rw none at (f r.filled);
      }

-- a root that was split, with its second part in a box
module _ {K V A : Type 0} (old new : Subtree K V) (right : Option (Box (Subtree K V) A)) (b : Box (Subtree K V) A) (some : right ≡ Some b) where
  pub split_full : IsParted old new right → capacity ≤ length old.parts
  split_full p = p.full (rw some refl)

  pub split_some : IsParted old new right → 0 < length b.value.parts
  split_some p = let h = rw some at p.behind in h.some

  pub split_level : IsParted old new right → b.value.height ≡ new.height
  split_level p = let h = rw some at p.behind in h.height ∙ sym p.level.height

  pub split_filled : IsRoot old → (IsFilled true (fill_of old) → IsFilledWith true new right) → IsFilled false (fill_of new) × IsFilled true (fill_of b.value)
  split_filled r f = rw some at (f r.filled)

  pub split_insert : {E : Type 0} (cmp : K → K → Ordering) (k : K) (v : V) (before after : List (K × V)) (result : Result (Option V) E) → IsInsert cmp k v before result (rows new ++ rows_behind right) → after ≡ rows new ++ rows b.value → IsInsert cmp k v before result after
  split_insert {E} cmp k v before after result h all = subst (λ (r : List (K × V)). IsInsert cmp k v before result r) (ap (λ (o : Option (Box (Subtree K V) A)). rows new ++ rows_behind o) some ∙ sym all) h

pub not_both : {X : Type 0} {o : Option X} {x : X} (Y : Type 0) → o ≡ None → o ≡ Some x → Y
not_both {X} {o} {x} Y n s = absurd (let t : None ≡ Some x = sym n ∙ s in cc)

-- a root that changed in place
pub kept_root : {K V : Type 0} (old new : Subtree K V) → IsRoot old → KeepsLevel old new → length old.parts ≤ length new.parts → (IsFilled true (fill_of old) → IsFilled true (fill_of new)) → IsRoot new
kept_root old new r level many f = record {
  some = level.some;
  two = λ b. let n = r.two (sym level.kind ∙ b) in omega arith;
  filled = f r.filled;
}

-- a root that may be absent
pub under_root : {K V A : Type 0} (o : Option (Box (Subtree K V) A)) (b : Box (Subtree K V) A) → o ≡ Some b → IsRootIfAny o → IsRoot b.value
under_root o b e h = rw e at h

pub edge_less : (f : Fill) → IsFilled true (one_more f) → IsFilled true f
edge_less f h = record { half = λ e. absurd (cc); below = h.below }

pub some_left : {K V : Type 0} (n : ℕ) (s t : Subtree K V) → n ≡ length s.parts → s ≡ t → n ≢ 0 → 0 < length t.parts
some_left n s t e same ne = omega (arith, ap length (same_parts same))

pub none_left : {K V : Type 0} (n : ℕ) (s t : Subtree K V) → n ≡ length s.parts → s ≡ t → n ≡ 0 → rows t ≡ []
none_left n s t e same z = ap joined (nil_from_length t.parts (sym (ap length (same_parts same)) ∙ sym e ∙ z))

-- a root with one child has its rows
pub only_child : {K V : Type 0} (s child : Subtree K V) → IsChildAt s 0 child → length s.parts ≡ 1 → rows child ≡ rows s
only_child {K} {V} s child at one =
    sym (joined_split s.parts 0 [] (omega arith) ∙ ap (λ (d : List (List (K × V))). get_or s.parts 0 [] ++ joined d) (drop_all 1 s.parts (omega arith)) ∙ append-nil (get_or s.parts 0 []) ∙ at.entry)

-- a tree whose root stays
pub tree_kept : {K V A : Type 0} (cmp : K → K → Ordering) (root new : Box (Subtree K V) A) (n : ℕ) → IsTree cmp (Some root) n → new.value ≡ root.value → IsTree cmp (Some new) n
tree_kept cmp root new n h same = record { rising = rw same h.rising; counted = rw same h.counted; shape = rw same h.shape }
