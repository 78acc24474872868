-- A node whose entries were edited, with none less, and a branch with a child edited.
use Rattle.tf_btree.proofs.Words.{◌≡◌, ℕ, ◌≢◌, ◌<◌, ◌≤◌, List, length, Bool, true, false, sym, ◌∙◌, ap, subst, arith, set, insert, length-set, length-insert, capacity, Fill, AreFilled, IsFilled, Subtree, rows, fill_of, shape_of, length-map, Box, IsNode, parts_of, subtree_of, unbox, unboxed}
use Rattle.tf_btree.specs.Inserted.{KeepsLevel}
use Rattle.tf_btree.proofs.Entries.{same_kind, same_height, same_parts, same_fills, length-seen}

pub set_long : {X : Type 0} (ps : List X) (i : ℕ) (x : X) → length ps ≤ length (set ps i x)
set_long ps i x = omega (arith, length-set ps i x)

pub insert_long : {X : Type 0} (ps : List X) (i : ℕ) (x : X) → i ≤ length ps → length ps ≤ length (insert ps i x)
insert_long ps i x le = omega (arith, length-insert ps i x le)

pub not_full : (m n : ℕ) → m ≡ n → m ≤ capacity → m ≢ capacity → n < capacity
not_full m n e fits ne = omega arith

module _ {K V : Type 0} (old new : Subtree K V) (ps : List (List (K × V))) (is : new ≡ record old { parts = ps }) (more : length old.parts ≤ length ps) where
  pub grown_entries : length old.parts ≤ length new.parts
  grown_entries = rw (same_parts is) more

  pub grown_level : 0 < length old.parts → KeepsLevel old new
  grown_level some = record { kind = same_kind is; height = same_height is; some = let m = grown_entries in omega arith }

  pub grown_filled : (edge : Bool) → IsFilled edge (fill_of old) → IsFilled edge (fill_of new)
  grown_filled edge f = record {
    half = λ off. let m = grown_entries in let n = f.half off in omega arith;
    below = subst (λ (fs : List Fill). AreFilled (shape_of fs) edge) (sym (same_fills is)) f.below;
  }

-- as many entries as before
set_seen : {K V A : Type 0} (b : Bool) (ks : List K) (vs : List V) (bs : List (Box (Subtree K V) A)) (s : Subtree K V) (i : ℕ) (k : K) (y : Box (Subtree K V) A) → s.is_branch ≡ true → IsNode b ks vs (unboxed bs)
    → subtree_of b ks vs (unboxed bs) ≡ s → length (parts_of b (set ks i k) vs (unboxed (set bs i y))) ≡ length s.parts
set_seen false ks vs bs s i k y e n is = absurd (let kind = same_kind is in cc)
set_seen true ks vs bs s i k y e n is =
    length-map (unboxed (set bs i y)) rows ∙ length-map (set bs i y) unbox ∙ length-set bs i y ∙ sym (length-map bs unbox) ∙ sym (length-map (unboxed bs) rows) ∙ ap length (same_parts is)

module _ {K V A : Type 0} (b : Bool) (ks : List K) (vs : List V) (bs : List (Box (Subtree K V) A)) (s : Subtree K V) (i : ℕ) (k : K) (y : Box (Subtree K V) A) (branch : s.is_branch ≡ true) (node : IsNode b ks vs (unboxed bs)) (is : subtree_of b ks vs (unboxed bs) ≡ s) where
  pub set_within : i < length s.parts → i < length (parts_of b (set ks i k) vs (unboxed (set bs i y)))
  set_within lt = rw (set_seen b ks vs bs s i k y branch node is) lt

  pub set_fits : length ks ≤ capacity → length (parts_of b (set ks i k) vs (unboxed (set bs i y))) ≤ capacity
  set_fits fits = rw (set_seen b ks vs bs s i k y branch node is, length-seen b ks vs (unboxed bs) s node is) fits
