-- What a node is parted into where it takes one more entry, or none.
use Rattle.tf_btree.proofs.Words.{◌≡◌, ℕ, suc, ◌+◌, ◌<◌, ◌≤◌, ◌++◌, length, take, drop, None, Bool, true, false, not, Option, IsSome, refl, sym, ◌∙◌, arith, insert, length-insert, take-append-drop, Box, capacity, half_full, AllFilled, IsFilled, IsParted, Subtree, rows, fill_of}
use Rattle.tf_btree.specs.Inserted.{KeepsLevel}
use Rattle.tf_btree.proofs.Entries.{same_kind, same_height, same_parts, same_fills}
use Rattle.tf_btree.proofs.Filled.{filled_branch}

pub no_some : {X : Type 0} (o : Option X) (Y : Type 0) → o ≡ None → IsSome o → Y
no_some o Y e some = absurd (let t : false ≡ true = rw e at some in cc)

pub no_true : (Y : Type 0) → false ≡ true → Y
no_true Y e = absurd (cc)

pub not_false : (b : Bool) → not b ≡ false → b ≡ true
not_false true e = refl
not_false false e = absurd (let t : true ≡ false = e in cc)

-- the length as it was read, against the most entries
pub full_is : (m n : ℕ) → m ≡ n → m ≤ capacity → capacity ≤ m → n ≡ capacity
full_is m n e fits full = omega arith

pub at_most : (i m n : ℕ) → i ≤ n → m ≡ n → m ≤ capacity → i ≤ capacity
at_most i m n le e fits = omega arith

pub past : (i n : ℕ) → i < n → i + 1 ≤ n
past i n lt = omega arith

pub some_within : (i n : ℕ) → i < n → 0 < n
some_within i n lt = omega arith

-- a node that wasn't split
module _ {K V A : Type 0} (old new : Subtree K V) (right : Option (Box (Subtree K V) A)) (none : right ≡ None) where
  pub parted_whole : KeepsLevel old new → length old.parts ≤ length new.parts → IsParted old new right
  parted_whole level many = record { level = level; behind = rw none tt; full = λ s. no_some right _ none s; entries = rw none many }

pub parted_same : {K V A : Type 0} (s : Subtree K V) (right : Option (Box (Subtree K V) A)) → right ≡ None → 0 < length s.parts → IsParted s s right
parted_same s right none some = parted_whole s s right none (record { kind = refl; height = refl; some = some }) (omega arith)

-- a branch with one more child
module _ {K V : Type 0} (old new child : Subtree K V) (i : ℕ) (is : new ≡ record { is_branch = true; height = suc child.height; parts = insert old.parts i (rows child); fills = insert old.fills i (fill_of child) })
    (branch : old.is_branch ≡ true) (within : i ≤ length old.parts) (level : old.height ≡ suc child.height) where
  more_entries : length new.parts ≡ suc (length old.parts)
  more_entries = rw (same_parts is) (omega (arith, length-insert old.parts i (rows child) within))

  pub adopted_parted : {A : Type 0} (right : Option (Box (Subtree K V) A)) → right ≡ None → IsParted old new right
  adopted_parted right none =
      let more = more_entries in
      parted_whole old new right none (record { kind = same_kind is ∙ sym branch; height = same_height is ∙ sym level; some = omega arith }) (omega arith)

  pub adopted_filled : (edge : Bool) → (edge ≡ false → half_full ≤ length old.parts) → AllFilled edge (insert old.fills i (fill_of child)) → IsFilled edge (fill_of new)
  adopted_filled edge half all = filled_branch edge new _ (same_fills is) all (λ off. let more = more_entries in let n = half off in omega arith)

-- nothing to put behind a child leaves the node
pub settled_filled : {K V : Type 0} (edge : Bool) (s : Subtree K V) (n : ℕ) → (edge ≡ false → half_full ≤ length s.parts) → AllFilled edge (take n s.fills ++ drop n s.fills) → IsFilled edge (fill_of s)
settled_filled edge s n half all = filled_branch edge s _ (sym (take-append-drop n s.fills)) all half
