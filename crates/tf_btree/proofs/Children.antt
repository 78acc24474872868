-- A child of a branch, before and after an edit.
use Rattle.tf_btree.proofs.Words.{◌≡◌, ℕ, suc, ◌+◌, ◌<◌, ◌≤◌, List, [], ◌++◌, length, take, drop, set, Some, None, map, Bool, true, false, Option, IfSome, IfNone, Result, Ok, Err, OnOk, OnErr, sym, ◌∙◌, ap, subst, arith, Box, Ordering, take-append-drop, length-set, length-map, map-set, set-get_or}
use Rattle.tf_btree.proofs.Words.{take-set, drop-set-lt, Fill, AllFilled, IsFilled, one_more_at, edge_at, half_full, Subtree, IsChildAt, joined, rows, fill_of, first_key, height_over, parts_of, subtree_of, IsCounted, IsNode, HasRoom, unbox, unboxed, without_row, IsBeside, IsParted, IsFilledWith, fills_behind}
use Rattle.std.specs.List.{insert, remove}
use Rattle.tf_btree.proofs.Filled.{filled_at, filled_edited, filled_parted}
use Rattle.tf_btree.proofs.Runs.{AllChildren-set, AllChildren-remove, height_over-high}
use Rattle.tf_btree.proofs.Entries.{mapped, same_kind, same_height, same_parts, same_subtree, room_after, branch_node}

pub if_some : {X : Type 0} (o : Option X) (P Q : X → Type 0) → ((x : X) → P x → Q x) → IfSome o P → IfSome o Q
if_some None P Q f h = tt
if_some (Some x) P Q f h = f x h

pub if_none : {X : Type 0} (o : Option X) (P Q : Type 0) → (P → Q) → IfNone o P → IfNone o Q
if_none None P Q f h = f h
if_none (Some x) P Q f h = tt

pub on_ok : {X E : Type 0} (r : Result X E) (P Q : Type 0) → (P → Q) → OnOk r P → OnOk r Q
on_ok (Ok x) P Q f h = f h
on_ok (Err e) P Q f h = tt

pub on_err : {X E : Type 0} (r : Result X E) (P Q : Type 0) → (P → Q) → OnErr r P → OnErr r Q
on_err (Ok x) P Q f h = tt
on_err (Err e) P Q f h = f h

-- where the children are filled, that one is
pub child_filled : {K V : Type 0} (edge e : Bool) (s : Subtree K V) (i : ℕ) (child : Subtree K V) → IsChildAt s i child → i < length s.parts → e ≡ edge_at edge s.fills i → AllFilled edge s.fills → IsFilled e (fill_of child)
child_filled edge e s i child at lt is all = rw is (subst (λ (f : Fill). IsFilled (edge_at edge s.fills i) f) at.fill (filled_at edge s.fills i (fill_of child) (omega (arith, at.fills)) all))

-- and where it is filled after an edit, with what was split off it, the children are
pub edited_filled : {K V A : Type 0} (edge e : Bool) (fs : List Fill) (i : ℕ) (new : Subtree K V) (o : Option (Box (Subtree K V) A)) → i < length fs → e ≡ edge_at edge fs i → AllFilled edge fs → IsFilledWith e new o
    → AllFilled edge (take (i + 1) (set fs i (fill_of new)) ++ (fills_behind o ++ drop (i + 1) (set fs i (fill_of new))))
edited_filled edge e fs i new None lt is all done =
    subst (λ (gs : List Fill). AllFilled edge gs) (sym (take-append-drop (i + 1) (set fs i (fill_of new)))) (filled_edited edge fs i (fill_of new) lt all (subst (λ (b : Bool). IsFilled b (fill_of new)) is done))
edited_filled edge e fs i new (Some b) lt is all done =
    let at : i + 1 ≡ suc i = omega arith in
    subst (λ (j : ℕ). AllFilled edge (insert (set fs i (fill_of new)) j (fill_of b.value))) (sym at) (filled_parted edge fs i (fill_of new) (fill_of b.value) lt all done.0 (subst (λ (p : Bool). IsFilled p (fill_of b.value)) is done.1))

-- the branch with that child edited
pub record ChildPut {K V : Type 0} (b : Bool) (ks : List K) (vs : List V) (cs : List (Subtree K V)) (s : Subtree K V) (i : ℕ) (new : Subtree K V) : Type 0 where
  pub node : IsNode b ks vs cs
  pub kind : b ≡ s.is_branch
  pub height : (subtree_of b ks vs cs).height ≡ s.height
  pub parts : parts_of b ks vs cs ≡ set s.parts i (rows new)
  pub fills : map fill_of cs ≡ set s.fills i (fill_of new)

pub child_put : {K V A : Type 0} (b : Bool) (ks : List K) (vs : List V) (bs : List (Box (Subtree K V) A)) (s : Subtree K V) (i : ℕ) (k : K) (y : Box (Subtree K V) A) (child : Subtree K V) → s.is_branch ≡ true → IsNode b ks vs (unboxed bs)
    → subtree_of b ks vs (unboxed bs) ≡ s → i < length s.parts → IsChildAt s i child → first_key (rows y.value) ≡ Some k → y.value.height ≡ child.height → IsCounted y.value → ChildPut b (set ks i k) vs (unboxed (set bs i y)) s i y.value
child_put false ks vs bs s i k y child e n is lt at first level counted = absurd (let kind = same_kind is in cc)
child_put {K} {V} {A} true ks vs bs s i k y child e n is lt at first level counted =
    let cs = unboxed bs in
    let some : 0 < length (set cs i y.value) = omega (arith, ap length (same_parts is), length-map cs rows, length-set cs i y.value) in
    let high = AllChildren-set (height_over cs) cs i y.value n.kind.1 (record { level = ap suc level ∙ sym at.level ∙ sym (same_height is); counted = counted }) in
    rw (map-set unbox bs i y) record {
      node = branch_node (set ks i k) vs (set cs i y.value) (height_over cs) n.kind.0 high (simp (mapped, n.first_keys, first));
      kind = same_kind is;
      height = height_over-high (height_over cs) (set cs i y.value) high some ∙ same_height is;
      parts = map-set rows cs i y.value ∙ ap (λ (t : Subtree K V). set t.parts i (rows y.value)) is;
      fills = map-set fill_of cs i y.value ∙ ap (λ (t : Subtree K V). set t.fills i (fill_of y.value)) is;
    }

-- and where that child is as it was, so is the branch
pub child_same : {K V : Type 0} (b : Bool) (ks : List K) (vs : List V) (cs : List (Subtree K V)) (s : Subtree K V) (i : ℕ) (new child : Subtree K V) → ChildPut b ks vs cs s i new → IsChildAt s i child → new ≡ child → subtree_of b ks vs cs ≡ s
child_same {K} {V} b ks vs cs s i new child put at same =
    same_subtree b s.is_branch _ s.height _ s.parts _ s.fills put.kind put.height
    (put.parts ∙ ap (λ (t : Subtree K V). set s.parts i (rows t)) same ∙ ap (λ (p : List (K × V)). set s.parts i p) (sym at.entry) ∙ set-get_or s.parts i [])
    (put.fills ∙ ap (λ (t : Subtree K V). set s.fills i (fill_of t)) same ∙ ap (λ (f : Fill). set s.fills i f) (sym at.fill) ∙ set-get_or s.fills i (fill_of child))

pub room_set : {K : Type 0} (m : ℕ) (b : Bool) (ks : List K) (i : ℕ) (k : K) (r v c : ℕ) → HasRoom m b (length ks) r v c → HasRoom m b (length (set ks i k)) r v c
room_set m b ks i k r v c room = room_after m b _ r v c _ r v c room (omega (arith, room.entries_fit, length-set ks i k)) (omega arith) (omega arith) (omega arith)

-- what stands beside a child is one level below its branch
pub beside_level : {K V A : Type 0} (o : Option (Box (Subtree K V) A)) (child : Subtree K V) (h : ℕ) → IfSome o (λ (b : Box (Subtree K V) A). IsBeside child b.value) → h ≡ suc child.height → IfSome o (λ (b : Box (Subtree K V) A). h ≡ suc b.value.height)
beside_level None child h beside e = tt
beside_level (Some b) child h beside e = e ∙ ap suc (sym beside.height)

-- what a node was parted into, where it was like another before
pub parted_as : {K V A : Type 0} (mid old new : Subtree K V) (o : Option (Box (Subtree K V) A)) → mid.is_branch ≡ old.is_branch → mid.height ≡ old.height → length mid.parts ≡ length old.parts → IsParted mid new o → IsParted old new o
parted_as {K} {V} {A} mid old new o kind height many h = record {
  level = record { kind = h.level.kind ∙ kind; height = h.level.height ∙ height; some = h.level.some };
  behind = if_some o _ _ (λ (b : Box (Subtree K V) A) (beside : IsBeside mid b.value). record { height = beside.height ∙ height; some = beside.some }) h.behind;
  full = λ some. let n = h.full some in omega arith;
  entries = if_none o _ _ (λ n. omega arith) h.entries;
}

remove-set : {X : Type 0} (xs : List X) (i : ℕ) (y : X) → remove (set xs i y) i ≡ remove xs i
remove-set xs i y = let a = take-set xs i y in let b = drop-set-lt (suc i) xs i y (omega arith) in cc

-- the branch without that child
pub record ChildGone {K V : Type 0} (b : Bool) (ks : List K) (vs : List V) (cs : List (Subtree K V)) (s : Subtree K V) (i : ℕ) : Type 0 where
  pub node : IsNode b ks vs cs
  pub height : 0 < length (parts_of b ks vs cs) → (subtree_of b ks vs cs).height ≡ s.height
  pub parts : parts_of b ks vs cs ≡ remove s.parts i
  pub fills : map fill_of cs ≡ remove s.fills i

pub child_gone : {K V A : Type 0} (b : Bool) (ks ks' : List K) (vs : List V) (bs bs' : List (Box (Subtree K V) A)) (s : Subtree K V) (i : ℕ) (y : Box (Subtree K V) A) → s.is_branch ≡ true → IsNode b ks vs (unboxed bs)
    → subtree_of b ks vs (unboxed bs) ≡ s → ks' ≡ remove ks i → bs' ≡ remove (set bs i y) i → ChildGone b ks' vs (unboxed bs') s i
child_gone false ks ks' vs bs bs' s i y e n is keys boxes = absurd (let kind = same_kind is in cc)
child_gone {K} {V} {A} true ks ks' vs bs bs' s i y e n is keys boxes =
    let cs = unboxed bs in
    let high = AllChildren-remove (height_over cs) cs i n.kind.1 in
    let bare : unboxed bs' ≡ remove cs i = ap unboxed (boxes ∙ remove-set bs i y) ∙ simp mapped in
    rw (keys, bare) record {
      node = branch_node (remove ks i) vs (remove cs i) (height_over cs) n.kind.0 high (simp (mapped, n.first_keys));
      height = λ some. height_over-high (height_over cs) (remove cs i) high (omega (arith, length-map (remove cs i) rows)) ∙ same_height is;
      parts = rw (← is) (simp mapped);
      fills = rw (← is) (simp mapped);
    }

-- what is left of a branch whose child at i has lost the row of k
pub record IsLeft {K V : Type 0} (cmp : K → K → Ordering) (k : K) (i : ℕ) (old left : Subtree K V) : Type 0 where
  pub rows : joined left.parts ≡ without_row cmp k (joined old.parts)
  pub height : 0 < length left.parts → left.height ≡ old.height
  pub filled : (edge : Bool) → IsFilled edge (fill_of old) → AllFilled edge (one_more_at i left.fills) × (edge ≡ false → half_full ≤ length left.parts)
