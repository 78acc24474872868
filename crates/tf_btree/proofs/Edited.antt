-- What an edit of a node's entries makes of its rows.
use Rattle.tf_btree.proofs.Words.{add-one, ◌≡◌, ℕ, suc, ◌+◌, ◌<◌, List, [], ◌∷◌, ◌++◌, length, take, drop, set, get_or, sym, ◌∙◌, ap, arith, append_assoc, Ordering, drop-set-lt, drop_all, append-nil, take-suc-set, insert_end, Subtree, joined, with_row, without_row, IsAt, IsGap, IsBelow, IsSplitOf}
use Rattle.std.specs.List.{insert, remove}
use Rattle.tf_btree.proofs.Order.{with_row-among, without_row-among}
use Rattle.tf_btree.proofs.Parts.{joined-append, joined-take-drop, joined_split, joined-set, joined-insert, joined-remove}

module _ {K V : Type 0} (cmp : K → K → Ordering) (k : K) (ps : List (List (K × V))) (i : ℕ) where
  pub rows_at : (h : IsAt cmp k ps i) → joined ps ≡ joined (take i ps) ++ (h.row.0, h.row.1) ∷ joined (drop (suc i) ps)
  rows_at h = joined_split ps i [] h.in_range ∙ ap (λ (r : List (K × V)). joined (take i ps) ++ (r ++ joined (drop (suc i) ps))) h.row.2

  pub with_row_at : (v : V) → IsAt cmp k ps i → with_row cmp k v (joined ps) ≡ joined (set ps i ((k, v) ∷ []))
  with_row_at v h =
      ap (λ (r : List (K × V)). with_row cmp k v r) (rows_at h) ∙ with_row-among cmp k (joined (take i ps)) ((h.row.0, h.row.1) ∷ []) (joined (drop (suc i) ps)) h.among v ∙ (rw h.row.3)
      ∙ sym (joined-set ps i ((k, v) ∷ []) h.in_range)

  pub with_row_gap : (v : V) → IsGap cmp k ps i → with_row cmp k v (joined ps) ≡ joined (insert ps i ((k, v) ∷ []))
  with_row_gap v h =
      ap (λ (r : List (K × V)). with_row cmp k v r) (joined-take-drop i ps) ∙ with_row-among cmp k (joined (take i ps)) [] (joined (drop i ps)) h.among v
      ∙ sym (joined-insert ps i ((k, v) ∷ []))

  pub without_row_at : IsAt cmp k ps i → without_row cmp k (joined ps) ≡ joined (remove ps i)
  without_row_at h =
      ap (λ (r : List (K × V)). without_row cmp k r) (rows_at h) ∙ without_row-among cmp k (joined (take i ps)) ((h.row.0, h.row.1) ∷ []) (joined (drop (suc i) ps)) h.among ∙ (rw h.row.3)
      ∙ sym (joined-remove ps i)

  pub without_row_gap : IsGap cmp k ps i → without_row cmp k (joined ps) ≡ joined ps
  without_row_gap h =
      ap (λ (r : List (K × V)). without_row cmp k r) (joined-take-drop i ps) ∙ without_row-among cmp k (joined (take i ps)) [] (joined (drop i ps)) h.among
      ∙ sym (joined-take-drop i ps)

-- two parts that have all entries together
pub split_of : {K V : Type 0} (old new right : Subtree K V) (ps : List (List (K × V))) → new.is_branch ≡ old.is_branch → new.height ≡ old.height → right.height ≡ old.height → new.parts ++ right.parts ≡ ps → 0 < length new.parts → 0 < length right.parts → IsSplitOf old new right (joined ps)
split_of old new right ps kind height level all some more = record {
  level = record { kind = kind; height = height; some = some };
  beside = record { height = level; some = more };
  all = sym (joined-append new.parts right.parts) ∙ ap joined all;
}

-- a part with another behind it
pub joined-set-insert : {X : Type 0} (ps : List (List X)) (i : ℕ) (p q : List X) → i < length ps → joined (insert (set ps i p) (i + 1) q) ≡ joined (take i ps) ++ ((p ++ q) ++ joined (drop (suc i) ps))
joined-set-insert {X} ps i p q lt =
    rw (add-one, take-suc-set ps i p lt, drop-set-lt (suc i) ps i p (omega arith), append_assoc (take i ps) (p ∷ []) (q ∷ drop (suc i) ps))
    (joined-append (take i ps) (p ∷ q ∷ drop (suc i) ps) ∙ ap (λ (r : List X). joined (take i ps) ++ r) (sym (append_assoc p q (joined (drop (suc i) ps)))))

-- the rows with the child at a place edited
pub with_row_child : {K V : Type 0} (cmp : K → K → Ordering) (k : K) (v : V) (ps : List (List (K × V))) (i : ℕ) (p q : List (K × V)) → IsBelow cmp k ps i → get_or ps i [] ≡ p → q ≡ with_row cmp k v p
    → joined (take i ps) ++ (q ++ joined (drop (suc i) ps)) ≡ with_row cmp k v (joined ps)
with_row_child {K} {V} cmp k v ps i p q h entry new =
    ap (λ (r : List (K × V)). joined (take i ps) ++ (r ++ joined (drop (suc i) ps))) (new ∙ ap (λ (r : List (K × V)). with_row cmp k v r) (sym entry)) ∙ sym (ap (λ (r : List (K × V)). with_row cmp k v r) (joined_split ps i [] h.in_range) ∙ with_row-among cmp k (joined (take i ps)) (get_or ps i []) (joined (drop (suc i) ps)) h.among v)

pub without_row_child : {K V : Type 0} (cmp : K → K → Ordering) (k : K) (ps : List (List (K × V))) (i : ℕ) (p q : List (K × V)) → IsBelow cmp k ps i → get_or ps i [] ≡ p → q ≡ without_row cmp k p
    → joined (take i ps) ++ (q ++ joined (drop (suc i) ps)) ≡ without_row cmp k (joined ps)
without_row_child {K} {V} cmp k ps i p q h entry new =
    ap (λ (r : List (K × V)). joined (take i ps) ++ (r ++ joined (drop (suc i) ps))) (new ∙ ap (λ (r : List (K × V)). without_row cmp k r) (sym entry)) ∙ sym (ap (λ (r : List (K × V)). without_row cmp k r) (joined_split ps i [] h.in_range) ∙ without_row-among cmp k (joined (take i ps)) (get_or ps i []) (joined (drop (suc i) ps)) h.among)

-- the first entry moved from one list of entries behind another
pub move_first : {X : Type 0} (ps qs : List (List X)) (p : List X) → 0 < length qs → get_or qs 0 [] ≡ p → joined (insert ps (length ps) p) ++ joined (remove qs 0) ≡ joined ps ++ joined qs
move_first ps [] p some is = absurd (omega arith)
move_first {X} ps (q ∷ qs) p some is =
    ap (λ (r : List X). r ++ joined qs) (ap joined (insert_end ps p) ∙ joined-append ps (p ∷ []) ∙ ap (λ (r : List X). joined ps ++ r) (append-nil p))
    ∙ append_assoc (joined ps) p (joined qs) ∙ ap (λ (r : List X). joined ps ++ (r ++ joined qs)) (sym is)

-- the last entry moved before another list of entries
pub move_last : {X : Type 0} (ps qs : List (List X)) (p : List X) (n : ℕ) → suc n ≡ length ps → get_or ps n [] ≡ p → joined (remove ps n) ++ joined (insert qs 0 p) ≡ joined ps ++ joined qs
move_last {X} ps qs p n last is =
    let none : drop (suc n) ps ≡ [] = drop_all (suc n) ps (omega arith) in
    let front : joined (remove ps n) ≡ joined (take n ps) = joined-remove ps n ∙ ap (λ (d : List (List X)). joined (take n ps) ++ joined d) none ∙ append-nil (joined (take n ps)) in
    let all : joined ps ≡ joined (take n ps) ++ p = joined_split ps n [] (omega arith) ∙ ap (λ (d : List (List X)). joined (take n ps) ++ (get_or ps n [] ++ joined d)) none ∙ ap (λ (r : List X). joined (take n ps) ++ r) (append-nil (get_or ps n []) ∙ is) in
    ap (λ (r : List X). r ++ (p ++ joined qs)) front ∙ sym (append_assoc (joined (take n ps)) p (joined qs)) ∙ ap (λ (r : List X). r ++ joined qs) (sym all)
