-- Places in rows that rise, found by a search in their keys.
use Rattle.std.proofs.Common.{◌≡◌, ℕ, zero, suc, ◌+◌, ◌-◌, ◌<◌, ◌≤◌, List, [], ◌∷◌, length, take, drop, get_or, Some, None, true, false, not, refl, ◌∙◌, ap, subst, arith}
use Rattle.std.specs.Cmp.{IsTotalOrder}
use Rattle.std.specs.Ordering.{is_lt, is_eq, is_gt}
use Rattle.std.specs.declared.cmp.Ordering.{Ordering}
use Rattle.std.specs.declared.cmp.Ordering.TheVariants.{Less}
use Rattle.std.proofs.lemmas.List.{drop_more, drop_all, take_all}
use Rattle.std.proofs.lemmas.Bool.{cond-true, cond-false}
use Rattle.tf_sorted.specs.Rows.{AllAfter, IsRising, rows_from, rows_upto, value_at}
use Rattle.tf_table.proofs.Rising.{AllBefore, IsRising-drop, is_gt-not, is_lt-not, less_from, greater_from, greater_back, less_back, rows_from-at, rows_from-below, value_at-here, value_at-there, value_at-after, value_at-before, is_eq-not}

module _ {K E : Type 0} (cmp : K → K → Ordering) (o : IsTotalOrder cmp) where
  pub AllAfter-get_or : (k : K) (rows : List (K × E)) (q : ℕ) (d : K × E) → AllAfter cmp k rows → q < length rows → cmp k (get_or rows q d).0 ≡ Less
  AllAfter-get_or k [] q d a l = absurd (omega arith)
  AllAfter-get_or k (r ∷ rows) zero d a l = a.0
  AllAfter-get_or k (r ∷ rows) (suc q) d a l = AllAfter-get_or k rows q d a.1 (omega arith)

  -- all rows up to one before a key are before it
  pub before_place : (key : K) (rows : List (K × E)) (q : ℕ) (d : K × E) → IsRising cmp rows → q < length rows → is_lt (cmp (get_or rows q d).0 key) ≡ true → AllBefore cmp o key (take (suc q) rows)
  before_place key [] q d rising l e = absurd (omega arith)
  before_place key (r ∷ rows) zero d rising l e = (less_from _ e, tt)
  before_place key (r ∷ rows) (suc q) d rising l e =
      (o.trans r.0 (get_or rows q d).0 key (AllAfter-get_or r.0 rows q d rising.0 (omega arith)) (less_from _ e), before_place key rows q d rising.1 (omega arith) e)

  -- from the two rows round a place
  pub before_all : (key : K) (rows : List (K × E)) (p : ℕ) → IsRising cmp rows → p ≤ length rows → ((q : ℕ) (d : K × E) → q + 1 ≡ p → is_lt (cmp (get_or rows q d).0 key) ≡ true) → AllBefore cmp o key (take p rows)
  before_all key rows zero rising l h = tt
  before_all key [] (suc q) rising l h = tt
  before_all key (r ∷ rows) (suc q) rising l h = before_place key (r ∷ rows) q r rising (omega arith) (h q r (omega arith))

  pub value_at-past : (key : K) (rows : List (K × E)) (p : ℕ) → AllBefore cmp o key (take p rows) → value_at cmp key rows ≡ value_at cmp key (drop p rows)
  value_at-past key rows zero a = refl
  value_at-past key [] (suc p) a = refl
  value_at-past key (r ∷ rows) (suc p) a = value_at-there cmp o key r rows (is_eq-not (cmp r.0 key) (λ e. let l = a.0 in cc)) ∙ value_at-past key rows p a.1

  pub rows_from-past : (key : K) (rows : List (K × E)) (p : ℕ) → AllBefore cmp o key (take p rows) → rows_from cmp key rows ≡ rows_from cmp key (drop p rows)
  rows_from-past key rows zero a = refl
  rows_from-past key [] (suc p) a = refl
  rows_from-past key (r ∷ rows) (suc p) a = rows_from-below cmp o key r rows (ap is_lt a.0) ∙ rows_from-past key rows p a.1

  -- the rows from a place with no lesser key are those from the key on
  pub rows_from-place : (key : K) (rows : List (K × E)) (p : ℕ) → IsRising cmp rows → AllBefore cmp o key (take p rows) → ((d : K × E) → p < length rows → is_lt (cmp (get_or rows p d).0 key) ≡ false) → rows_from cmp key rows ≡ drop p rows
  rows_from-place key rows zero rising a h = rows_from-start key rows rising h where
    rows_from-start : (key : K) (rows : List (K × E)) → IsRising cmp rows → ((d : K × E) → 0 < length rows → is_lt (cmp (get_or rows 0 d).0 key) ≡ false) → rows_from cmp key rows ≡ rows
    rows_from-start key [] rising h = refl
    rows_from-start key (r ∷ rows) rising h = rows_from-at cmp o key r rows (h r (omega arith)) rising
  rows_from-place key [] (suc p) rising a h = refl
  rows_from-place key (r ∷ rows) (suc p) rising a h =
      rows_from-below cmp o key r rows (ap is_lt a.0) ∙ rows_from-place key rows p rising.1 a.1 (λ d l. h d (omega arith))

  -- at a place whose key is the one that is looked for
  pub value_at-place : (key : K) (rows : List (K × E)) (p : ℕ) (d : K × E) → AllBefore cmp o key (take p rows) → p < length rows → is_eq (cmp (get_or rows p d).0 key) ≡ true → value_at cmp key rows ≡ Some (get_or rows p d).1
  value_at-place key rows p d a l e =
      value_at-past key rows p a ∙ ap (value_at cmp key) (drop_more rows p d l) ∙ value_at-here cmp o key (get_or rows p d) (drop (p + 1) rows) e

  -- at a place whose key is a greater one
  pub value_at-missing : (key : K) (rows : List (K × E)) (p : ℕ) (d : K × E) → IsRising cmp rows → AllBefore cmp o key (take p rows) → p < length rows → is_lt (cmp (get_or rows p d).0 key) ≡ false → is_eq (cmp (get_or rows p d).0 key) ≡ false → value_at cmp key rows ≡ None
  value_at-missing key rows p d rising a l n e =
      let m = drop_more rows p d l in
      let r : IsRising cmp (get_or rows p d ∷ drop (p + 1) rows) = subst (IsRising cmp) m (IsRising-drop cmp o p rows rising) in
      value_at-past key rows p a ∙ ap (value_at cmp key) m ∙ value_at-there cmp o key (get_or rows p d) (drop (p + 1) rows) e ∙ value_at-after cmp o key (get_or rows p d).0 (drop (p + 1) rows) n r.0

  pub value_at-end : (key : K) (rows : List (K × E)) (p : ℕ) → AllBefore cmp o key (take p rows) → length rows ≤ p → value_at cmp key rows ≡ None
  value_at-end key rows p a l = value_at-past key rows p a ∙ ap (value_at cmp key) (drop_all p rows l)

  -- below the first row
  pub value_at-under : (key : K) (rows : List (K × E)) → IsRising cmp rows → ((d : K × E) → 0 < length rows → is_lt (cmp key (get_or rows 0 d).0) ≡ true) → value_at cmp key rows ≡ None
  value_at-under key [] rising h = refl
  value_at-under key (r ∷ rows) rising h =
      let e = o.antisymm r.0 key in
      let l = less_from _ (h r (omega arith)) in
      value_at-there cmp o key r rows (is_eq-not (cmp r.0 key) (λ q. cc)) ∙ value_at-after cmp o key r.0 rows (is_lt-not (cmp r.0 key) (λ q. cc)) rising.0

  -- above the last row
  pub value_at-over : (key : K) (rows : List (K × E)) → IsRising cmp rows → ((d : K × E) → 0 < length rows → is_lt (cmp (get_or rows (length rows - 1) d).0 key) ≡ true) → value_at cmp key rows ≡ None
  value_at-over key [] rising h = refl
  value_at-over key (r ∷ rows) rising h =
      let n : suc (length rows) - 1 ≡ length rows = omega arith in
      let e = subst (λ m. is_lt (cmp (get_or (r ∷ rows) m r).0 key) ≡ true) n (h r (omega arith)) in
      let b = before_place key (r ∷ rows) (length rows) r rising (omega arith) e in
      value_at-before cmp o key (r ∷ rows) (subst (AllBefore cmp o key) (take_all (suc (length rows)) (r ∷ rows) (omega arith)) b)

  -- the rows up to a key
  upto_none : (key k : K) (rows : List (K × E)) → cmp key k ≡ Less → AllAfter cmp k rows → rows_upto cmp key rows ≡ []
  upto_none key k [] l a = refl
  upto_none key k (r ∷ rows) l a =
      cond-false (not (is_gt (cmp r.0 key))) _ _ (ap (λ x. not (is_gt x)) (greater_back cmp o key r.0 (o.trans key k r.0 l a.0))) ∙ upto_none key k rows l a.1

  not_above_earlier : (key : K) (r : K × E) (rows : List (K × E)) (p : ℕ) (d : K × E) → IsRising cmp (r ∷ rows) → p ≤ length rows → is_gt (cmp (get_or (r ∷ rows) p d).0 key) ≡ false → is_gt (cmp r.0 key) ≡ false
  not_above_earlier key r rows zero d rising l n = n
  not_above_earlier key r rows (suc p) d rising l n =
      let later = AllAfter-get_or r.0 rows p d rising.0 (omega arith) in
      is_gt-not (cmp r.0 key) (λ g.
      let t = greater_back cmp o key (get_or rows p d).0 (o.trans key r.0 (get_or rows p d).0 (less_back cmp o r.0 key g) later) in
      cc)

  -- the rows before a place with a greater key are those up to the key
  pub rows_upto-place : (key : K) (rows : List (K × E)) (p : ℕ) → IsRising cmp rows → p ≤ length rows → ((q : ℕ) (d : K × E) → q + 1 ≡ p → is_gt (cmp (get_or rows q d).0 key) ≡ false) → ((d : K × E) → p < length rows → is_gt (cmp (get_or rows p d).0 key) ≡ true) → rows_upto cmp key rows ≡ take p rows
  rows_upto-place key [] zero rising l before after = refl
  rows_upto-place key [] (suc p) rising l before after = refl
  rows_upto-place key (r ∷ rows) zero rising l before after =
      let g : is_gt (cmp r.0 key) ≡ true = after r (omega arith) in
      cond-false (not (is_gt (cmp r.0 key))) _ _ (ap not g) ∙ upto_none key r.0 rows (less_back cmp o r.0 key (greater_from _ g)) rising.0
  rows_upto-place key (r ∷ rows) (suc p) rising l before after =
      cond-true (not (is_gt (cmp r.0 key))) _ _ (ap not (not_above_earlier key r rows p r rising (omega arith) (before p r (omega arith))))
      ∙ ap (λ (rs : List (K × E)). r ∷ rs) (rows_upto-place key rows p rising.1 (omega arith) (λ q d e. before (suc q) d (omega arith)) (λ d h. after d (omega arith)))
