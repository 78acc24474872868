-- Rows without a value before none of which a timestamp is missing.
use Rattle.std.proofs.Common.{◌≡◌, ℕ, zero, suc, ◌+◌, ◌-◌, ◌<◌, ◌≤◌, List, [], ◌∷◌, length, drop, get_or, false, refl, ap, sym, ◌∙◌, arith, ◌⊎◌, inl, inr}
use Rattle.std.specs.Cmp.{nat_cmp_is}
use Rattle.std.specs.Ordering.{is_lt, nat_cmp, ordering_then}
use Rattle.std.specs.declared.cmp.Ordering.{Ordering}
use Rattle.std.specs.declared.cmp.Ordering.TheVariants.{Less, Equal, Greater}
use Rattle.std.proofs.lemmas.Bool.{cases_lt, cases_order, false≢true}
use Rattle.std.proofs.lemmas.List.{get_or_default, get_or-drop, length-drop}
use Rattle.std.proofs.lemmas.Map.Lookups.{exact_unsigned}
use Rattle.tf_sorted.specs.Rows.{IsRising}
use Rattle.tf_table.specs.declared.key.Key.{Key}
use Rattle.tf_table.specs.Key.{key_cmp}
use Rattle.tf_table.proofs.Keys.{keys_total}
use Rattle.tf_table.proofs.Places.{AllAfter-get_or}
use Rattle.tf_table.proofs.Rising.{IsRising-drop}

greater_not_less : Greater ≡ Less → ⊥
greater_not_less e = false≢true (ap is_lt e)

equal_not_less : Equal ≡ Less → ⊥
equal_not_less e = false≢true (ap is_lt e)

less_from_cmp : (x y : ℕ) → nat_cmp x y ≡ Less → x < y
less_from_cmp x y e = either (cases_order x y) where
  either : (x ≡ y) ⊎ ((x < y) ⊎ (y < x)) → x < y
  either (inl same) = absurd (equal_not_less (nat_cmp_is x y Equal same ∙ e))
  either (inr (inl l)) = l
  either (inr (inr l)) = absurd (greater_not_less (nat_cmp_is x y Greater l ∙ e))

then_less : (o p : Ordering) → ordering_then o p ≡ Less → (o ≡ Less) ⊎ ((o ≡ Equal) × (p ≡ Less))
then_less Less p e = inl refl
then_less Equal p e = inr (refl, e)
then_less Greater p e = absurd (greater_not_less e)

-- a key below another has a lesser value, or the same and a lesser timestamp
below : (a b : Key) → key_cmp a b ≡ Less → (a.value < b.value) ⊎ ((a.value ≡ b.value) × (a.timestamp < b.timestamp))
below a b e = either (then_less (nat_cmp a.value b.value) (nat_cmp a.timestamp b.timestamp) e) where
  either : (nat_cmp a.value b.value ≡ Less) ⊎ ((nat_cmp a.value b.value ≡ Equal) × (nat_cmp a.timestamp b.timestamp ≡ Less)) → (a.value < b.value) ⊎ ((a.value ≡ b.value) × (a.timestamp < b.timestamp))
  either (inl l) = inl (less_from_cmp a.value b.value l)
  either (inr same) = inr (exact_unsigned a.value b.value same.0, less_from_cmp a.timestamp b.timestamp same.1)

below_value : (a b : Key) → key_cmp a b ≡ Less → a.value ≤ b.value
below_value a b e = either (below a b e) where
  either : (a.value < b.value) ⊎ ((a.value ≡ b.value) × (a.timestamp < b.timestamp)) → a.value ≤ b.value
  either (inl l) = omega arith
  either (inr same) = let s = same.0 in omega arith

below_time : (a b : Key) → b.value ≡ 0 → key_cmp a b ≡ Less → a.timestamp < b.timestamp
below_time a b none e = either (below a b e) where
  either : (a.value < b.value) ⊎ ((a.value ≡ b.value) × (a.timestamp < b.timestamp)) → a.timestamp < b.timestamp
  either (inl l) = absurd (omega (arith, none))
  either (inr same) = same.1

-- a key that isn't below another, which has no greater value, has the same and no lesser timestamp
not_below_value : (a b : Key) → is_lt (key_cmp a b) ≡ false → b.value ≤ a.value
not_below_value a b n = either (cases_lt a.value b.value) where
  either : (a.value < b.value) ⊎ (b.value ≤ a.value) → b.value ≤ a.value
  either (inl l) = absurd (false≢true (sym n ∙ ap (λ o. is_lt (ordering_then o (nat_cmp a.timestamp b.timestamp))) (sym (nat_cmp_is a.value b.value Less l))))
  either (inr g) = g

not_below_time : (a b : Key) → a.value ≡ b.value → is_lt (key_cmp a b) ≡ false → b.timestamp ≤ a.timestamp
not_below_time a b same n = either (cases_lt a.timestamp b.timestamp) where
  either : (a.timestamp < b.timestamp) ⊎ (b.timestamp ≤ a.timestamp) → b.timestamp ≤ a.timestamp
  either (inl l) = absurd (false≢true (sym n
      ∙ ap (λ o. is_lt (ordering_then o (nat_cmp a.timestamp b.timestamp))) (sym (nat_cmp_is a.value b.value Equal same))
      ∙ ap is_lt (sym (nat_cmp_is a.timestamp b.timestamp Less l))))
  either (inr g) = g

-- of two keys with one value, one with no lesser timestamp isn't below the other
pub not_below : (a b : Key) → a.value ≡ b.value → b.timestamp ≤ a.timestamp → is_lt (key_cmp a b) ≡ false
not_below a b same late =
    ap (λ o. is_lt (ordering_then o (nat_cmp a.timestamp b.timestamp))) (sym (nat_cmp_is a.value b.value Equal same))
    ∙ either (cases_order a.timestamp b.timestamp)
  where
    either : (a.timestamp ≡ b.timestamp) ⊎ ((a.timestamp < b.timestamp) ⊎ (b.timestamp < a.timestamp)) → is_lt (nat_cmp a.timestamp b.timestamp) ≡ false
    either (inl equal) = ap is_lt (sym (nat_cmp_is a.timestamp b.timestamp Equal equal))
    either (inr (inl less)) = absurd (omega arith)
    either (inr (inr greater)) = ap is_lt (sym (nat_cmp_is a.timestamp b.timestamp Greater greater))

-- keys between two without a value have none, and lie between them in time
pub record LiesBetween (least greatest key : Key) : Type 0 where
  pub value : key.value ≡ 0
  pub from : least.timestamp ≤ key.timestamp
  pub upto : key.timestamp ≤ greatest.timestamp

pub lies_between : (least greatest key : Key) → least.value ≡ 0 → greatest.value ≡ 0 → is_lt (key_cmp key least) ≡ false → is_lt (key_cmp greatest key) ≡ false → LiesBetween least greatest key
lies_between least greatest key l g from upto =
    let most = not_below_value greatest key upto in
    let none : key.value ≡ 0 = omega (arith, g) in record {
      value = none;
      from = not_below_time key least (none ∙ sym l) from;
      upto = not_below_time greatest key (g ∙ sym none) upto;
    }

module _ {E : Type 0} where
  -- no row has a value
  abbrev pub HaveNoValue : List (Key × E) → Type 0
  HaveNoValue rows = (i : ℕ) (d : Key × E) → i < length rows → (get_or rows i d).0.value ≡ 0

  pub rising_pair : (rows : List (Key × E)) (i j : ℕ) (d : Key × E) → IsRising key_cmp rows → i < j → j < length rows → key_cmp (get_or rows i d).0 (get_or rows j d).0 ≡ Less
  rising_pair [] i j d rising l m = absurd (omega arith)
  rising_pair (r ∷ rows) i zero d rising l m = absurd (omega arith)
  rising_pair (r ∷ rows) zero (suc j) d rising l m = AllAfter-get_or key_cmp keys_total r.0 rows j d rising.0 (omega arith)
  rising_pair (r ∷ rows) (suc i) (suc j) d rising l m = rising_pair rows i j d rising.1 (omega arith) (omega arith)

  -- none has where the last has none
  pub none_where_last : (rows : List (Key × E)) → IsRising key_cmp rows → ((d : Key × E) → (get_or rows (length rows - 1) d).0.value ≡ 0) → HaveNoValue rows
  none_where_last rows rising last i d l = either (cases_lt i (length rows - 1)) where
    either : (i < length rows - 1) ⊎ (length rows - 1 ≤ i) → (get_or rows i d).0.value ≡ 0
    either (inl before) =
        let v : (get_or rows i d).0.value ≤ (get_or rows (length rows - 1) d).0.value = below_value (get_or rows i d).0 (get_or rows (length rows - 1) d).0 (rising_pair rows i (length rows - 1) d rising before (omega arith)) in
        let z = last d in
        omega (arith, v, z)
    either (inr at) =
        let same : i ≡ length rows - 1 = omega arith in
        ap (λ n. (get_or rows n d).0.value) same ∙ last d

  -- each row is later than the one before it
  pub at_least : (rows : List (Key × E)) (time : ℕ) → IsRising key_cmp rows → HaveNoValue rows → ((d : Key × E) → 0 < length rows → time ≤ (get_or rows 0 d).0.timestamp) → (i : ℕ) (d : Key × E) → i < length rows → time + i ≤ (get_or rows i d).0.timestamp
  at_least [] time rising none first i d l = absurd (omega arith)
  at_least (r ∷ rows) time rising none first zero d l = let f = first d (omega arith) in omega arith
  at_least (r ∷ rows) time rising none first (suc i) d l =
      let rest = at_least rows (time + 1) rising.1 (λ j e m. none (suc j) e (omega arith)) next i d (omega arith) in
      omega arith
    where
      next : (e : Key × E) → 0 < length rows → time + 1 ≤ (get_or rows 0 e).0.timestamp
      next e m =
          let f = first e (omega arith) in
          let later = below_time r.0 (get_or rows 0 e).0 (none 1 e (omega arith)) (AllAfter-get_or key_cmp keys_total r.0 rows 0 e rising.0 m) in
          omega arith

  -- so each has its timestamp where the last is as late as there are rows
  pub time_there : (rows : List (Key × E)) (first last : ℕ) → IsRising key_cmp rows → HaveNoValue rows
      → ((d : Key × E) → 0 < length rows → (get_or rows 0 d).0.timestamp ≡ first) → ((d : Key × E) → 0 < length rows → (get_or rows (length rows - 1) d).0.timestamp ≡ last)
      → last ≡ first + (length rows - 1) → (i : ℕ) (d : Key × E) → i < length rows → (get_or rows i d).0.timestamp ≡ first + i
  time_there rows first last rising none starts ends many i d l =
      let low = at_least rows first rising none (λ e m. let s = starts e m in omega arith) i d l in
      let rest : ℕ = length rows - 1 - i in
      let high = at_least (drop i rows) (get_or rows i d).0.timestamp (IsRising-drop key_cmp keys_total i rows rising) dropped here rest d (omega (arith, length-drop i rows)) in
      let there : (get_or (drop i rows) rest d).0.timestamp ≡ (get_or rows (length rows - 1) d).0.timestamp =
      ap (λ (r : Key × E). r.0.timestamp) (get_or-drop i rows rest d) ∙ ap (λ n. (get_or rows n d).0.timestamp) (let same : i + (length rows - 1 - i) ≡ length rows - 1 = omega arith in same) in
      let end = ends d (omega arith) in
      omega arith
    where
      dropped : HaveNoValue (drop i rows)
      dropped j e m = ap (λ (r : Key × E). r.0.value) (get_or-drop i rows j e) ∙ none (i + j) e (omega (arith, length-drop i rows))

      here : (e : Key × E) → 0 < length (drop i rows) → (get_or rows i d).0.timestamp ≤ (get_or (drop i rows) 0 e).0.timestamp
      here e m =
          let same : (get_or (drop i rows) 0 e).0.timestamp ≡ (get_or rows i d).0.timestamp =
          ap (λ (r : Key × E). r.0.timestamp) (get_or-drop i rows 0 e ∙ ap (λ n. get_or rows n e) (let z : i + 0 ≡ i = omega arith in z) ∙ get_or_default rows i e d l) in
          omega arith
