-- The first key with a value: in what lists of rows have together, and in rows that rise.
use Rattle.std.proofs.Common.{◌≡◌, ℕ, zero, suc, ◌+◌, ◌-◌, ◌<◌, ◌≤◌, List, [], ◌∷◌, ◌++◌, length, drop, get_or, Option, Some, None, IsSome, Bool, true, false, cond, refl, sym, ◌∙◌, ap, subst, arith}
use Rattle.std.specs.List.{zip, slice_get}
use Rattle.std.specs.Option.{is_some, option_map, option_copied}
use Rattle.std.specs.List.Sorted.{IsPartitionedBy, IsPartitionPoint}
use Rattle.std.specs.Ordering.{is_lt, is_eq, is_gt, is_le, ordering_index}
use Rattle.std.specs.Slice.{IsItemAt}
use Rattle.std.specs.declared.cmp.Ordering.{Ordering}
use Rattle.std.specs.declared.cmp.Ordering.TheVariants.{Less, Equal, Greater}
use Rattle.std.proofs.lemmas.Bool.{false≢true, cond-true, cond-false}
use Rattle.std.proofs.lemmas.Cmp.{tied_itself}
use Rattle.std.proofs.lemmas.Option.{slice_get_past, slice_get_read}
use denote.Ref.{Bor}
use Rattle.tf_sorted.specs.Rows.{first_key, AllAfter, IsRising, rows_from, rows_above, value_at}
use Rattle.tf_table.specs.declared.key.Key.{Key}
use Rattle.tf_table.specs.declared.entries.Entries.{Entries}
use Rattle.tf_table.specs.Key.{key_cmp}
use Rattle.tf_table.specs.Content.{first_some, entry_at, entry_of}
use Rattle.tf_table.specs.Entries.{entries_of}
use Rattle.tf_table.specs.First.{IsFirst, IsFirstIfAny, IsFirstAbove, lesser_key}
use Rattle.tf_table.specs.Rows.{rows_of, IsPaired}
use Rattle.tf_table.proofs.Determined.{first_some-none, ordering_cases}
use Rattle.tf_table.proofs.Keys.{keys_total, exact_keys}
use Rattle.tf_table.proofs.LaidOut.{key_there, length-rows_of}
use Rattle.tf_table.proofs.Rising.{is_eq-not, equal_from, less_from, greater_from, not_less_from, not_below_more, not_equal_more, greater_back, less_back, rows_from-at, rows_from-below, value_at-here, value_at-there, value_at-after, value_at-append}
use Rattle.tf_table.proofs.Searching.{searchable}

pub there_not_none : {X : Type 0} (o : Option X) → IsSome o → o ≡ None → ⊥
there_not_none o there none = false≢true (sym (ap is_some none) ∙ there)

some_mapped : {X Y : Type 0} (f : X → Y) (o : Option X) → IsSome o → IsSome (option_map f o)
some_mapped f None h = absurd (false≢true h)
some_mapped f (Some x) h = refl

some_in_first : {X : Type 0} (a b : Option X) → IsSome a → IsSome (first_some a b)
some_in_first None b h = absurd (false≢true h)
some_in_first (Some x) b h = refl

some_in_second : {X : Type 0} (a b : Option X) → IsSome b → IsSome (first_some a b)
some_in_second None b h = h
some_in_second (Some x) b h = refl

none_in_both : {X : Type 0} (a b : Option X) → a ≡ None → b ≡ None → first_some a b ≡ None
none_in_both {X} a b e h = ap (λ (v : Option X). first_some v b) e ∙ h

first_some-assoc : {X : Type 0} (a b c : Option X) → first_some a (first_some b c) ≡ first_some (first_some a b) c
first_some-assoc None b c = refl
first_some-assoc (Some x) b c = refl

-- the same key is first of other values, where the same of these keys have one
first_alike : {X Y : Type 0} (IsAmong : Key → Type 0) (value : Key → Option X) (other : Key → Option Y) (found : Option Key)
    → ((key : Key) → IsAmong key → value key ≡ None → other key ≡ None) → ((key : Key) → IsAmong key → IsSome (value key) → IsSome (other key))
    → IsFirstIfAny IsAmong value found → IsFirstIfAny IsAmong other found
first_alike IsAmong value other None none some h = λ key among. none key among (h key among)
first_alike IsAmong value other (Some first) none some h = record {
  among = h.among;
  there = some first h.among h.there;
  before = λ key among less. none key among (h.before key among less);
}

pub first_same : {X : Type 0} (IsAmong : Key → Type 0) (value other : Key → Option X) (found : Option Key)
    → ((key : Key) → IsAmong key → other key ≡ value key) → IsFirstIfAny IsAmong value found → IsFirstIfAny IsAmong other found
first_same IsAmong value other found same =
    first_alike IsAmong value other found (λ key among none. same key among ∙ none) (λ key among there. ap is_some (same key among) ∙ there)

-- the same where the values are told in another way
pub first_mapped : {X Y : Type 0} (IsAmong : Key → Type 0) (f : X → Y) (value : Key → Option X) (other : Key → Option Y) (found : Option Key)
    → ((key : Key) → other key ≡ option_map f (value key)) → IsFirstIfAny IsAmong value found → IsFirstIfAny IsAmong other found
first_mapped IsAmong f value other found same =
    first_alike IsAmong value other found (λ key among none. same key ∙ ap (option_map f) none) (λ key among there. ap is_some (same key) ∙ some_mapped f (value key) there)

-- there is one such key at most
pub one_first : {X : Type 0} (IsAmong : Key → Type 0) (value : Key → Option X) (a b : Option Key) → IsFirstIfAny IsAmong value a → IsFirstIfAny IsAmong value b → a ≡ b
one_first IsAmong value None None g h = refl
one_first IsAmong value None (Some k) g h = absurd (there_not_none (value k) h.there (g k h.among))
one_first IsAmong value (Some j) None g h = absurd (there_not_none (value j) g.there (h j g.among))
one_first IsAmong value (Some j) (Some k) g h = ordering_cases (key_cmp j k)
    (λ l. absurd (there_not_none (value j) g.there (h.before j g.among l)))
    (λ e. ap Some (exact_keys j k e))
    (λ l. absurd (there_not_none (value k) h.there (g.before k h.among (less_back key_cmp keys_total j k l))))

-- below a key that isn't above another
below_other : (i j k : Key) → key_cmp i j ≡ Less → is_lt (key_cmp k j) ≡ false → key_cmp i k ≡ Less
below_other i j k less n = ordering_cases (key_cmp j k)
    (λ l. keys_total.trans i j k less l)
    (λ e. subst (λ x. key_cmp i x ≡ Less) (exact_keys j k e) less)
    (λ g. absurd (not_less_from (key_cmp k j) n (less_back key_cmp keys_total j k g)))

-- of two values of each key, the second where the first isn't there
pub first_of_two : {X : Type 0} (IsAmong : Key → Type 0) (value other : Key → Option X) (a b : Option Key) → IsFirstIfAny IsAmong value a → IsFirstIfAny IsAmong other b
    → IsFirstIfAny IsAmong (λ key. first_some (value key) (other key)) (lesser_key a b)
first_of_two {X} IsAmong value other None b g h =
    first_same IsAmong other (λ key. first_some (value key) (other key)) b (λ key among. ap (λ (v : Option X). first_some v (other key)) (g key among)) h
first_of_two IsAmong value other (Some j) None g h =
    first_same IsAmong value (λ key. first_some (value key) (other key)) (Some j) (λ key among. ap (first_some (value key)) (h key among) ∙ first_some-none (value key)) g
first_of_two IsAmong value other (Some j) (Some k) g h = by_test (is_lt (key_cmp k j)) refl where
  by_test : (b : Bool) → is_lt (key_cmp k j) ≡ b → IsFirst IsAmong (λ key. first_some (value key) (other key)) (cond b k j)
  by_test true t = record {
    among = h.among;
    there = some_in_second (value k) (other k) h.there;
    before = λ key among less. none_in_both (value key) (other key) (g.before key among (keys_total.trans key k j less (less_from _ t))) (h.before key among less);
  }
  by_test false t = record {
    among = g.among;
    there = some_in_first (value j) (other j) g.there;
    before = λ key among less. none_in_both (value key) (other key) (g.before key among less) (h.before key among (below_other key j k less t));
  }

module _ {V : Type 0} where
  entry_of-push : (key : Key) (lists : List (List (Key × Option V))) (rows : List (Key × Option V)) → entry_of key (lists ++ rows ∷ []) ≡ first_some (entry_of key lists) (entry_at key rows)
  entry_of-push key [] rows = first_some-none (entry_at key rows)
  entry_of-push key (list ∷ lists) rows =
      ap (first_some (entry_at key list)) (entry_of-push key lists rows) ∙ first_some-assoc (entry_at key list) (entry_of key lists) (entry_at key rows)

  -- of lists of rows and one more
  pub first_of_lists : (below : Key) (lists : List (List (Key × Option V))) (rows : List (Key × Option V)) (a b : Option Key)
      → IsFirstAbove below (λ key. entry_of key lists) a → IsFirstAbove below (λ key. entry_at key rows) b → IsFirstAbove below (λ key. entry_of key (lists ++ rows ∷ [])) (lesser_key a b)
  first_of_lists below lists rows a b g h =
      first_same (λ key. key_cmp below key ≡ Less) (λ key. first_some (entry_of key lists) (entry_at key rows)) (λ key. entry_of key (lists ++ rows ∷ [])) (lesser_key a b)
      (λ key above. entry_of-push key lists rows)
      (first_of_two (λ key. key_cmp below key ≡ Less) (λ key. entry_of key lists) (λ key. entry_at key rows) a b g h)

lesser_key-none : (first : Option Key) → lesser_key first None ≡ first
lesser_key-none None = refl
lesser_key-none (Some key) = refl

module _ {E : Type 0} where
  first_in_cases : (below : Key) (r : Key × E) (rows : List (Key × E)) (b : Bool) → is_gt (key_cmp r.0 below) ≡ b → IsRising key_cmp (r ∷ rows)
      → IsFirstAbove below (λ key. value_at key_cmp key rows) (first_key (rows_above key_cmp below rows))
      → IsFirstAbove below (λ key. value_at key_cmp key (r ∷ rows)) (first_key (cond b (r ∷ rows_above key_cmp below rows) (rows_above key_cmp below rows)))
  first_in_cases below r rows true t rising h = record {
    among = less_back key_cmp keys_total r.0 below (greater_from _ t);
    there = ap is_some (value_at-here key_cmp keys_total r.0 r rows (ap is_eq (tied_itself keys_total r.0)));
    before = λ key above less.
        let g = greater_back key_cmp keys_total key r.0 less in
        value_at-there key_cmp keys_total key r rows (ap is_eq g) ∙ value_at-after key_cmp keys_total key r.0 rows (ap is_lt g) rising.0;
  }
  first_in_cases below r rows false t rising h =
      first_same (λ key. key_cmp below key ≡ Less) (λ key. value_at key_cmp key rows) (λ key. value_at key_cmp key (r ∷ rows)) (first_key (rows_above key_cmp below rows))
      (λ key above. value_at-there key_cmp keys_total key r rows (is_eq-not (key_cmp r.0 key) (λ e.
      let less : key_cmp below r.0 ≡ Less = subst (λ x. key_cmp below x ≡ Less) (sym (exact_keys r.0 key e)) above in
      false≢true (sym t ∙ ap is_gt (greater_back key_cmp keys_total below r.0 less)))))
      h

  -- of rows that rise it is the key of the first of those above
  pub first_in_rows : (below : Key) (rows : List (Key × E)) → IsRising key_cmp rows → IsFirstAbove below (λ key. value_at key_cmp key rows) (first_key (rows_above key_cmp below rows))
  first_in_rows below [] rising = λ key above. refl
  first_in_rows below (r ∷ rows) rising = first_in_cases below r rows (is_gt (key_cmp r.0 below)) refl rising (first_in_rows below rows rising.1)

  first_is : (below : Key) (rows : List (Key × E)) (found : Option Key) → IsRising key_cmp rows → first_key (rows_above key_cmp below rows) ≡ found → IsFirstAbove below (λ key. value_at key_cmp key rows) found
  first_is below rows found rising e = subst (λ (f : Option Key). IsFirstAbove below (λ key. value_at key_cmp key rows) f) e (first_in_rows below rows rising)

  -- of rows in any order and one more
  first_pushed : (below : Key) (rows : List (Key × E)) (r : Key × E) (first : Option Key) → IsFirstAbove below (λ key. value_at key_cmp key rows) first
      → IsFirstAbove below (λ key. value_at key_cmp key (rows ++ r ∷ [])) (lesser_key first (first_key (rows_above key_cmp below (r ∷ []))))
  first_pushed below rows r first h =
      first_same (λ key. key_cmp below key ≡ Less) (λ key. first_some (value_at key_cmp key rows) (value_at key_cmp key (r ∷ []))) (λ key. value_at key_cmp key (rows ++ r ∷ []))
      (lesser_key first (first_key (rows_above key_cmp below (r ∷ []))))
      (λ key above. value_at-append key_cmp keys_total key rows (r ∷ []))
      (first_of_two (λ key. key_cmp below key ≡ Less) (λ key. value_at key_cmp key rows) (λ key. value_at key_cmp key (r ∷ [])) first (first_key (rows_above key_cmp below (r ∷ []))) h
      (first_in_rows below (r ∷ []) (tt, tt)))

  pub first_with_above : (below : Key) (rows : List (Key × E)) (r : Key × E) (first : Option Key) → is_gt (key_cmp r.0 below) ≡ true → IsFirstAbove below (λ key. value_at key_cmp key rows) first
      → IsFirstAbove below (λ key. value_at key_cmp key (rows ++ r ∷ [])) (lesser_key first (Some r.0))
  first_with_above below rows r first t h =
      subst (λ (f : Option Key). IsFirstAbove below (λ key. value_at key_cmp key (rows ++ r ∷ [])) (lesser_key first f)) (ap first_key (cond-true (is_gt (key_cmp r.0 below)) (r ∷ []) [] t))
      (first_pushed below rows r first h)

  pub first_with_other : (below : Key) (rows : List (Key × E)) (r : Key × E) (first : Option Key) → is_gt (key_cmp r.0 below) ≡ false → IsFirstAbove below (λ key. value_at key_cmp key rows) first
      → IsFirstAbove below (λ key. value_at key_cmp key (rows ++ r ∷ [])) first
  first_with_other below rows r first t h =
      subst (λ (f : Option Key). IsFirstAbove below (λ key. value_at key_cmp key (rows ++ r ∷ [])) f)
      (ap (λ (rs : List (Key × E)). lesser_key first (first_key rs)) (cond-false (is_gt (key_cmp r.0 below)) (r ∷ []) [] t) ∙ lesser_key-none first)
      (first_pushed below rows r first h)

-- an order that stands higher among the three
not_greater_lower : (a b : Ordering) → ordering_index a ≤ ordering_index b → is_gt b ≡ false → is_gt a ≡ false
not_greater_lower Less b l e = refl
not_greater_lower Equal b l e = refl
not_greater_lower Greater Less l e = absurd (omega arith)
not_greater_lower Greater Equal l e = absurd (omega arith)
not_greater_lower Greater Greater l e = e

greater_higher : (a b : Ordering) → ordering_index a ≤ ordering_index b → is_gt a ≡ true → is_gt b ≡ true
greater_higher Less b l e = absurd (false≢true e)
greater_higher Equal b l e = absurd (false≢true e)
greater_higher Greater Less l e = absurd (omega arith)
greater_higher Greater Equal l e = absurd (omega arith)
greater_higher Greater Greater l e = refl

not_greater : (a : Ordering) → is_le a ≡ true → is_gt a ≡ false
not_greater Less e = refl
not_greater Equal e = refl
not_greater Greater e = sym e

greater : (a : Ordering) → is_le a ≡ false → is_gt a ≡ true
greater Less e = sym e
greater Equal e = sym e
greater Greater e = refl

le_lower : (a b : Ordering) → ordering_index a ≤ ordering_index b → is_le b ≡ true → is_le a ≡ true
le_lower Less b l e = refl
le_lower Equal b l e = refl
le_lower Greater Less l e = absurd (omega arith)
le_lower Greater Equal l e = absurd (omega arith)
le_lower Greater Greater l e = e

greater_from_sides : (a : Ordering) → is_lt a ≡ false → is_eq a ≡ false → is_gt a ≡ true
greater_from_sides Less l e = sym l
greater_from_sides Equal l e = sym e
greater_from_sides Greater l e = refl

module _ {E : Type 0} where
  above_split : (below : Key) (rows : List (Key × E)) (p : ℕ) → ((q : ℕ) (d : Key × E) → q < p → q < length rows → is_gt (key_cmp (get_or rows q d).0 below) ≡ false)
      → ((q : ℕ) (d : Key × E) → p ≤ q → q < length rows → is_gt (key_cmp (get_or rows q d).0 below) ≡ true) → rows_above key_cmp below rows ≡ drop p rows
  above_split below [] zero before after = refl
  above_split below [] (suc p) before after = refl
  above_split below (r ∷ rows) zero before after =
      cond-true (is_gt (key_cmp r.0 below)) _ _ (after 0 r (omega arith) (omega arith))
      ∙ ap (λ (rs : List (Key × E)). r ∷ rs) (above_split below rows zero (λ q d l h. absurd (omega arith)) (λ q d l h. after (suc q) d (omega arith) (omega arith)))
  above_split below (r ∷ rows) (suc p) before after =
      cond-false (is_gt (key_cmp r.0 below)) _ _ (before 0 r (omega arith) (omega arith))
      ∙ above_split below rows p (λ q d l h. before (suc q) d (omega arith) (omega arith)) (λ q d l h. after (suc q) d (omega arith) (omega arith))

  -- from the two rows round a place
  above_place : (below : Key) (rows : List (Key × E)) (p : ℕ) → IsRising key_cmp rows → p ≤ length rows → ((q : ℕ) (d : Key × E) → q + 1 ≡ p → is_gt (key_cmp (get_or rows q d).0 below) ≡ false)
      → ((d : Key × E) → p < length rows → is_gt (key_cmp (get_or rows p d).0 below) ≡ true) → rows_above key_cmp below rows ≡ drop p rows
  above_place below rows p rising within before after =
      above_split below rows p
      (λ q d l h. not_greater_lower (key_cmp (get_or rows q d).0 below) (key_cmp (get_or rows (p - 1) d).0 below)
      (searchable key_cmp keys_total exact_keys rows below rising q (p - 1) d (omega arith) (omega arith)) (before (p - 1) d (omega arith)))
      (λ q d l h. greater_higher (key_cmp (get_or rows p d).0 below) (key_cmp (get_or rows q d).0 below)
      (searchable key_cmp keys_total exact_keys rows below rising p q d l h) (after d (omega arith)))

  first_key-drop : (rows : List (Key × E)) (p : ℕ) → first_key (drop p rows) ≡ option_map (λ (r : Key × E). r.0) (slice_get rows p)
  first_key-drop [] zero = refl
  first_key-drop [] (suc p) = refl
  first_key-drop (r ∷ rows) zero = refl
  first_key-drop (r ∷ rows) (suc p) = first_key-drop rows p

  -- at a place with a greater key and none right before it
  pub first_at_place : (below : Key) (rows : List (Key × E)) (p : ℕ) (found : Option Key) → IsRising key_cmp rows → p ≤ length rows → ((q : ℕ) (d : Key × E) → q + 1 ≡ p → is_gt (key_cmp (get_or rows q d).0 below) ≡ false)
      → ((d : Key × E) → p < length rows → is_gt (key_cmp (get_or rows p d).0 below) ≡ true) → option_map (λ (r : Key × E). r.0) (slice_get rows p) ≡ found → IsFirstAbove below (λ key. value_at key_cmp key rows) found
  first_at_place below rows p found rising within before after e =
      first_is below rows found rising (ap first_key (above_place below rows p rising within before after) ∙ first_key-drop rows p ∙ e)

  -- of rows that rise those up to a key stand before all others
  pub partitioned : (rows : List (Key × E)) (below : Key) → IsRising key_cmp rows → IsPartitionedBy (λ (r : Key × E). is_le (key_cmp r.0 below)) rows
  partitioned rows below rising i j d order within up_to =
      le_lower (key_cmp (get_or rows i d).0 below) (key_cmp (get_or rows j d).0 below) (searchable key_cmp keys_total exact_keys rows below rising i j d order within) up_to

  pub first_at_partition : (below : Key) (rows : List (Key × E)) (p : ℕ) (found : Option Key) → IsRising key_cmp rows → p ≤ length rows
      → IsPartitionPoint (λ (r : Key × E). is_le (key_cmp r.0 below) ≡ true) (λ (r : Key × E). is_le (key_cmp r.0 below) ≡ false) rows p
      → option_map (λ (r : Key × E). r.0) (slice_get rows p) ≡ found → IsFirstAbove below (λ key. value_at key_cmp key rows) found
  first_at_partition below rows p found rising within point e =
      first_at_place below rows p found rising within
      (λ q d n. not_greater (key_cmp (get_or rows q d).0 below) (point.0 q d (omega arith) (omega arith)))
      (λ d l. greater (key_cmp (get_or rows p d).0 below) (point.1 p d (omega arith) l))
      e

  rows_above-after : (below k : Key) (rows : List (Key × E)) → is_lt (key_cmp k below) ≡ false → AllAfter key_cmp k rows → rows_above key_cmp below rows ≡ rows
  rows_above-after below k [] n a = refl
  rows_above-after below k (r ∷ rows) n a =
      cond-true (is_gt (key_cmp r.0 below)) _ _ (greater_from_sides (key_cmp r.0 below) (not_below_more key_cmp keys_total k r.0 below a.0 n) (not_equal_more key_cmp keys_total k r.0 below a.0 n))
      ∙ ap (λ (rs : List (Key × E)). r ∷ rs) (rows_above-after below k rows n a.1)

  -- the rows behind the first, or with it where it is above the key
  abbrev pub past : Key → List (Key × E) → List (Key × E)
  past below [] = []
  past below (r ∷ rows) = cond (is_gt (key_cmp r.0 below)) (r ∷ rows) rows

  above_cases : (below : Key) (r : Key × E) (rows : List (Key × E)) (b : Bool) → is_lt (key_cmp r.0 below) ≡ b → IsRising key_cmp (r ∷ rows)
      → rows_above key_cmp below rows ≡ past below (rows_from key_cmp below rows) → rows_above key_cmp below (r ∷ rows) ≡ past below (rows_from key_cmp below (r ∷ rows))
  above_cases below r rows true t rising h =
      cond-false (is_gt (key_cmp r.0 below)) _ _ (ap is_gt (less_from _ t)) ∙ h ∙ sym (ap (past below) (rows_from-below key_cmp keys_total below r rows t))
  above_cases below r rows false t rising h =
      ap (λ (rs : List (Key × E)). cond (is_gt (key_cmp r.0 below)) (r ∷ rs) rs) (rows_above-after below r.0 rows t rising.0)
      ∙ sym (ap (past below) (rows_from-at key_cmp keys_total below r rows t rising))

  above_past : (below : Key) (rows : List (Key × E)) → IsRising key_cmp rows → rows_above key_cmp below rows ≡ past below (rows_from key_cmp below rows)
  above_past below [] rising = refl
  above_past below (r ∷ rows) rising = above_cases below r rows (is_lt (key_cmp r.0 below)) refl rising (above_past below rows rising.1)

  -- among the rows that a seek leaves
  first_sought : (below : Key) (rows left : List (Key × E)) (found : Option Key) → IsRising key_cmp rows → left ≡ rows_from key_cmp below rows → first_key (past below left) ≡ found → IsFirstAbove below (λ key. value_at key_cmp key rows) found
  first_sought below rows left found rising seek e =
      first_is below rows found rising (ap first_key (above_past below rows rising) ∙ sym (ap (λ (rs : List (Key × E)). first_key (past below rs)) seek) ∙ e)

  pub sought_none : (below : Key) (rows left : List (Key × E)) (found : Option Key) → IsRising key_cmp rows → left ≡ rows_from key_cmp below rows → left ≡ [] → found ≡ None → IsFirstAbove below (λ key. value_at key_cmp key rows) found
  sought_none below rows left found rising seek e f = first_sought below rows left found rising seek (ap (λ (rs : List (Key × E)). first_key (past below rs)) e ∙ sym f)

  pub sought_first : (below : Key) (rows left : List (Key × E)) (r : Key × E) (behind : List (Key × E)) → IsRising key_cmp rows → left ≡ rows_from key_cmp below rows → left ≡ r ∷ behind → is_gt (key_cmp r.0 below) ≡ true
      → IsFirstAbove below (λ key. value_at key_cmp key rows) (Some r.0)
  sought_first below rows left r behind rising seek e t =
      first_sought below rows left (Some r.0) rising seek (ap (λ (rs : List (Key × E)). first_key (past below rs)) e ∙ ap first_key (cond-true (is_gt (key_cmp r.0 below)) (r ∷ behind) behind t))

  pub sought_second : (below : Key) (rows left : List (Key × E)) (r : Key × E) (behind : List (Key × E)) (found : Option Key) → IsRising key_cmp rows → left ≡ rows_from key_cmp below rows → left ≡ r ∷ behind → is_gt (key_cmp r.0 below) ≡ false
      → first_key behind ≡ found → IsFirstAbove below (λ key. value_at key_cmp key rows) found
  sought_second below rows left r behind found rising seek e t f =
      first_sought below rows left found rising seek (ap (λ (rs : List (Key × E)). first_key (past below rs)) e ∙ ap first_key (cond-false (is_gt (key_cmp r.0 below)) (r ∷ behind) behind t) ∙ f)

-- what a look at a place of a slice reads
pub item_read : {X : Type 0} (xs : List X) (i : ℕ) (r : Option (Bor X)) → IsItemAt xs i r → option_copied r ≡ slice_get xs i
item_read xs i None h = sym (slice_get_past xs i h.3)
item_read xs i (Some x) h = sym (slice_get_read xs (length xs) i x.now refl h.3.0 h.1)

slice_get-zip : {E : Type 0} (ks : List Key) (es : List E) (p : ℕ) → length es ≡ length ks → option_map (λ (r : Key × E). r.0) (slice_get (zip ks es) p) ≡ slice_get ks p
slice_get-zip [] es p e = refl
slice_get-zip (k ∷ ks) [] p e = absurd (omega arith)
slice_get-zip (k ∷ ks) (x ∷ es) zero e = refl
slice_get-zip (k ∷ ks) (x ∷ es) (suc p) e = slice_get-zip ks es p (omega arith)

-- the same of rows whose keys lie in a run
pub first_laid : {V A : Type 0} (below : Key) (ks : List Key) (es : Entries V A) (p : ℕ) (found : Option Key) → IsPaired ks es → IsRising key_cmp (rows_of ks es) → p ≤ length ks
    → ((q : ℕ) (d : Key) → q + 1 ≡ p → is_gt (key_cmp (get_or ks q d) below) ≡ false) → ((d : Key) → p < length ks → is_gt (key_cmp (get_or ks p d) below) ≡ true) → slice_get ks p ≡ found
    → IsFirstAbove below (λ key. entry_at key (rows_of ks es)) found
first_laid below ks es p found paired rising within before after e =
    let len = length-rows_of ks es paired in
    first_at_place below (rows_of ks es) p found rising (omega arith)
    (λ q d n. subst (λ (k : Key). is_gt (key_cmp k below) ≡ false) (sym (key_there ks es q d paired (omega arith))) (before q d.0 n))
    (λ d l. subst (λ (k : Key). is_gt (key_cmp k below) ≡ true) (sym (key_there ks es p d paired (omega arith))) (after d.0 (omega arith)))
    (slice_get-zip ks (entries_of (length ks) es) p paired ∙ e)

-- with fewer keys above it: how far a walk from key to key has to go
fewer_cases : {E : Type 0} (b c : Bool) (r : E) (xs ys : List E) → (b ≡ true → c ≡ true) → length xs ≤ length ys → length (cond b (r ∷ xs) xs) ≤ length (cond c (r ∷ ys) ys)
fewer_cases true true r xs ys h l = omega arith
fewer_cases true false r xs ys h l = absurd (false≢true (h refl))
fewer_cases false true r xs ys h l = omega arith
fewer_cases false false r xs ys h l = l

still_fewer_cases : {E : Type 0} (b c : Bool) (r : E) (xs ys : List E) → (b ≡ true → c ≡ true) → length xs < length ys → length (cond b (r ∷ xs) xs) < length (cond c (r ∷ ys) ys)
still_fewer_cases true true r xs ys h l = omega arith
still_fewer_cases true false r xs ys h l = absurd (false≢true (h refl))
still_fewer_cases false true r xs ys h l = omega arith
still_fewer_cases false false r xs ys h l = l

passed_cases : {E : Type 0} (b c : Bool) (r : E) (xs ys : List E) → b ≡ false → c ≡ true → length xs ≤ length ys → length (cond b (r ∷ xs) xs) < length (cond c (r ∷ ys) ys)
passed_cases true c r xs ys e h l = absurd (false≢true (sym e))
passed_cases false true r xs ys e h l = omega arith
passed_cases false false r xs ys e h l = absurd (false≢true h)

above_lower : (i j k : Key) → key_cmp i j ≡ Less → is_gt (key_cmp k j) ≡ true → is_gt (key_cmp k i) ≡ true
above_lower i j k less t = ap is_gt (greater_back key_cmp keys_total i k (keys_total.trans i j k less (less_back key_cmp keys_total k j (greater_from _ t))))

module _ {E : Type 0} (i j : Key) (less : key_cmp i j ≡ Less) where
  no_more_above : (rows : List (Key × E)) → length (rows_above key_cmp j rows) ≤ length (rows_above key_cmp i rows)
  no_more_above [] = omega arith
  no_more_above (r ∷ rows) =
      fewer_cases (is_gt (key_cmp r.0 j)) (is_gt (key_cmp r.0 i)) r (rows_above key_cmp j rows) (rows_above key_cmp i rows) (above_lower i j r.0 less) (no_more_above rows)

  at_row : (r : Key × E) (rows : List (Key × E)) (b : Bool) → is_eq (key_cmp r.0 j) ≡ b → (IsSome (value_at key_cmp j rows) → length (rows_above key_cmp j rows) < length (rows_above key_cmp i rows))
      → IsSome (value_at key_cmp j (r ∷ rows)) → length (rows_above key_cmp j (r ∷ rows)) < length (rows_above key_cmp i (r ∷ rows))
  at_row r rows true t h there =
      let same : r.0 ≡ j = exact_keys r.0 j (equal_from _ t) in
      passed_cases (is_gt (key_cmp r.0 j)) (is_gt (key_cmp r.0 i)) r (rows_above key_cmp j rows) (rows_above key_cmp i rows)
      (ap is_gt (equal_from _ t)) (subst (λ (k : Key). is_gt (key_cmp k i) ≡ true) (sym same) (ap is_gt (greater_back key_cmp keys_total i j less))) (no_more_above rows)
  at_row r rows false t h there =
      still_fewer_cases (is_gt (key_cmp r.0 j)) (is_gt (key_cmp r.0 i)) r (rows_above key_cmp j rows) (rows_above key_cmp i rows) (above_lower i j r.0 less)
      (h (ap is_some (sym (value_at-there key_cmp keys_total j r rows t)) ∙ there))

  pub fewer_above : (rows : List (Key × E)) → IsSome (value_at key_cmp j rows) → length (rows_above key_cmp j rows) < length (rows_above key_cmp i rows)
  fewer_above [] there = absurd (false≢true there)
  fewer_above (r ∷ rows) there = at_row r rows (is_eq (key_cmp r.0 j)) refl (fewer_above rows) there
