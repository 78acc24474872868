-- A walk over rows by their keys: the first from a key on, and those behind it.
use Rattle.std.proofs.Common.{◌≡◌, ◌+◌, ℕ, List, [], ◌∷◌, Option, Some, Bool, true, false, not, refl, sym, ◌∙◌, ap, subst, inl, inr, arith}
use Rattle.std.specs.Option.{is_some}
use Rattle.std.specs.Ordering.{is_gt, is_lt, nat_cmp, ordering_then}
use Rattle.std.specs.declared.cmp.Ordering.{Ordering}
use Rattle.std.specs.declared.cmp.Ordering.TheVariants.{Less, Equal, Greater}
use Rattle.std.proofs.lemmas.Bool.{cond-true, not-true}
use Rattle.std.proofs.lemmas.Bool.Decides.{nat_tests}
use Rattle.std.proofs.lemmas.Cmp.{tied_itself}
use Rattle.tf_sorted.specs.Rows.{first_key, AllAfter, IsRising, rows_from, value_at}
use Rattle.tf_table.specs.declared.key.Key.{Key}
use Rattle.tf_table.specs.First.{IsFirstFrom}
use Rattle.tf_table.specs.Key.{key_cmp}
use Rattle.tf_table.proofs.Determined.{IsRising-filter, bool_cases}
use Rattle.tf_table.proofs.First.{one_first}
use Rattle.tf_table.proofs.Keys.{exact_keys, keys_total}
use Rattle.tf_table.proofs.Rising.{greater_back, rows_from-at, rows_from-below}
use Rattle.tf_manifest.specs.Rows.{key_of}
use Rattle.tf_manifest.proofs.Members.{Has}
use Rattle.tf_manifest.proofs.OneValue.{has_kept}
use Rattle.tf_manifest.proofs.Pairs.{value_from, value_listed}
use Rattle.tf_rows.proofs.Changes.{no_value}
use Rattle.tf_rows.proofs.Statuses.{keeps, passes}

-- the key right above one
abbrev pub next_key : Key → Key
next_key key = key_of key.value (key.timestamp + 1)

next_number : (s t : ℕ) → is_lt (nat_cmp s (t + 1)) ≡ not (is_gt (nat_cmp s t))
next_number s t = grind (arith, nat_tests)

next_then : (o : Ordering) (s t : ℕ) → is_lt (ordering_then o (nat_cmp s (t + 1))) ≡ not (is_gt (ordering_then o (nat_cmp s t)))
next_then Less s t = refl
next_then Equal s t = next_number s t
next_then Greater s t = refl

-- what isn't above a key is below the next one
below_next : (a k : Key) → is_lt (key_cmp a (next_key k)) ≡ not (is_gt (key_cmp a k))
below_next a k = next_then (nat_cmp a.value k.value) a.timestamp k.timestamp

module _ {E : Type 0} where
  after_has : (k : Key) (rows : List (Key × E)) (r : Key × E) → AllAfter key_cmp k rows → Has rows r → key_cmp k r.0 ≡ Less
  after_has k [] r all h = absurd h
  after_has k (s ∷ rows) r all (inl e) = ap (λ (q : Key × E). key_cmp k q.0) (sym e) ∙ all.0
  after_has k (s ∷ rows) r all (inr h) = after_has k rows r all.1 h

  -- no row from the first on has a key below the first's
  pub not_before : (r : Key × E) (left : List (Key × E)) (key : Key) (e : E) → AllAfter key_cmp r.0 left → key_cmp key r.0 ≡ Less → Has (r ∷ left) (key, e) → ⊥
  not_before r left key e behind less (inl same) =
      let tied : key_cmp key r.0 ≡ Equal = ap (λ (s : Key × E). key_cmp key s.0) same ∙ tied_itself keys_total key in
      let wrong : Equal ≡ Less = sym tied ∙ less in
      absurd (cc)
  not_before r left key e behind less (inr later) =
      let above : key_cmp key r.0 ≡ Greater = greater_back key_cmp keys_total r.0 key (after_has r.0 left (key, e) behind later) in
      let wrong : Greater ≡ Less = sym above ∙ less in
      absurd (cc)

  module _ (rows : List (Key × E)) (rising : IsRising key_cmp rows) (value : Key → Option E) (values : (key : Key) → value_at key_cmp key rows ≡ value key) where
    -- a key with a value, at or above another, is that of a row from there on
    row_there : (from key : Key) (e : E) → is_lt (key_cmp key from) ≡ false → value key ≡ Some e → Has (rows_from key_cmp from rows) (key, e)
    row_there from key e at is =
        keeps (λ (r : Key × E). not (is_lt (key_cmp r.0 from))) rows (key, e) (value_from rows key e (values key ∙ is)) (ap not at)

    first_of_left : (from : Key) (left : List (Key × E)) → rows_from key_cmp from rows ≡ left → IsFirstFrom from value (first_key left)
    first_of_left from [] none = λ key at. no_value (value key) (λ e is. subst (λ (rs : List (Key × E)). Has rs (key, e)) none (row_there from key e at is))
    first_of_left from (r ∷ left) own =
        let test : Key × E → Bool = λ (s : Key × E). not (is_lt (key_cmp s.0 from)) in
        let here : Has (rows_from key_cmp from rows) r = subst (λ (rs : List (Key × E)). Has rs r) (sym own) (inl refl) in
        let behind : IsRising key_cmp (r ∷ left) = subst (λ (rs : List (Key × E)). IsRising key_cmp rs) own (IsRising-filter key_cmp keys_total exact_keys test rows rising) in
        record {
          among = not-true (is_lt (key_cmp r.0 from)) (passes test rows r here);
          there = ap is_some (sym (values r.0) ∙ value_listed rows r.0 r.1 rising (has_kept test rows r here));
          before = λ key at less. no_value (value key) (λ e is. not_before r left key e behind.0 less (subst (λ (rs : List (Key × E)). Has rs (key, e)) own (row_there from key e at is)));
        }

    -- the first key with a value, from a key on, is that of the first row from there on
    pub first_is : (from : Key) (found : Option Key) → IsFirstFrom from value found → found ≡ first_key (rows_from key_cmp from rows)
    first_is from found is =
        one_first (λ key. is_lt (key_cmp key from) ≡ false) value found (first_key (rows_from key_cmp from rows)) is
        (first_of_left from (rows_from key_cmp from rows) refl)

  -- rows above a key, from the next key on
  all_from : (k : Key) (rows : List (Key × E)) → AllAfter key_cmp k rows → rows_from key_cmp (next_key k) rows ≡ rows
  all_from k [] after = refl
  all_from k (r ∷ rows) after =
      let above : is_lt (key_cmp r.0 (next_key k)) ≡ false = below_next r.0 k ∙ ap (λ (o : Ordering). not (is_gt o)) (greater_back key_cmp keys_total k r.0 after.0) in
      cond-true (not (is_lt (key_cmp r.0 (next_key k)))) _ _ (ap not above) ∙ ap (λ (rs : List (Key × E)). r ∷ rs) (all_from k rows after.1)

  -- behind the first row from a key on stand those from the key next to its own on
  pub behind_first : (rows : List (Key × E)) → IsRising key_cmp rows → (from : Key) (r : Key × E) (rest : List (Key × E)) → rows_from key_cmp from rows ≡ r ∷ rest → rows_from key_cmp (next_key r.0) rows ≡ rest
  behind_first [] rising from r rest is = cc
  behind_first (q ∷ rows) rising from r rest is = bool_cases (is_lt (key_cmp q.0 from))
      (λ below.
      let later : rows_from key_cmp from rows ≡ r ∷ rest = sym (rows_from-below key_cmp keys_total from q rows below) ∙ is in
      let among : Has rows r = has_kept (λ (s : Key × E). not (is_lt (key_cmp s.0 from))) rows r (subst (λ (rs : List (Key × E)). Has rs r) (sym later) (inl refl)) in
      let less : is_lt (key_cmp q.0 (next_key r.0)) ≡ true = below_next q.0 r.0 ∙ ap (λ (o : Ordering). not (is_gt o)) (after_has q.0 rows r rising.0 among) in
      rows_from-below key_cmp keys_total (next_key r.0) q rows less ∙ behind_first rows rising.1 from r rest later)
      (λ at.
      let all : q ∷ rows ≡ r ∷ rest = sym (rows_from-at key_cmp keys_total from q rows at rising) ∙ is in
      let same : q ≡ r = cc in
      let others : rows ≡ rest = cc in
      let less : is_lt (key_cmp q.0 (next_key r.0)) ≡ true = ap (λ (s : Key × E). is_lt (key_cmp s.0 (next_key r.0))) same ∙ below_next r.0 r.0 ∙ ap (λ (o : Ordering). not (is_gt o)) (tied_itself keys_total r.0) in
      rows_from-below key_cmp keys_total (next_key r.0) q rows less ∙ all_from r.0 rows (subst (λ (s : Key × E). AllAfter key_cmp s.0 rows) same rising.0) ∙ others)
