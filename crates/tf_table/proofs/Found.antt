-- What a search in the keys of a table says of its rows.
use Rattle.std.proofs.Common.{◌≡◌, ℕ, ◌+◌, ◌-◌, ◌<◌, ◌≤◌, List, [], ◌∷◌, length, take, get_or, Option, Some, None, true, false, not, ◌||◌, map, refl, arith, ap, sym, ◌∙◌, subst}
use Rattle.std.specs.List.{All, slice_get, zip}
use Rattle.std.proofs.Math.Dec.{ltb}
use Rattle.std.specs.Ordering.{is_lt, is_eq}
use Rattle.tf_sorted.specs.Rows.{value_at}
use Rattle.std.proofs.lemmas.Bool.{false≢true, le-ltb}
use Rattle.std.proofs.lemmas.List.{get_or_default}
use Rattle.std.proofs.lemmas.Option.{slice_get-get_or}
use Rattle.std.proofs.lemmas.List.Elements.{All-cons, All-head, All-nil, All-tail}
use Rattle.tf_table.specs.declared.key.Key.{Key}
use Rattle.tf_table.specs.declared.entries.Entries.{Entries}
use Rattle.tf_table.specs.declared.span.Span.{Span}
use Rattle.tf_table.specs.Entries.{entries_of}
use Rattle.tf_table.specs.Filter.{Holds, HoldsEach}
use Rattle.tf_table.specs.Key.{key_cmp}
use Rattle.tf_table.specs.Rows.{rows_of, IsLaidOut}
use Rattle.tf_table.specs.Span.{HasSpan}
use Rattle.tf_table.specs.Content.{entry_at}
use Rattle.tf_table.proofs.Dense.{HaveNoValue, LiesBetween, at_least, lies_between, none_where_last, not_below, rising_pair, time_there}
use Rattle.tf_table.proofs.Keys.{keys_total, exact_keys, key_itself, same_key}
use Rattle.tf_table.proofs.LaidOut.{length-rows_of, row_there, key_there}
use Rattle.tf_table.proofs.Rising.{AllBefore, is_eq-not, value_at-there}
use Rattle.tf_table.proofs.Places.{before_all, value_at-place, value_at-missing, value_at-end, value_at-under, value_at-over}

-- no row has a key that isn't as all keys are
entry_at-zip : {E : Type 0} (P : Key → Type 0) (key : Key) (ks : List Key) (es : List E) → All P ks → (P key → ⊥) → value_at key_cmp key (zip ks es) ≡ None
entry_at-zip P key [] es h n = refl
entry_at-zip P key (k ∷ ks) [] h n = refl
entry_at-zip P key (k ∷ ks) (e ∷ es) h n =
    value_at-there key_cmp keys_total key (k, e) (zip ks es)
    (is_eq-not (key_cmp k key) (λ same. n (subst P (exact_keys k key same) (All-head P k ks h))))
    ∙ entry_at-zip P key ks es (All-tail P k ks h) n

-- nor a value that the filter doesn't hold
pub entry_at-unheld : {V A : Type 0} (words : List ℕ) (count : ℕ) (key : Key) (ks : List Key) (es : Entries V A) → HoldsEach words count ks → (Holds words count key.value → ⊥) → entry_at key (rows_of ks es) ≡ None
entry_at-unheld words count key ks es h n = entry_at-zip (λ (x : Key). Holds words count x.value) key ks (entries_of (length ks) es) h n

-- the timestamps of keys lie within the span
abbrev IsWithin : Span → ℕ → Type 0
IsWithin span time = (span.earliest ≤ time) × (time ≤ span.latest)

keys_within : (span : Span) (ks : List Key) → All (IsWithin span) (map (λ (k : Key). k.timestamp) ks) → All (λ (k : Key). IsWithin span k.timestamp) ks
keys_within span [] h = All-nil (λ (k : Key). IsWithin span k.timestamp)
keys_within span (k ∷ ks) h =
    All-cons (λ (x : Key). IsWithin span x.timestamp) k ks
    (All-head (IsWithin span) k.timestamp (map (λ (x : Key). x.timestamp) ks) h)
    (keys_within span ks (All-tail (IsWithin span) k.timestamp (map (λ (x : Key). x.timestamp) ks) h))

is_within : (span : Span) (time : ℕ) → IsWithin span time → not (ltb time span.earliest || ltb span.latest time) ≡ true
is_within span time h =
    ap (λ early. not (early || ltb span.latest time)) (le-ltb time span.earliest h.0)
    ∙ ap (λ late. not (false || late)) (le-ltb span.latest time h.1)

-- nor a timestamp that comes before the span or after it
pub entry_at-outside : {V A : Type 0} (span : Span) (key : Key) (ks : List Key) (es : Entries V A) → HasSpan (Some span) (map (λ (k : Key). k.timestamp) ks) → not (ltb key.timestamp span.earliest || ltb span.latest key.timestamp) ≡ false → entry_at key (rows_of ks es) ≡ None
entry_at-outside span key ks es h n =
    entry_at-zip (λ (x : Key). IsWithin span x.timestamp) key ks (entries_of (length ks) es) (keys_within span ks h.within)
    (λ within. false≢true (sym n ∙ is_within span key.timestamp within))

pub entry_at-no_span : {V A : Type 0} (key : Key) (ks : List Key) (es : Entries V A) → HasSpan None (map (λ (k : Key). k.timestamp) ks) → entry_at key (rows_of ks es) ≡ None
entry_at-no_span key [] es h = refl
entry_at-no_span key (k ∷ ks) es h = absurd (let n = ap length h in omega arith)

module _ {V A : Type 0} {span : Option Span} (least greatest : Key) (ks : List Key) (es : Entries V A) (laid : IsLaidOut least greatest span ks es) where
  pub length-laid : length (rows_of ks es) ≡ length ks
  length-laid = length-rows_of ks es laid.paired

  -- all rows before a place with a lesser key right before it
  pub laid_before : (key : Key) (p : ℕ) → p ≤ length ks → ((q : ℕ) (d : Key) → q + 1 ≡ p → is_lt (key_cmp (get_or ks q d) key) ≡ true) → AllBefore key_cmp keys_total key (take p (rows_of ks es))
  laid_before key p l h =
      before_all key_cmp keys_total key (rows_of ks es) p laid.rising (omega (arith, length-laid))
      (λ q d e. subst (λ k. is_lt (key_cmp k key) ≡ true) (sym (key_there ks es q d laid.paired (omega arith))) (h q d.0 e))

  pub entry_at-found : (key : Key) (p : ℕ) (k : Key) (e : Option V) → AllBefore key_cmp keys_total key (take p (rows_of ks es)) → p < length ks → k ≡ get_or ks p k → is_eq (key_cmp k key) ≡ true → get_or (entries_of (length ks) es) p e ≡ e → entry_at key (rows_of ks es) ≡ Some e
  entry_at-found key p k e before l same eq entry =
      let there = row_there ks es p k e laid.paired l same entry in
      value_at-place key_cmp keys_total key (rows_of ks es) p (k, e) before (omega (arith, length-laid)) (ap (λ (r : Key × Option V). is_eq (key_cmp r.0 key)) there ∙ eq)
      ∙ ap (λ (r : Key × Option V). Some r.1) there

  -- where the key itself stands at the place
  pub entry_at-there : (key : Key) (p : ℕ) (e : Option V) → p < length ks → key ≡ get_or ks p key → get_or (entries_of (length ks) es) p e ≡ e → entry_at key (rows_of ks es) ≡ Some e
  entry_at-there key p e l same entry =
      entry_at-found key p key e
      (laid_before key p (omega arith) (λ q d at.
      let d' : Key × Option V = (d, None) in
      let less = rising_pair (rows_of ks es) q p d' laid.rising (omega arith) (omega (arith, length-laid)) in
      let here : (get_or (rows_of ks es) p d').0 ≡ key = key_there ks es p d' laid.paired l ∙ get_or_default ks p d key l ∙ sym same in
      ap (λ k. is_lt (key_cmp k key)) (sym (key_there ks es q d' laid.paired (omega arith)))
      ∙ ap (λ k. is_lt (key_cmp (get_or (rows_of ks es) q d').0 k)) (sym here)
      ∙ ap is_lt less))
      l same (ap is_eq (key_itself key)) entry

  pub entry_at-missing : (key : Key) (p : ℕ) (k : Key) → AllBefore key_cmp keys_total key (take p (rows_of ks es)) → p < length ks → k ≡ get_or ks p k → is_lt (key_cmp k key) ≡ false → is_eq (key_cmp k key) ≡ false → entry_at key (rows_of ks es) ≡ None
  entry_at-missing key p k before l same n e =
      let d : Key × Option V = (k, None) in
      let there : k ≡ (get_or (rows_of ks es) p d).0 = same ∙ sym (key_there ks es p d laid.paired l) in
      value_at-missing key_cmp keys_total key (rows_of ks es) p d laid.rising before (omega (arith, length-laid)) (subst (λ x. is_lt (key_cmp x key) ≡ false) there n) (subst (λ x. is_eq (key_cmp x key) ≡ false) there e)

  pub entry_at-end : (key : Key) (p : ℕ) → AllBefore key_cmp keys_total key (take p (rows_of ks es)) → length ks ≤ p → entry_at key (rows_of ks es) ≡ None
  entry_at-end key p before l = value_at-end key_cmp keys_total key (rows_of ks es) p before (omega (arith, length-laid))

  -- outside of the least and the greatest key
  pub entry_at-under : (key : Key) → is_lt (key_cmp key least) ≡ true → entry_at key (rows_of ks es) ≡ None
  entry_at-under key e = value_at-under key_cmp keys_total key (rows_of ks es) laid.rising (λ d l.
      let some : 0 < length ks = omega (arith, length-laid) in
      let d' : Key × Option V = (least, d.1) in
      let first : least ≡ (get_or (rows_of ks es) 0 d').0 = laid.first some ∙ sym (key_there ks es 0 d' laid.paired some) in
      subst (λ x. is_lt (key_cmp key x) ≡ true) (first ∙ ap (λ (r : Key × Option V). r.0) (get_or_default (rows_of ks es) 0 d' d l)) e)

  pub entry_at-over : (key : Key) → is_lt (key_cmp greatest key) ≡ true → entry_at key (rows_of ks es) ≡ None
  entry_at-over key e = value_at-over key_cmp keys_total key (rows_of ks es) laid.rising (λ d l.
      let some : 0 < length ks = omega (arith, length-laid) in
      let d' : Key × Option V = (greatest, d.1) in
      let n : length (rows_of ks es) - 1 ≡ length ks - 1 = ap (λ m. m - 1) length-laid in
      let last : greatest ≡ (get_or (rows_of ks es) (length ks - 1) d').0 = laid.last some ∙ sym (key_there ks es (length ks - 1) d' laid.paired (omega arith)) in
      subst (λ x. is_lt (key_cmp x key) ≡ true) (last ∙ ap (λ (r : Key × Option V). r.0) (get_or_default (rows_of ks es) (length ks - 1) d' d (omega (arith, length-laid))) ∙ ap (λ m. (get_or (rows_of ks es) m d).0) (sym n)) e)

  first_row : 0 < length ks → (d : Key × Option V) → (get_or (rows_of ks es) 0 d).0 ≡ least
  first_row some d = key_there ks es 0 d laid.paired some ∙ get_or_default ks 0 d.0 least some ∙ sym (laid.first some)

  last_row : 0 < length ks → (d : Key × Option V) → (get_or (rows_of ks es) (length (rows_of ks es) - 1) d).0 ≡ greatest
  last_row some d =
      ap (λ n. (get_or (rows_of ks es) (n - 1) d).0) length-laid
      ∙ key_there ks es (length ks - 1) d laid.paired (omega arith)
      ∙ get_or_default ks (length ks - 1) d.0 greatest (omega arith)
      ∙ sym (laid.last some)

  -- where no row has a value, and there are as many as timestamps from the first to the last
  module _ (some : 0 < length ks) (none : greatest.value ≡ 0) (many : length ks - 1 ≡ greatest.timestamp - least.timestamp) where
    no_values : HaveNoValue (rows_of ks es)
    no_values = none_where_last (rows_of ks es) laid.rising (λ d. ap (λ (k : Key). k.value) (last_row some d) ∙ none)

    no_first_value : least.value ≡ 0
    no_first_value =
        let d : Key × Option V = (least, None) in
        ap (λ (k : Key). k.value) (sym (first_row some d)) ∙ no_values 0 d (omega (arith, length-laid))

    -- so the greatest is as late as there are rows
    late_enough : least.timestamp + (length ks - 1) ≤ greatest.timestamp
    late_enough =
        let d : Key × Option V = (least, None) in
        let low = at_least (rows_of ks es) least.timestamp laid.rising no_values (λ e l. let f = ap (λ (k : Key). k.timestamp) (first_row some e) in omega arith) (length (rows_of ks es) - 1) d (omega (arith, length-laid)) in
        let last = ap (λ (k : Key). k.timestamp) (last_row some d) in
        omega (arith, length-laid)

    module _ (key : Key) (from : is_lt (key_cmp key least) ≡ false) (upto : is_lt (key_cmp greatest key) ≡ false) where
      between : LiesBetween least greatest key
      between = lies_between least greatest key no_first_value none from upto

      pub dense_within : key.timestamp - least.timestamp < length ks
      dense_within = let f = between.from in let u = between.upto in omega arith

      dense_row : (d : Key × Option V) → (get_or (rows_of ks es) (key.timestamp - least.timestamp) d).0 ≡ key
      dense_row d =
          let within : key.timestamp - least.timestamp < length (rows_of ks es) = omega (arith, length-laid, dense_within) in
          let f = between.from in
          let u = between.upto in
          let last : greatest.timestamp ≡ least.timestamp + (length (rows_of ks es) - 1) = omega (arith, length-laid) in
          let time = time_there (rows_of ks es) least.timestamp greatest.timestamp laid.rising no_values
          (λ e l. ap (λ (k : Key). k.timestamp) (first_row some e)) (λ e l. ap (λ (k : Key). k.timestamp) (last_row some e)) last (key.timestamp - least.timestamp) d within in
          same_key _ key (no_values (key.timestamp - least.timestamp) d within ∙ sym between.value) (omega arith)

      pub dense_found : (e : Option V) → get_or (entries_of (length ks) es) (key.timestamp - least.timestamp) e ≡ e → entry_at key (rows_of ks es) ≡ Some e
      dense_found e entry =
          entry_at-there key (key.timestamp - least.timestamp) e dense_within
          (sym (dense_row (key, e)) ∙ key_there ks es (key.timestamp - least.timestamp) (key, e) laid.paired dense_within)
          entry

    pub dated_there : (t : ℕ) → least.timestamp ≤ t → t - least.timestamp < length ks → entry_at (record { value = 0; timestamp = t }) (rows_of ks es) ≡ slice_get (entries_of (length ks) es) (t - least.timestamp)
    dated_there t early late =
        let key : Key = record { value = 0; timestamp = t } in
        let entries : List (Option V) = entries_of (length ks) es in
        let entry : Option V = get_or entries (t - least.timestamp) None in
        let within : t - least.timestamp < length entries = omega (arith, laid.paired) in
        dense_found key (not_below key least (sym no_first_value) early) (not_below greatest key none (omega (arith, late_enough))) entry (get_or_default entries (t - least.timestamp) entry None within)
        ∙ sym (slice_get-get_or entries (t - least.timestamp) None within)
