-- The first list that has a key, place by place.
use Rattle.std.proofs.Common.{◌≡◌, ℕ, zero, suc, ◌+◌, ◌-◌, ◌<◌, ◌≤◌, arith, List, [], ◌∷◌, length, map, take, get_or, Option, Some, None, slice_get, refl, sym, ◌∙◌, ap, subst, add-one}
use Rattle.std.specs.List.{All}
use Rattle.std.specs.Option.{option_and_then, option_map}
use Rattle.std.proofs.lemmas.Bool.{false≢true, le-ltb}
use Rattle.std.proofs.lemmas.List.Elements.{All-head, All-tail}
use Rattle.std.proofs.lemmas.Option.{option_and_then_some, slice_get-map, slice_get-get_or, slice_get_within}
use Rattle.tf_table.specs.declared.key.Key.{Key}
use Rattle.tf_table.specs.declared.span.Span.{Span}
use Rattle.tf_table.specs.Key.{key_cmp}
use Rattle.tf_table.specs.Content.{first_some, entry_at, entry_of, AreDated}
use Rattle.tf_table.specs.Span.{HasSpan, timestamps}
use Rattle.tf_table.proofs.Keys.{exact_keys, keys_total}
use Rattle.tf_table.proofs.Rising.{is_eq-not, value_at-there}
use Rattle.tf_look_ups.specs.declared.finder.Part.{Part}
use Rattle.tf_look_ups.specs.Finder.{IsInPart, IsOutside, AreSilent, IsDatedAt}
use Rattle.tf_manifest.specs.Rows.{key_of}

first_absent : {X : Type 0} (a b : Option X) → first_some a b ≡ None → a ≡ None
first_absent None b e = refl
first_absent (Some x) b e = absurd (cc)

others_absent : {X : Type 0} (a b : Option X) → first_some a b ≡ None → b ≡ None
others_absent None b e = e
others_absent (Some x) b e = absurd (cc)

alone : {X : Type 0} (a : Option X) → first_some a None ≡ a
alone None = refl
alone (Some x) = refl

module _ {V : Type 0} (key : Key) where
  -- where the lists before a place don't have the key, those up to it have what that one has
  pub entry_next : (n : ℕ) (lists : List (List (Key × Option V))) (rows : List (Key × Option V)) → entry_of key (take n lists) ≡ None → slice_get lists n ≡ Some rows → entry_of key (take (suc n) lists) ≡ entry_at key rows
  entry_next zero (x ∷ lists) rows e s = alone (entry_at key x) ∙ ap (λ r. entry_at key r) (same s)
    where
      same : Some x ≡ Some rows → x ≡ rows
      same h = cc
  entry_next (suc n) (x ∷ lists) rows e s =
      ap (λ a. first_some a (entry_of key (take (suc n) lists))) (first_absent (entry_at key x) (entry_of key (take n lists)) e)
      ∙ entry_next n lists rows (others_absent (entry_at key x) (entry_of key (take n lists)) e) s
  entry_next zero [] rows e s = absurd (cc)
  entry_next (suc n) [] rows e s = absurd (cc)

  -- and if that one has it, so do all
  pub entry_there : (n : ℕ) (lists : List (List (Key × Option V))) (rows : List (Key × Option V)) (entry : Option V) → entry_of key (take n lists) ≡ None → slice_get lists n ≡ Some rows → entry_at key rows ≡ Some entry → entry_of key lists ≡ Some entry
  entry_there zero (x ∷ lists) rows entry e s h = ap (λ a. first_some a (entry_of key lists)) (ap (λ r. entry_at key r) (same s) ∙ h)
    where
      same : Some x ≡ Some rows → x ≡ rows
      same h = cc
  entry_there (suc n) (x ∷ lists) rows entry e s h =
      ap (λ a. first_some a (entry_of key lists)) (first_absent (entry_at key x) (entry_of key (take n lists)) e)
      ∙ entry_there n lists rows entry (others_absent (entry_at key x) (entry_of key (take n lists)) e) s h
  entry_there zero [] rows entry e s h = absurd (cc)
  entry_there (suc n) [] rows entry e s h = absurd (cc)

-- rows whose timestamps are all as a key's isn't don't have the key
key_absent : {V : Type 0} (P : ℕ → Type 0) (key : Key) (rows : List (Key × Option V)) → (P key.timestamp → ⊥) → All P (timestamps rows) → entry_at key rows ≡ None
key_absent P key [] n h = refl
key_absent P key (r ∷ rows) n h =
    value_at-there key_cmp keys_total key r rows
    (is_eq-not (key_cmp r.0 key) (λ same. n (subst (λ (k : Key). P k.timestamp) (exact_keys r.0 key same) (All-head P r.0.timestamp (timestamps rows) h))))
    ∙ key_absent P key rows n (All-tail P r.0.timestamp (timestamps rows) h)

-- a table has nothing at a timestamp outside its span
pub outside_absent : {V : Type 0} (span : Option Span) (key : Key) (rows : List (Key × Option V)) → HasSpan span (timestamps rows) → IsOutside span key.timestamp → entry_at key rows ≡ None
outside_absent None key [] h o = refl
outside_absent None key (r ∷ rows) h o = absurd (let n = ap length h in omega arith)
outside_absent (Some span) key rows h o =
    key_absent (λ time. (span.earliest ≤ time) × (time ≤ span.latest)) key rows
    (λ within. false≢true (sym o ∙ rw (le-ltb key.timestamp span.earliest within.0, le-ltb span.latest key.timestamp within.1) refl))
    h.within

-- where the lists before a place have nothing in a part of time, those up to it have nothing in what of it lies beside its span
pub silent_next : {V : Type 0} (n : ℕ) (lists : List (List (Key × Option V))) (rows : List (Key × Option V)) (part next : Part) (span : Option Span) → slice_get lists n ≡ Some rows → HasSpan span (timestamps rows)
    → ((t : ℕ) → IsInPart next t → IsInPart part t) → ((t : ℕ) → IsInPart next t → IsOutside span t) → AreSilent part (take n lists) → AreSilent next (take (n + 1) lists)
silent_next n lists rows part next span s h kept outside silent = λ key inside.
    ap (λ k. entry_of key (take k lists)) (add-one n)
    ∙ entry_next key n lists rows (silent key (kept key.timestamp inside)) s
    ∙ outside_absent span key rows h (outside key.timestamp inside)

-- what is read of a list of tables at a place
pub rows_there : {S R : Type 0} (rows_of : S → R) (tables : List S) (place : ℕ) (table : S) (rows : R) → place < length tables → table ≡ get_or tables place table → rows ≡ rows_of table → slice_get (map rows_of tables) place ≡ Some rows
rows_there rows_of tables place table rows l is same =
    slice_get-map rows_of tables place
    ∙ ap (option_map rows_of) (slice_get-get_or tables place table l ∙ ap Some (sym is))
    ∙ ap Some (sym same)

module _ {V : Type 0} where
  -- a table's entries stand where the table does
  pub dated_at : (place from : ℕ) (entries : List (Option V)) (lists : List (List (Key × Option V))) (rows : List (Key × Option V)) → slice_get lists place ≡ Some rows → AreDated from entries rows → IsDatedAt place from entries lists
  dated_at place from entries lists rows there dated = λ t early late. ap (option_and_then (λ rs. entry_at (key_of 0 t) rs)) there ∙ dated t early late

  pub none_dated : (place from : ℕ) (entries : List (Option V)) (lists : List (List (Key × Option V))) → entries ≡ [] → IsDatedAt place from entries lists
  none_dated place from entries lists none = λ t early late. absurd (omega (arith, ap length none))

  -- an entry that stands in its place is the key's, where no newer table has the timestamp
  pub entry_in_its_place : (t place from : ℕ) (part : Part) (entries : List (Option V)) (entry : Option V) (lists : List (List (Key × Option V)))
      → IsDatedAt place from entries lists → AreSilent part (take place lists) → IsInPart part t → from ≤ t → slice_get entries (t - from) ≡ Some entry → entry_of (key_of 0 t) lists ≡ Some entry
  entry_in_its_place t place from part entries entry lists dated silent inside early found =
      option_and_then_some (λ rows. entry_at (key_of 0 t) rows) (slice_get lists place) entry
      (dated t early (slice_get_within entries (t - from) entry found) ∙ found)
      (λ rows there has. entry_there (key_of 0 t) place lists rows entry (silent (key_of 0 t) inside) there has)
