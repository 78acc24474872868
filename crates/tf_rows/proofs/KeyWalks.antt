-- The first key with a value, found by a walk over keys of which those with a value are some.
use Rattle.std.proofs.Common.{◌≡◌, ℕ, ◌<◌, List, length, Option, Some, None, IsSome, false, sym, ◌∙◌, ap, subst}
use Rattle.std.specs.Ordering.{is_lt}
use Rattle.std.specs.declared.cmp.Ordering.TheVariants.{Less}
use Rattle.std.proofs.lemmas.Cmp.{tied_itself}
use Rattle.tf_sorted.specs.Rows.{rows_above}
use Rattle.tf_table.specs.declared.key.Key.{Key}
use Rattle.tf_table.specs.Key.{key_cmp}
use Rattle.tf_table.specs.Content.{entry_at}
use Rattle.tf_table.specs.First.{IsFirstFrom, IsFirstAbove}
use Rattle.tf_table.proofs.Determined.{ordering_cases}
use Rattle.tf_table.proofs.First.{fewer_above}
use Rattle.tf_table.proofs.Keys.{keys_total, exact_keys}
use Rattle.tf_table.proofs.Rising.{less_back, not_below_more, not_less_from}

-- a walk from a key on has come to another, and has passed no value
pub record HasComeTo {V : Type 0} (value : Key → Option V) (from place : Key) : Type 0 where
  pub among : is_lt (key_cmp place from) ≡ false
  pub before : (key : Key) → is_lt (key_cmp key from) ≡ false → key_cmp key place ≡ Less → value key ≡ None

-- how many keys the walk has before it
abbrev pub keys_above : {E : Type 0} → List (Key × Option E) → Key → ℕ
keys_above held place = length (rows_above key_cmp place held)

pub starts : {V : Type 0} (value : Key → Option V) (from : Key) → HasComeTo value from from
starts value from = record { among = ap is_lt (tied_itself keys_total from); before = λ key among less. absurd (not_less_from (key_cmp key from) among less) }

module _ {E V : Type 0} (held : List (Key × Option E)) (value : Key → Option V) (all : (key : Key) → entry_at key held ≡ None → value key ≡ None) (from place : Key) (came : HasComeTo value from place) where
  -- nothing was passed where it has no value
  none_upto : (key : Key) → value place ≡ None → (key_cmp place key ≡ Less → entry_at key held ≡ None) → is_lt (key_cmp key from) ≡ false → value key ≡ None
  none_upto key none above among = ordering_cases (key_cmp key place)
      (λ l. came.before key among l)
      (λ e. ap value (exact_keys key place e) ∙ none)
      (λ g. all key (above (less_back key_cmp keys_total key place g)))

  pub comes_further : (next : Key) → value place ≡ None → IsFirstAbove place (λ key. entry_at key held) (Some next) → HasComeTo value from next
  comes_further next none first = record {
    among = not_below_more key_cmp keys_total place next from first.among came.among;
    before = λ key among less. none_upto key none (λ above. first.before key above less) among;
  }

  pub comes_to_end : (found : Option Key) → value place ≡ None → IsFirstAbove place (λ key. entry_at key held) None → found ≡ None → IsFirstFrom from value found
  comes_to_end found none first end =
      subst (λ (f : Option Key). IsFirstFrom from value f) (sym end) (λ key among. none_upto key none (λ above. first key above) among)

  pub comes_to_value : IsSome (value place) → IsFirstFrom from value (Some place)
  comes_to_value there = record { among = came.among; there = there; before = came.before }

pub keys_above-fewer : {E : Type 0} (held : List (Key × Option E)) (place next : Key) → IsFirstAbove place (λ key. entry_at key held) (Some next) → keys_above held next < keys_above held place
keys_above-fewer held place next first = fewer_above place next first.among held first.there
