-- Bits of a filter that are set stay set.
use Rattle.std.proofs.Common.{◌≡◌, ℕ, ◌<◌, List, length, set, get_or, bit_or, sym, ◌∙◌, ap, subst, arith, ◌⊎◌, inl, inr}
use Rattle.std.proofs.lemmas.Bool.{cases_order}
use Rattle.std.proofs.lemmas.List.{length-set, get_or-set_same, get_or-set_other}
use Rattle.std.proofs.lemmas.Nat.{or_comm}
use Rattle.std.proofs.lemmas.Nat.Bits.{bit_at_or, same_from_bits}
use Rattle.std.specs.Int.Bits.{or_self}
use Rattle.tf_table.specs.Filter.{hash_of, place_of, bits_of, HasBits, Holds}

or_assoc : (a b c : ℕ) → bit_or (bit_or a b) c ≡ bit_or a (bit_or b c)
or_assoc a b c = same_from_bits (bit_or (bit_or a b) c) (bit_or a (bit_or b c)) (λ i. omega (arith, bit_at_or (bit_or a b) c i, bit_at_or a b i, bit_at_or a (bit_or b c) i, bit_at_or b c i))

pub or_more : (word more bits : ℕ) → bit_or word bits ≡ word → bit_or (bit_or word more) bits ≡ bit_or word more
or_more word more bits h = or_assoc word more bits ∙ ap (bit_or word) (or_comm more bits) ∙ sym (or_assoc word bits more) ∙ ap (λ w. bit_or w more) h

or_twice : (word bits : ℕ) → bit_or (bit_or word bits) bits ≡ bit_or word bits
or_twice word bits = or_assoc word bits bits ∙ ap (bit_or word) (or_self bits)

module _ (words : List ℕ) (place word more : ℕ) (within : place < length words) (is : word ≡ get_or words place word) where
  -- the words with more bits in one of them
  abbrev pub with_bits : List ℕ
  with_bits = set words place (bit_or word more)

  word_there : (d : ℕ) → get_or with_bits place d ≡ bit_or word more
  word_there d = get_or-set_same words place (bit_or word more) d within

  pub bits_set : HasBits with_bits place more
  bits_set d l = ap (λ w. bit_or w more) (word_there d) ∙ or_twice word more ∙ sym (word_there d)

  pub bits_kept : (other bits : ℕ) → HasBits words other bits → HasBits with_bits other bits
  bits_kept other bits h d l = either (cases_order other place) where
    here : other ≡ place → bit_or (get_or with_bits other d) bits ≡ get_or with_bits other d
    here e =
        let there : get_or with_bits other d ≡ bit_or word more = ap (λ p. get_or with_bits p d) e ∙ word_there d in
        let old : word ≡ get_or words other word = is ∙ ap (λ p. get_or words p word) (sym e) in
        let had : bit_or word bits ≡ word = ap (λ w. bit_or w bits) old ∙ h word (omega (arith, e)) ∙ sym old in
        ap (λ w. bit_or w bits) there ∙ or_more word more bits had ∙ sym there

    apart : (other ≡ place → ⊥) → bit_or (get_or with_bits other d) bits ≡ get_or with_bits other d
    apart n =
        let same : get_or with_bits other d ≡ get_or words other d = get_or-set_other words place other (bit_or word more) d n in
        ap (λ w. bit_or w bits) same ∙ h d (omega (arith, length-set words place (bit_or word more))) ∙ sym same

    either : (other ≡ place) ⊎ ((other < place) ⊎ (place < other)) → bit_or (get_or with_bits other d) bits ≡ get_or with_bits other d
    either (inl e) = here e
    either (inr (inl b)) = apart (λ e. omega arith)
    either (inr (inr a)) = apart (λ e. omega arith)

  -- the same of values
  pub value_set : (count value : ℕ) → place ≡ place_of count (hash_of value) → more ≡ bits_of (hash_of value) → Holds with_bits count value
  value_set count value p b = λ below. subst (λ q. HasBits with_bits q (bits_of (hash_of value))) p (subst (HasBits with_bits place) b bits_set)

  pub value_kept : (count other : ℕ) → Holds words count other → Holds with_bits count other
  value_kept count other h = λ below. bits_kept (place_of count (hash_of other)) (bits_of (hash_of other)) (h below)
