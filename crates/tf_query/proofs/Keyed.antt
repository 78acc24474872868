-- Pairs made of records under a field and their timestamps: what they have at a key.
use Rattle.std.proofs.Common.{◌≡◌, ℕ, Bool, true, false, ◌&&◌, ◌||◌, cond, List, [], ◌∷◌, find, map, Option, Some, None, refl, sym, ◌∙◌, ap}
use Rattle.std.specs.Prelude.{◌==◌, is_some, nat_lt}
use Rattle.std.specs.Option.{option_and_then, option_map}
use Rattle.std.specs.Ordering.{is_eq, nat_cmp, ordering_then}
use Rattle.std.specs.declared.cmp.Ordering.{Ordering}
use Rattle.std.specs.declared.cmp.Ordering.TheVariants.{Less, Equal, Greater}
use Rattle.std.proofs.lemmas.Bool.{eqb-true, le-ltb}
use Rattle.std.proofs.Common.{arith}
use Rattle.tf_sorted.specs.Rows.{value_at}
use Rattle.tf_table.specs.Key.{key_cmp}
use Rattle.tf_manifest.specs.declared.kinds.Stored.{Stored}
use Rattle.tf_manifest.specs.declared.value.Value.{Value}
use Rattle.tf_manifest.specs.Rows.{Pair, key_of}
use Rattle.tf_query.specs.Matches.{record_at}
use Rattle.tf_look_ups.specs.Reads.{stored_record}
use Rattle.tf_query.proofs.Dated.{any_at}

-- two numbers are the same exactly where they are equal in order
same_number : (a b : ℕ) → is_eq (nat_cmp a b) ≡ (a == b)
same_number a b = step (nat_lt a b) refl (a == b) refl
  where
    step : (l : Bool) → nat_lt a b ≡ l → (e : Bool) → (a == b) ≡ e → is_eq (cond l Less (cond e Equal Greater)) ≡ e
    step true i true j = absurd (let n : a ≡ b = eqb-true a b j in let wrong : true ≡ false = sym i ∙ le-ltb a b (omega (arith, n)) in cc)
    step true i false j = refl
    step false i true j = refl
    step false i false j = refl

then_equal : (o p : Ordering) → is_eq (ordering_then o p) ≡ (is_eq p && is_eq o)
then_equal Less Less = refl
then_equal Less Equal = refl
then_equal Less Greater = refl
then_equal Equal Less = refl
then_equal Equal Equal = refl
then_equal Equal Greater = refl
then_equal Greater Less = refl
then_equal Greater Equal = refl
then_equal Greater Greater = refl

-- and two keys
pub same_key : (a s b t : ℕ) → is_eq (key_cmp (key_of a s) (key_of b t)) ≡ (s == t && a == b)
same_key a s b t =
    then_equal (nat_cmp a b) (nat_cmp s t)
    ∙ ap (λ e. e && is_eq (nat_cmp a b)) (same_number s t) ∙ ap (λ e. s == t && e) (same_number a b)

pub some_mapped : {X Y : Type 0} (f : X → Y) (o : Option X) → is_some (option_map f o) ≡ is_some o
some_mapped f None = refl
some_mapped f (Some x) = refl

module _ {X : Type 0} (timestamp : X → ℕ) (stored : X → Value) where
  abbrev found : Option Pair → Option Value
  found pair = option_map (λ (p : Pair). p.1) pair

  module _ (field : X → ℕ) where
    abbrev pub pair_of : X → Pair
    pair_of x = (key_of (field x) (timestamp x), stored x)

    -- pairs have something at a key where one of the records has the key's value and timestamp
    pub has_keyed : (value t : ℕ) (records : List X) → is_some (value_at key_cmp (key_of value t) (map pair_of records)) ≡ any_at timestamp t (λ x. field x == value) records
    has_keyed value t [] = refl
    has_keyed value t (x ∷ records) =
        step (is_eq (key_cmp (key_of (field x) (timestamp x)) (key_of value t))) (same_key (field x) (timestamp x) value t) (has_keyed value t records)
      where
        step : (b : Bool) → b ≡ (timestamp x == t && field x == value) → is_some (value_at key_cmp (key_of value t) (map pair_of records)) ≡ any_at timestamp t (λ y. field y == value) records
            → is_some (found (cond b (Some (pair_of x)) (find (λ (r : Pair). is_eq (key_cmp r.0 (key_of value t))) (map pair_of records)))) ≡ ((timestamp x == t && field x == value) || any_at timestamp t (λ y. field y == value) records)
        step true i again = ap (λ c. c || any_at timestamp t (λ y. field y == value) records) i
        step false i again = again ∙ ap (λ c. c || any_at timestamp t (λ y. field y == value) records) i

  -- under one value, what they have at a timestamp is what is stored of the record with it
  pub value_keyed : (t : ℕ) (records : List X) → value_at key_cmp (key_of 0 t) (map (pair_of (λ x. 0)) records) ≡ option_map stored (record_at timestamp records t)
  value_keyed t [] = refl
  value_keyed t (x ∷ records) = step (is_eq (key_cmp (key_of 0 (timestamp x)) (key_of 0 t))) (same_key 0 (timestamp x) 0 t) (timestamp x == t) refl (value_keyed t records)
    where
      step : (b : Bool) → b ≡ (timestamp x == t && true) → (c : Bool) → (timestamp x == t) ≡ c → value_at key_cmp (key_of 0 t) (map (pair_of (λ y. 0)) records) ≡ option_map stored (record_at timestamp records t)
          → found (cond b (Some (pair_of (λ y. 0) x)) (find (λ (r : Pair). is_eq (key_cmp r.0 (key_of 0 t))) (map (pair_of (λ y. 0)) records)))
          ≡ option_map stored (cond c (Some x) (find (λ y. timestamp y == t) records))
      step true i true j again = refl
      step false i false j again = again
      step true i false j again = absurd (let wrong : true ≡ false = i ∙ ap (λ e. e && true) j in cc)
      step false i true j again = absurd (let wrong : false ≡ true = i ∙ ap (λ e. e && true) j in cc)

-- what a value was made of
module _ {X : Type 0} (make : X → Value) (unmake : Value → Option X) (back : (x : X) → unmake (make x) ≡ Some x) where
  pub unmade : (o p : Option X) → option_map make o ≡ option_map make p → o ≡ p
  unmade o p e = sym (of o) ∙ ap (option_and_then unmake) e ∙ of p
    where
      of : (q : Option X) → option_and_then unmake (option_map make q) ≡ q
      of None = refl
      of (Some x) = back x

  pub record_unmade : (o : Option (Stored X)) (p : Option X) → option_map (λ (s : Stored X). make s.record) o ≡ option_map make p → stored_record o ≡ p
  record_unmade o p e = unmade (stored_record o) p (twice o ∙ e)
    where
      twice : (q : Option (Stored X)) → option_map make (stored_record q) ≡ option_map (λ (s : Stored X). make s.record) q
      twice None = refl
      twice (Some s) = refl
