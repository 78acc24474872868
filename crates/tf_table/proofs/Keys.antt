-- The order of keys is total, and keys that compare alike are one.
use Rattle.std.proofs.Common.{◌≡◌, ℕ, List, [], ◌∷◌, Bool, true, false, not, cond, eqb, refl, ap, sym, ◌∙◌, arith}
use Rattle.std.specs.Ordering.{nat_cmp, ordering_then, is_lt}
use Rattle.std.specs.declared.cmp.Ordering.{Ordering}
use Rattle.std.specs.declared.cmp.Ordering.TheVariants.{Less, Equal, Greater}
use Rattle.std.proofs.lemmas.Bool.{le-ltb, cond-true}
use Rattle.tf_sorted.specs.Rows.{rows_from}
use Rattle.std.specs.Cmp.{IsTotalOrder, nat_cmp_is}
use Rattle.std.proofs.lemmas.Cmp.{then_total, on_total, nat_cmp_total}
use Rattle.std.proofs.lemmas.Map.Lookups.{CmpEqualImpliesEq, exact_pairs, exact_unsigned}
use Rattle.tf_table.specs.declared.key.Key.{Key}
use Rattle.tf_table.specs.Key.{key_cmp}

pub keys_total : IsTotalOrder key_cmp
keys_total = then_total (on_total (λ (k : Key). k.value) nat_cmp_total) (on_total (λ (k : Key). k.timestamp) nat_cmp_total)

pub exact_keys : CmpEqualImpliesEq key_cmp
exact_keys a b h = ap (λ (p : ℕ × ℕ). record { value = p.0; timestamp = p.1 }) (exact_pairs nat_cmp nat_cmp exact_unsigned exact_unsigned (a.value, a.timestamp) (b.value, b.timestamp) h)

-- keys with the same value and the same timestamp are one
pub same_key : (a b : Key) → a.value ≡ b.value → a.timestamp ≡ b.timestamp → a ≡ b
same_key a b e f =
    ap (λ (v : ℕ). let k : Key = record { value = v; timestamp = a.timestamp } in k) e
    ∙ ap (λ (t : ℕ). let k : Key = record { value = b.value; timestamp = t } in k) f

pub key_itself : (k : Key) → key_cmp k k ≡ Equal
key_itself k =
    ap (λ o. ordering_then o (nat_cmp k.timestamp k.timestamp)) (sym (nat_cmp_is k.value k.value Equal refl))
    ∙ sym (nat_cmp_is k.timestamp k.timestamp Equal refl)

-- no key is below the least one
is_lt-zero : (x : ℕ) → is_lt (nat_cmp x 0) ≡ false
is_lt-zero x =
    ap (λ b. is_lt (cond b Less (cond (eqb x 0) Equal Greater))) (le-ltb x 0 (omega arith)) ∙ either (eqb x 0) where
      either : (b : Bool) → is_lt (cond b Equal Greater) ≡ false
      either true = refl
      either false = refl

is_lt-then : (a b : Ordering) → is_lt a ≡ false → is_lt b ≡ false → is_lt (ordering_then a b) ≡ false
is_lt-then Less b e f = e
is_lt-then Equal b e f = f
is_lt-then Greater b e f = e

pub rows_from-least : {E : Type 0} (rows : List (Key × E)) → rows_from key_cmp (record { value = 0; timestamp = 0 }) rows ≡ rows
rows_from-least [] = refl
rows_from-least {E = E} (r ∷ rows) =
    let least : Key = record { value = 0; timestamp = 0 } in
    cond-true (not (is_lt (key_cmp r.0 least))) _ _ (ap not (is_lt-then (nat_cmp r.0.value 0) (nat_cmp r.0.timestamp 0) (is_lt-zero r.0.value) (is_lt-zero r.0.timestamp)))
    ∙ ap (λ (rs : List (Key × E)). r ∷ rs) (rows_from-least rows)
