-- Gaps between the keys of tables.
use Rattle.std.proofs.Common.{◌≡◌, sym, ap, arith, ℕ, zero, suc, ◌<◌, List, [], ◌∷◌, length, get_or, Option, Some, None}
use Rattle.std.proofs.Math.ListN.{set}
use Rattle.std.specs.Cmp.{nat_cmp_is}
use Rattle.std.specs.Ordering.{nat_cmp, ordering_then}
use Rattle.std.specs.declared.cmp.Ordering.TheVariants.{Less}
use Rattle.tf_table.specs.declared.key.Key.{Key}
use Rattle.tf_table.specs.Content.{entry_at}
use Rattle.tf_table.specs.First.{IsFirstAbove}
use Rattle.tf_table.specs.Key.{key_cmp}
use Rattle.tf_manifest.specs.Rows.{key_of}
use Rattle.tf_look_ups.specs.Gapped.{IsGap, upper_end}

-- a key of a lesser value is less
less_value : (a b : Key) → a.value < b.value → key_cmp a b ≡ Less
less_value a b l = ap (λ o. ordering_then o (nat_cmp a.timestamp b.timestamp)) (sym (nat_cmp_is a.value b.value Less l))

-- between a key and the first one above it that has an entry there is a gap
pub gap-behind : {V : Type 0} (value : ℕ) (next : Option Key) (rows : List (Key × Option V)) → IsFirstAbove (key_of value 0) (λ key. entry_at key rows) next → IsGap (record { above = value; below = upper_end next }) rows
gap-behind value None rows none v above below = none (key_of v 0) (less_value (key_of value 0) (key_of v 0) above)
gap-behind value (Some next) rows first v above below = first.before (key_of v 0) (less_value (key_of value 0) (key_of v 0) above) (less_value (key_of v 0) next below)

-- a list in which an element is put in its own place stays as it is
pub set-itself : {X : Type 0} (xs : List X) (i : ℕ) (x d : X) → i < length xs → x ≡ get_or xs i d → set xs i x ≡ xs
set-itself [] i x d h e = absurd (omega arith)
set-itself (y ∷ xs) zero x d h e = ap (λ z. z ∷ xs) e
set-itself (y ∷ xs) (suc i) x d h e = ap (λ zs. y ∷ zs) (set-itself xs i x d (omega arith) e)
