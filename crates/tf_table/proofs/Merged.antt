-- What a merge owes, once no row is left.
use Rattle.std.proofs.Common.{◌≡◌, ◌+◌, ℕ, List, [], ◌∷◌, length, Option, Some, None, Result, Ok, Err, IfOk, Bool, refl, ap, sym, ◌∙◌, subst, arith}
use Rattle.std.specs.List.{sum_by}
use Rattle.std.proofs.lemmas.List.Sums.{sum_by-cons}
use denote.Ref.{Bor}
use Rattle.tf_table.specs.declared.key.Key.{Key}
use Rattle.tf_table.specs.Key.{key_cmp}
use Rattle.tf_table.specs.Merge.{IsMerged, least_at}
use Rattle.tf_table.proofs.Keys.{keys_total, exact_keys}
use Rattle.tf_table.proofs.Least.{left_of, rows_left}
use Rattle.tf_table.proofs.Combine.{Combines, merge_all}
use Rattle.tf_table.proofs.Walks.{lists_of}

module _ {E : Type 0} where
  pub rows_left-sum : (lists : List (List (Key × E))) → rows_left key_cmp keys_total lists ≡ sum_by (λ (list : List (Key × E)). length list) lists
  rows_left-sum [] = refl
  rows_left-sum (rows ∷ lists) = ap (λ n. length rows + n) (rows_left-sum lists) ∙ sym (sum_by-cons (λ (list : List (Key × E)). length list) rows lists)

  pub rows_left-tables : (tables : List (Bor (List (Key × E)))) → rows_left key_cmp keys_total (lists_of tables) ≡ sum_by (λ (table : Bor (List (Key × E))). length table.now) tables
  rows_left-tables [] = refl
  rows_left-tables (table ∷ tables) = ap (λ n. length table.now + n) (rows_left-tables tables) ∙ sym (sum_by-cons (λ (t : Bor (List (Key × E))). length t.now) table tables)

pub merges : {V : Type 0} (bottom : Bool) (lists : List (List (Key × Option V))) (places : List ℕ) (out : List (Key × Option V))
    → Combines key_cmp keys_total exact_keys bottom lists (left_of lists places) out → least_at key_cmp lists places ≡ None → IsMerged bottom lists out
merges bottom lists places out c e = record {
  rising = c.rising;
  entries = merge_all key_cmp keys_total exact_keys bottom lists places out c e;
  within = omega (arith, c.fits, rows_left-sum lists);
}

-- the same of the table that the rows were sealed into, if they were
pub merges_sealed : {V X : Type 0} (bottom : Bool) (lists : List (List (Key × Option V))) (places : List ℕ) (out : List (Key × Option V)) (sealed : Result (List (Key × Option V)) X)
    → IfOk sealed (λ rows. rows ≡ out) → Combines key_cmp keys_total exact_keys bottom lists (left_of lists places) out → least_at key_cmp lists places ≡ None → IfOk sealed (λ rows. IsMerged bottom lists rows)
merges_sealed bottom lists places out (Ok rows) same c e = subst (IsMerged bottom lists) (sym same) (merges bottom lists places out c e)
merges_sealed bottom lists places out (Err x) same c e = tt

-- what is no Some
pub none_from_not : {X : Type 0} (o : Option X) → ((x : X) → o ≡ Some x → ⊥) → o ≡ None
none_from_not None n = refl
none_from_not (Some x) n = absurd (n x refl)
