-- Rows in key order: what a tree and a table are seen as. A row is a key with its value, and `cmp` is the order of the keys.
use Rattle.std.specs.Prelude.{◌≡◌, List, [], ◌∷◌, ◌++◌, Option, Some, None, not, filter, find}
use Rattle.std.specs.declared.cmp.Ordering.{Ordering}
use Rattle.std.specs.Ordering.{is_lt, is_eq, is_gt}
use Rattle.std.specs.Option.{option_map}
use Rattle.std.specs.declared.cmp.Ordering.TheVariants.{Less}

-- the key of the first row, if there is one
abbrev pub first_key : {K V : Type 0} → List (K × V) → Option K
first_key [] = None
first_key (r ∷ rs) = Some r.0

module _ {K V : Type 0} (cmp : K → K → Ordering) where
  -- each of these rows has a greater key than k
  abbrev pub AllAfter : K → List (K × V) → Type 0
  AllAfter k [] = Unit {0}
  AllAfter k (r ∷ rs) = (cmp k r.0 ≡ Less) × AllAfter k rs

  -- the keys rise, so no key comes twice
  abbrev pub IsRising : List (K × V) → Type 0
  IsRising [] = Unit {0}
  IsRising (r ∷ rs) = AllAfter r.0 rs × IsRising rs

  -- the rows whose key is below k
  abbrev pub rows_below : K → List (K × V) → List (K × V)
  rows_below k rows = filter (λ (r : K × V). is_lt (cmp r.0 k)) rows

  -- the rows whose key is above k
  abbrev pub rows_above : K → List (K × V) → List (K × V)
  rows_above k rows = filter (λ (r : K × V). is_gt (cmp r.0 k)) rows

  -- the rows whose key is not below k
  abbrev pub rows_from : K → List (K × V) → List (K × V)
  rows_from k rows = filter (λ (r : K × V). not (is_lt (cmp r.0 k))) rows

  -- the rows whose key is not above k
  abbrev pub rows_upto : K → List (K × V) → List (K × V)
  rows_upto k rows = filter (λ (r : K × V). not (is_gt (cmp r.0 k))) rows

  -- the value of the row of k, if there is one
  abbrev pub value_at : K → List (K × V) → Option V
  value_at k rows = option_map (λ (r : K × V). r.1) (find (λ (r : K × V). is_eq (cmp r.0 k)) rows)

  -- the rows with (k, v) as the row of k
  abbrev pub with_row : K → V → List (K × V) → List (K × V)
  with_row k v rows = rows_below k rows ++ (k, v) ∷ rows_above k rows

  -- the rows but for that of k
  abbrev pub without_row : K → List (K × V) → List (K × V)
  without_row k rows = rows_below k rows ++ rows_above k rows
