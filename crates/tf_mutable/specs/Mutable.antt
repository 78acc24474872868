-- Rows that still change, and what they mean: the rows in key order.
use Rattle.std.specs.Prelude.{◌≡◌, ◌≤◌, List, [], Option, Some, None, Bool, true, filter, length}
use Rattle.std.specs.Ordering.{is_eq}
use Rattle.tf_sorted.specs.Rows.{IsRising, with_row, without_row}
use Rattle.tf_table.specs.declared.key.Key.{Key}
use Rattle.tf_table.specs.Key.{key_cmp}
use Rattle.tf_table.specs.Content.{overlaid}

-- rows that came in any order, in key order
abbrev pub in_order : {E : Type 0} → List (Key × E) → List (Key × E)
in_order rows = overlaid key_cmp rows []

-- the rows that have the key
abbrev pub rows_of_key : {E : Type 0} → Key → List (Key × E) → List (Key × E)
rows_of_key key rows = filter (λ r. is_eq (key_cmp r.0 key)) rows

-- no key comes twice, the keys rise where they are said to, and that is said where there are none
pub record IsLogged {E : Type 0} (rises : Bool) (rows : List (Key × E)) : Type 0 where
  pub once : (key : Key) → length (rows_of_key key rows) ≤ 1
  pub rising : rises ≡ true → IsRising key_cmp rows
  pub none : rows ≡ [] → rises ≡ true

-- the rows with the entry that a key had before, or without the key where it had none
abbrev pub given_back : {E : Type 0} → Key → Option E → List (Key × E) → List (Key × E)
given_back key None rows = without_row key_cmp key rows
given_back key (Some entry) rows = with_row key_cmp key entry rows
