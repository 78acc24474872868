-- The first key above another in the tables of a row, found by a walk over the tables.
use Rattle.std.proofs.Common.{◌≡◌, ℕ, ◌+◌, ◌<◌, ◌≤◌, List, [], ◌∷◌, ◌++◌, length, take, get_or, Option, sym, ◌∙◌, ap, subst}
use Rattle.std.proofs.lemmas.List.{take_all, take_more, map-append}
use Rattle.tf_table.specs.declared.key.Key.{Key}
use Rattle.tf_table.specs.Content.{entry_at, entry_of}
use Rattle.tf_table.specs.First.{IsFirstAbove, lesser_key}
use Rattle.tf_table.proofs.First.{first_of_lists}
use Rattle.tf_registry.specs.Table.{Shown}
use Rattle.tf_registry.specs.Row.{lists_of}

module _ {V : Type 0} where
  -- one more table
  first_further : (tables : List (Shown V)) (i : ℕ) (t : Shown V) (below : Key) (a b : Option Key) → i < length tables → t ≡ get_or tables i t
      → IsFirstAbove below (λ key. entry_of key (lists_of (take i tables))) a → IsFirstAbove below (λ key. entry_at key t.table.rows) b
      → IsFirstAbove below (λ key. entry_of key (lists_of (take (i + 1) tables))) (lesser_key a b)
  first_further tables i t below a b within same g h =
      let before = take i tables in
      let more : take (i + 1) tables ≡ before ++ t ∷ [] = take_more tables i t within ∙ ap (λ (u : Shown V). before ++ u ∷ []) (sym same) in
      let all : lists_of (take (i + 1) tables) ≡ lists_of before ++ t.table.rows ∷ [] = ap lists_of more ∙ map-append (λ (u : Shown V). u.table.rows) before (t ∷ []) in
      subst (λ (lists : List (List (Key × Option V))). IsFirstAbove below (λ key. entry_of key lists) (lesser_key a b)) (sym all)
      (first_of_lists below (lists_of before) t.table.rows a b g h)

  -- the same of what look-ups say
  pub first_found : (tables : List (Shown V)) (i : ℕ) (t : Shown V) (below : Key) (a b c : Option Key) (rows : List (Key × Option V)) → i < length tables → t ≡ get_or tables i t → rows ≡ t.table.rows → c ≡ lesser_key a b
      → IsFirstAbove below (λ key. entry_of key (lists_of (take i tables))) a → IsFirstAbove below (λ key. entry_at key rows) b
      → IsFirstAbove below (λ key. entry_of key (lists_of (take (i + 1) tables))) c
  first_found tables i t below a b c rows within same is_rows is_lesser g h =
      subst (λ (found : Option Key). IsFirstAbove below (λ key. entry_of key (lists_of (take (i + 1) tables))) found) (sym is_lesser)
      (first_further tables i t below a b within same g (subst (λ (rs : List (Key × Option V)). IsFirstAbove below (λ key. entry_at key rs) b) is_rows h))

  -- all tables were gone over
  pub first_of_all : (tables : List (Shown V)) (i : ℕ) (below : Key) (found : Option Key) → length tables ≤ i
      → IsFirstAbove below (λ key. entry_of key (lists_of (take i tables))) found → IsFirstAbove below (λ key. entry_of key (lists_of tables)) found
  first_of_all tables i below found over h = subst (λ (ts : List (Shown V)). IsFirstAbove below (λ key. entry_of key (lists_of ts)) found) (take_all i tables over) h
