-- Rows with their values seen as a row's: what they have at keys, and what changes of them are.
use Rattle.std.proofs.Common.{◌≡◌, List, [], ◌∷◌, ◌++◌, map, filter, find, Option, Some, None, Bool, true, false, cond, refl, sym, ◌∙◌, ap}
use Rattle.std.specs.Ordering.{is_eq, is_lt, is_gt}
use Rattle.std.specs.Option.{IsSome, is_some, option_map, option_flatten}
use Rattle.std.proofs.lemmas.List.{map-append}
use Rattle.tf_sorted.specs.Rows.{AllAfter, IsRising, rows_above, rows_below, with_row, without_row}
use Rattle.tf_table.specs.declared.key.Key.{Key}
use Rattle.tf_table.specs.Content.{entry_at, entry_of, first_some}
use Rattle.tf_table.specs.Key.{key_cmp}
use Rattle.tf_mutable.specs.Mutable.{given_back}
use Rattle.tf_manifest.specs.declared.value.Value.{Value}
use Rattle.tf_manifest.proofs.Entries.{with_row-here}
use Rattle.tf_mutable.proofs.Logged.{given_back-is}
use Rattle.tf_rows.specs.Parts.{seen_row, seen_rows}

module _ {V : Type 0} (seen : V → Value) where
  pub entry_at-seen : (key : Key) (rows : List (Key × Option V)) → entry_at key (seen_rows seen rows) ≡ option_map (option_map seen) (entry_at key rows)
  entry_at-seen key [] = refl
  entry_at-seen key (r ∷ rows) = by_test (is_eq (key_cmp r.0 key)) (entry_at-seen key rows) where
    by_test : (b : Bool) → entry_at key (seen_rows seen rows) ≡ option_map (option_map seen) (entry_at key rows)
        → option_map (λ (q : Key × Option Value). q.1) (cond b (Some (seen_row seen r)) (find (λ (q : Key × Option Value). is_eq (key_cmp q.0 key)) (seen_rows seen rows)))
        ≡ option_map (option_map seen) (option_map (λ (q : Key × Option V). q.1) (cond b (Some r) (find (λ (q : Key × Option V). is_eq (key_cmp q.0 key)) rows)))
    by_test true e = refl
    by_test false e = e

  filter-seen : (t : Key → Bool) (rows : List (Key × Option V)) → filter (λ (q : Key × Option Value). t q.0) (seen_rows seen rows) ≡ seen_rows seen (filter (λ (q : Key × Option V). t q.0) rows)
  filter-seen t [] = refl
  filter-seen t (r ∷ rows) = by_test (t r.0) (filter-seen t rows) where
    by_test : (b : Bool) → filter (λ (q : Key × Option Value). t q.0) (seen_rows seen rows) ≡ seen_rows seen (filter (λ (q : Key × Option V). t q.0) rows)
        → cond b (seen_row seen r ∷ filter (λ (q : Key × Option Value). t q.0) (seen_rows seen rows)) (filter (λ (q : Key × Option Value). t q.0) (seen_rows seen rows))
        ≡ seen_rows seen (cond b (r ∷ filter (λ (q : Key × Option V). t q.0) rows) (filter (λ (q : Key × Option V). t q.0) rows))
    by_test true e = ap (λ (rs : List (Key × Option Value)). seen_row seen r ∷ rs) e
    by_test false e = e

  pub with_row-seen : (key : Key) (entry : Option V) (rows : List (Key × Option V)) → seen_rows seen (with_row key_cmp key entry rows) ≡ with_row key_cmp key (option_map seen entry) (seen_rows seen rows)
  with_row-seen key entry rows =
      map-append (seen_row seen) (rows_below key_cmp key rows) ((key, entry) ∷ rows_above key_cmp key rows)
      ∙ ap (λ (rs : List (Key × Option Value)). rs ++ (key, option_map seen entry) ∷ seen_rows seen (rows_above key_cmp key rows)) (sym (filter-seen (λ k. is_lt (key_cmp k key)) rows))
      ∙ ap (λ (rs : List (Key × Option Value)). rows_below key_cmp key (seen_rows seen rows) ++ (key, option_map seen entry) ∷ rs) (sym (filter-seen (λ k. is_gt (key_cmp k key)) rows))

  without_row-seen : (key : Key) (rows : List (Key × Option V)) → seen_rows seen (without_row key_cmp key rows) ≡ without_row key_cmp key (seen_rows seen rows)
  without_row-seen key rows =
      map-append (seen_row seen) (rows_below key_cmp key rows) (rows_above key_cmp key rows)
      ∙ ap (λ (rs : List (Key × Option Value)). rs ++ seen_rows seen (rows_above key_cmp key rows)) (sym (filter-seen (λ k. is_lt (key_cmp k key)) rows))
      ∙ ap (λ (rs : List (Key × Option Value)). rows_below key_cmp key (seen_rows seen rows) ++ rs) (sym (filter-seen (λ k. is_gt (key_cmp k key)) rows))

  pub given_back-seen : (key : Key) (before : Option (Option V)) (rows : List (Key × Option V)) → seen_rows seen (given_back key before rows) ≡ given_back key (option_map (option_map seen) before) (seen_rows seen rows)
  given_back-seen key None rows = without_row-seen key rows
  given_back-seen key (Some entry) rows = with_row-seen key entry rows

  after-seen : (k : Key) (rows : List (Key × Option V)) → AllAfter key_cmp k rows → AllAfter key_cmp k (seen_rows seen rows)
  after-seen k [] after = tt
  after-seen k (r ∷ rows) after = (after.0, after-seen k rows after.1)

  pub rising-seen : (rows : List (Key × Option V)) → IsRising key_cmp rows → IsRising key_cmp (seen_rows seen rows)
  rising-seen [] rising = tt
  rising-seen (r ∷ rows) rising = (after-seen r.0 rows rising.0, rising-seen rows rising.1)

  first-seen : (a b : Option (Option V)) → first_some (option_map (option_map seen) a) (option_map (option_map seen) b) ≡ option_map (option_map seen) (first_some a b)
  first-seen (Some x) b = refl
  first-seen None b = refl

  pub entry_of-seen : (key : Key) (lists : List (List (Key × Option V))) → entry_of key (map (seen_rows seen) lists) ≡ option_map (option_map seen) (entry_of key lists)
  entry_of-seen key [] = refl
  entry_of-seen key (rows ∷ lists) =
      ap (λ (x : Option (Option Value)). first_some x (entry_of key (map (seen_rows seen) lists))) (entry_at-seen key rows)
      ∙ ap (λ (x : Option (Option Value)). first_some (option_map (option_map seen) (entry_at key rows)) x) (entry_of-seen key lists)
      ∙ first-seen (entry_at key rows) (entry_of key lists)

  flatten-seen : (x : Option (Option V)) → option_flatten (option_map (option_map seen) x) ≡ option_map seen (option_flatten x)
  flatten-seen None = refl
  flatten-seen (Some None) = refl
  flatten-seen (Some (Some v)) = refl

  pub value-seen : (key : Key) (lists : List (List (Key × Option V))) → option_flatten (entry_of key (map (seen_rows seen) lists)) ≡ option_map seen (option_flatten (entry_of key lists))
  value-seen key lists = ap option_flatten (entry_of-seen key lists) ∙ flatten-seen (entry_of key lists)

  pub put-seen : (key : Key) (stored : Option V) (entry : Option Value) (old new : List (Key × Option V)) → new ≡ with_row key_cmp key stored old → option_map seen stored ≡ entry → seen_rows seen new ≡ with_row key_cmp key entry (seen_rows seen old)
  put-seen key stored entry old new e s =
      ap (seen_rows seen) e ∙ with_row-seen key stored old ∙ ap (λ (x : Option Value). with_row key_cmp key x (seen_rows seen old)) s

  pub back-seen : (key : Key) (stored : Option (Option V)) (before : Option (Option Value)) (old new : List (Key × Option V)) → new ≡ given_back key stored old → option_map (option_map seen) stored ≡ before → seen_rows seen new ≡ given_back key before (seen_rows seen old)
  back-seen key stored before old new e s =
      ap (seen_rows seen) e ∙ given_back-seen key stored old ∙ ap (λ (x : Option (Option Value)). given_back key x (seen_rows seen old)) s

  pub restored-seen : (key : Key) (entry : Option Value) (was : Option (Option V)) (before : Option (Option Value)) (old new : List (Key × Option V)) → seen_rows seen new ≡ with_row key_cmp key entry (seen_rows seen old) → IsRising key_cmp old → was ≡ entry_at key old → before ≡ option_map (option_map seen) was → given_back key before (seen_rows seen new) ≡ seen_rows seen old
  restored-seen key entry was before old new put rising w s =
      ap (given_back key before) put
      ∙ given_back-is key entry before (seen_rows seen old) (rising-seen old rising)
      (s ∙ ap (option_map (option_map seen)) w ∙ sym (entry_at-seen key old))

  pub none-seen : (key : Key) (rows : List (Key × Option V)) → entry_at key (seen_rows seen rows) ≡ None → entry_at key rows ≡ None
  none-seen key rows none = no_entry (entry_at key rows) (sym (entry_at-seen key rows) ∙ none) where
    no_entry : (x : Option (Option V)) → option_map (option_map seen) x ≡ None → x ≡ None
    no_entry None e = refl
    no_entry (Some y) e = absurd (cc)

  pub some-seen : (key : Key) (rows : List (Key × Option V)) → IsSome (entry_at key (seen_rows seen rows)) → IsSome (entry_at key rows)
  some-seen key rows some = has_entry (entry_at key rows) (sym (ap is_some (entry_at-seen key rows)) ∙ some) where
    has_entry : (x : Option (Option V)) → is_some (option_map (option_map seen) x) ≡ true → is_some x ≡ true
    has_entry None e = e
    has_entry (Some y) e = refl

-- a table with an entry has one at its key
pub there-put : (key : Key) (entry : Option Value) (rows : List (Key × Option Value)) → IsSome (entry_at key (with_row key_cmp key entry rows))
there-put key entry rows = ap is_some (with_row-here key entry rows)
