-- Rows of a table that are still to come, and what they say of their keys.
use Rattle.std.proofs.Common.{◌≡◌, subst, refl, arith, ℕ, Bool, true, false, cond, List, [], ◌∷◌, ◌++◌, filter, length, take, Option, Some, slice_get, inl, inr}
use Rattle.std.specs.List.{AllByRecursion, zip}
use Rattle.tf_sorted.specs.Rows.{IsRising}
use Rattle.tf_table.specs.declared.key.Key.{Key}
use Rattle.tf_table.specs.Content.{entry_at, entry_of}
use Rattle.tf_table.specs.Key.{key_cmp}
use Rattle.tf_manifest.proofs.Members.{Has}
use Rattle.tf_manifest.proofs.Pairs.{value_listed}
use Rattle.tf_scan.specs.declared.direction.Direction.{Direction}
use Rattle.tf_scan.specs.declared.direction.Direction.TheVariants.{Rising, Falling}
use Rattle.tf_scan.specs.Place.{IsTaken, rows_behind}
use Rattle.tf_scan.proofs.Keys.{taken-long}
use Rattle.tf_scan.proofs.Paired.{taken-paired}
use Rattle.tf_look_ups.specs.declared.finder.Part.{Part}
use Rattle.tf_look_ups.specs.Finder.{AreSilent, IsInPart}
use Rattle.tf_query.specs.Walk.{AreComing, AreEntries, AreKnown, AreTableRows}
use Rattle.tf_look_ups.proofs.Finding.{entry_there}

module _ {X : Type 0} (P : X → Type 0) where
  all_kept : (f : X → Bool) (xs : List X) → AllByRecursion P xs → AllByRecursion P (filter f xs)
  all_kept f [] all = tt
  all_kept f (x ∷ xs) all = step (f x) (all_kept f xs all.1)
    where
      step : (b : Bool) → AllByRecursion P (filter f xs) → AllByRecursion P (cond b (x ∷ filter f xs) (filter f xs))
      step true again = (all.0, again)
      step false again = again

  all_of : (xs : List X) → ((x : X) → Has xs x → P x) → AllByRecursion P xs
  all_of [] each = tt
  all_of (x ∷ xs) each = (each x (inl refl), all_of xs (λ y h. each y (inr h)))

  all_before : (xs : List X) (x : X) → AllByRecursion P (xs ++ x ∷ []) → AllByRecursion P xs × P x
  all_before [] x all = (tt, all.0)
  all_before (y ∷ xs) x all = let rest = all_before xs x all.1 in ((all.0, rest.0), rest.1)

  -- what holds of all holds of those that are left, and of the one that is taken
  pub all_taken : (d : Direction) (x : X) (old new : List X) → IsTaken d x old new → AllByRecursion P old → AllByRecursion P new × P x
  all_taken Rising x old new taken all = let both = subst (AllByRecursion P) taken all in (both.1, both.0)
  all_taken Falling x old new taken all = all_before new x (subst (AllByRecursion P) taken all)

module _ {V : Type 0} where
  -- the rows of a table behind a key, without the first
  pub entries_behind : (d : Direction) (key : Key) (table : List (Key × Option V)) → IsRising key_cmp table → AreEntries table (rows_behind d key table)
  entries_behind Rising key table rising = all_kept _ _ table (all_of _ table (λ row has. value_listed table row.0 row.1 rising has))
  entries_behind Falling key table rising = all_kept _ _ table (all_of _ table (λ row has. value_listed table row.0 row.1 rising has))

  -- the rows of a table before which no newer one has anything in a part of time
  pub known_of : (lists : List (List (Key × Option V))) (place : ℕ) (part : Part) (table rows : List (Key × Option V)) → AreSilent part (take place lists) → slice_get lists place ≡ Some table → AreEntries table rows → AreKnown lists part rows
  known_of lists place part table [] silent there entries = tt
  known_of lists place part table (row ∷ rows) silent there entries =
      (λ inside. entry_there row.0 place lists table row.1 (silent row.0 inside) there entries.0, known_of lists place part table rows silent there entries.1)

  -- where a row is taken out, those that are left stay known, and so is that one
  pub known_taken : (lists : List (List (Key × Option V))) (part : Part) (d : Direction) (row : Key × Option V) (old new : List (Key × Option V)) → IsTaken d row old new → AreKnown lists part old
      → AreKnown lists part new × (IsInPart part row.0.timestamp → entry_of row.0 lists ≡ Some row.1)
  known_taken lists part d row old new taken known = all_taken (λ (r : Key × Option V). IsInPart part r.0.timestamp → entry_of r.0 lists ≡ Some r.1) d row old new taken known

  pub known_key : (lists : List (List (Key × Option V))) (part : Part) (row : Key × Option V) (key : Key) → (IsInPart part row.0.timestamp → entry_of row.0 lists ≡ Some row.1) → row.0 ≡ key → IsInPart part key.timestamp → entry_of key lists ≡ Some row.1
  known_key lists part row key known same = subst (λ k. IsInPart part k.timestamp → entry_of k lists ≡ Some row.1) same known

  -- without the first of them, rows with these keys and entries still have those of a table
  pub table_rows_left : (table : List (Key × Option V)) (d : Direction) (key : Key) (entry : Option V) (keys others : List Key) (entries rest : List (Option V)) → AreTableRows table keys entries → IsTaken d key keys others → IsTaken d entry entries rest
      → AreTableRows table others rest
  table_rows_left table d key entry keys others entries rest rows k e =
      let paired : length others ≡ length rest = omega (arith, rows.paired, taken-long d key keys others k, taken-long d entry entries rest e) in
      record {
        paired = paired;
        entries_are = (all_taken (λ (r : Key × Option V). entry_at r.0 table ≡ Some r.1) d (key, entry) (zip keys entries) (zip others rest) (taken-paired d key entry keys others entries rest paired k e) rows.entries_are).0;
      }

  -- where a row is taken out of those that are coming, the others are coming, and that one is known
  pub coming_taken : (lists : List (List (Key × Option V))) (part : Part) (d : Direction) (key : Key) (entry : Option V) (keys others : List Key) (entries rest : List (Option V)) → AreComing lists part keys entries → IsTaken d key keys others → IsTaken d entry entries rest
      → AreComing lists part others rest × (IsInPart part key.timestamp → entry_of key lists ≡ Some entry)
  coming_taken lists part d key entry keys others entries rest coming k e =
      let paired : length others ≡ length rest = omega (arith, coming.paired, taken-long d key keys others k, taken-long d entry entries rest e) in
      let both = known_taken lists part d (key, entry) (zip keys entries) (zip others rest) (taken-paired d key entry keys others entries rest paired k e) coming.known in
      (record { paired = paired; known = both.0 }, both.1)

  -- rows of a table before which no newer one has anything in a part of time
  pub coming_of : (lists : List (List (Key × Option V))) (place : ℕ) (part : Part) (table : List (Key × Option V)) (keys : List Key) (entries : List (Option V)) → AreSilent part (take place lists) → slice_get lists place ≡ Some table → AreTableRows table keys entries → AreComing lists part keys entries
  coming_of lists place part table keys entries silent there rows = record { paired = rows.paired; known = known_of lists place part table (zip keys entries) silent there rows.entries_are }

-- two keys of one value and one timestamp are one
pub one_key : (a b : Key) → a.timestamp ≡ b.timestamp → a.value ≡ b.value → a ≡ b
one_key a b t v = λ i. record { value = v i; timestamp = t i }
