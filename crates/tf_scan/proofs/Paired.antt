-- Rows whose keys and entries lie in two lists.
use Rattle.std.proofs.Common.{◌≡◌, ℕ, ◌+◌, ◌≤◌, List, [], ◌∷◌, ◌++◌, Option, true, refl, sym, ◌∙◌, ap, subst, arith, length}
use Rattle.std.specs.List.{zip}
use Rattle.tf_table.specs.declared.key.Key.{Key}
use Rattle.tf_table.specs.Content.{values_of}
use Rattle.tf_table.specs.Span.{timestamps}
use Rattle.tf_scan.specs.declared.direction.Direction.{Direction}
use Rattle.tf_scan.specs.declared.direction.Direction.TheVariants.{Rising, Falling}
use Rattle.tf_scan.specs.Place.{is_past, IsTaken}
use Rattle.tf_scan.specs.Run.{AreWritten, WritesEntries, WritesRows, without}
use Rattle.tf_scan.proofs.Keys.{first-long, first-rest, taken-long}
use Rattle.tf_scan.proofs.Runs.{rows-none, rows-one, rows-both}

zip-push : {X Y : Type 0} (xs : List X) (ys : List Y) (x : X) (y : Y) → length xs ≡ length ys → zip (xs ++ x ∷ []) (ys ++ y ∷ []) ≡ zip xs ys ++ (x, y) ∷ []
zip-push [] [] x y e = refl
zip-push [] (b ∷ ys) x y e = absurd (omega arith)
zip-push (a ∷ xs) [] x y e = absurd (omega arith)
zip-push {X} {Y} (a ∷ xs) (b ∷ ys) x y e = ap (λ (rows : List (X × Y)). (a, b) ∷ rows) (zip-push xs ys x y (omega arith))

-- the row that comes first has the key that does, and the entry
pub taken-paired : {X Y : Type 0} (d : Direction) (x : X) (y : Y) (xs others : List X) (ys rest : List Y) → length others ≡ length rest → IsTaken d x xs others → IsTaken d y ys rest → IsTaken d (x, y) (zip xs ys) (zip others rest)
taken-paired Rising x y xs others ys rest l e f = cc
taken-paired {X} {Y} Falling x y xs others ys rest l e f = ap (λ (ps : List X). zip ps ys) e ∙ ap (λ (qs : List Y). zip (others ++ x ∷ []) qs) f ∙ zip-push others rest x y l

module _ {V : Type 0} (d : Direction) (until : Option ℕ) (from : ℕ) (keys : List Key) (entries : List (Option V)) where
  pub entries-none : (xs : List ℕ) → from ≤ length xs → (w : WritesEntries d until from from 0 keys entries xs xs) × (w.left ≡ zip keys entries)
  entries-none xs l = (record { left = zip keys entries; writes = rows-none d until from (zip keys entries) xs l; count = omega arith }, refl)

  pub entries-more : (to end passed : ℕ) (key : Key) (entry : Option V) (left others : List Key) (ys rest : List (Option V)) (xs now new : List ℕ) → (w : WritesEntries d until from to passed keys entries xs now) × (w.left ≡ zip left ys) → length others ≡ length rest
      → IsTaken d key left others → IsTaken d entry ys rest → is_past d key.timestamp until ≡ true → AreWritten (timestamps (values_of ((key, entry) ∷ []))) to end now new
      → (w : WritesEntries d until from end (passed + 1) keys entries xs new) × (w.left ≡ zip others rest)
  entries-more to end passed key entry left others ys rest xs now new w l e f p x =
      let row : Key × Option V = (key, entry) in
      let taken = subst (λ (rows : List (Key × Option V)). IsTaken d row rows (zip others rest)) (sym w.1) (taken-paired d key entry left others ys rest l e f) in
      let one = rows-one d until to end w.0.left (zip others rest) row now new taken p x in (
        record {
          left = zip others rest;
          writes = rows-both d until from to end (zip keys entries) w.0.left (zip others rest) xs now new w.0.writes one;
          count = omega (arith, w.0.count, taken-long d row w.0.left (zip others rest) taken);
        },
        refl,
      )

  module _ (to passed : ℕ) (xs ys : List ℕ) (w : WritesEntries d until from to passed keys entries xs ys) (old : List (Key × Option V)) (same : zip keys entries ≡ old) where
    pub entries-within : passed ≤ length old
    entries-within = omega (arith, ap length same, w.count)

    many : length w.writes.rows ≡ passed
    many = omega (arith, first-long (λ (r : Key × Option V). r.0.timestamp) d until w.writes.rows (zip keys entries) w.left w.writes.taken, w.count)

    pub entries-written : (new : List (Key × Option V)) → new ≡ without d passed old → WritesRows d until from to old new xs ys
    entries-written new is =
        let left : w.left ≡ new = first-rest (λ (r : Key × Option V). r.0.timestamp) d until w.writes.rows (zip keys entries) w.left w.writes.taken
        ∙ ap (λ n. without d n (zip keys entries)) many
        ∙ ap (without d passed) same
        ∙ sym is in
        subst (λ (rows : List (Key × Option V)). WritesRows d until from to rows new xs ys) same
        (subst (λ (rows : List (Key × Option V)). WritesRows d until from to (zip keys entries) rows xs ys) left w.writes)
