-- What an install leaves of a row.
use Rattle.std.proofs.Common.{◌≡◌, ◌≢◌, ℕ, ◌+◌, List, [], ◌∷◌, ◌++◌, length, take, drop, Some, slice_get, refl, sym, ◌∙◌, ap, subst, arith}
use Rattle.tf_registry.specs.Table.{Table, Shown, shown}
use Rattle.tf_registry.specs.Row.{levels_of, SameContent, weight, IsRow}
use Rattle.tf_registry.specs.Run.{Run, IsRun, IsMergeOf, StandsAt, Installs}
use Rattle.tf_registry.proofs.Rows.{row_kept, content_kept, weight_kept}
use Rattle.tf_registry.proofs.Picks.{two_at, next_behind}

module _ {V : Type 0} where
  -- the row is a row still
  pub record Installed (old : List (Shown V)) (run : Run V) (out : Table V) (new : List (Shown V)) : Type 0 where
    pub row : IsRow new
    pub installs : Installs old run out new

  length_kept : (run : Run V) (o : Shown V) (before after : List (Shown V)) → length (before ++ o ∷ after) + 1 ≡ length (before ++ run.newer ∷ run.older ∷ after)
  length_kept run o [] after = omega arith
  length_kept run o (t ∷ before) after = omega (arith, length_kept run o before after)

  in_place : (ts : List (Shown V)) (run : Run V) (body : Table V) (place : ℕ) (o : Shown V) → IsRow ts → IsRun run → IsMergeOf run body
      → slice_get ts place ≡ Some run.newer → slice_get ts (place + 1) ≡ Some run.older → slice_get (levels_of ts) (place + 2) ≢ Some run.older.table.level → o.table ≡ body
      → Installed ts run body (take place ts ++ o ∷ drop (place + 2) ts)
  in_place ts run body place o h r m first second next e =
      let before = take place ts in
      let after = drop (place + 2) ts in
      let was : ts ≡ before ++ run.newer ∷ run.older ∷ after = two_at ts place (place + 1) (place + 2) run.newer run.older refl refl first second in
      let apart : slice_get (levels_of after) 0 ≢ Some run.older.table.level = λ n. next (sym (next_behind ts (place + 2)) ∙ n) in
      let merges : IsMergeOf run o.table = subst (λ (t : Table V). IsMergeOf run t) (sym e) m in
      let row : IsRow (before ++ run.newer ∷ run.older ∷ after) = subst (λ (us : List (Shown V)). IsRow us) was h in
      record {
        row = row_kept run o before after r merges apart row;
        installs = record {
          replaces = record { before = before; after = after; number = o.number; was = was; apart = apart; is = ap (λ (t : Table V). before ++ shown o.number t ∷ after) e };
          content = subst (λ (us : List (Shown V)). SameContent us (before ++ o ∷ after)) (sym was) (content_kept run o before after merges row.oldest);
          weighs = weight_kept run o before after r.level merges.level ∙ ap (λ (us : List (Shown V)). weight us) (sym was);
          one_less = length_kept run o before after ∙ ap (λ (us : List (Shown V)). length us) (sym was);
        };
      }

  -- the same by the references that are read and written
  pub installed : (old xs confirmed items : List (Shown V)) (run job : Run V) (place : ℕ) (out : Shown V)
      → xs ≡ old → confirmed ≡ xs → IsRow xs → run ≡ job → IsRun run → IsMergeOf job out.table
      → StandsAt old place job.newer.number job.older.number job.older.table.level
      → slice_get confirmed place ≡ Some run.newer → slice_get confirmed (place + 1) ≡ Some run.older
      → items ≡ take place xs ++ out ∷ drop (place + 2) xs
      → Installed old job out.table items
  installed old xs confirmed items run job place out is_old is_confirmed row is_job r m stands first second is_items =
      let merges : IsMergeOf run out.table = subst (λ (j : Run V). IsMergeOf j out.table) (sym is_job) m in
      let at_first : slice_get xs place ≡ Some run.newer = subst (λ (ts : List (Shown V)). slice_get ts place ≡ Some run.newer) is_confirmed first in
      let at_second : slice_get xs (place + 1) ≡ Some run.older = subst (λ (ts : List (Shown V)). slice_get ts (place + 1) ≡ Some run.older) is_confirmed second in
      let level_is : run.older.table.level ≡ job.older.table.level = ap (λ (j : Run V). j.older.table.level) is_job in
      let apart : slice_get (levels_of xs) (place + 2) ≢ Some run.older.table.level = λ n. stands.next (ap (λ (ts : List (Shown V)). slice_get (levels_of ts) (place + 2)) (sym is_old) ∙ n ∙ ap Some level_is) in
      let there : Installed xs run out.table (take place xs ++ out ∷ drop (place + 2) xs) = in_place xs run out.table place out row r merges at_first at_second apart refl in
      subst (λ (us : List (Shown V)). Installed us job out.table items) is_old
      (subst (λ (us : List (Shown V)). Installed xs job out.table us) (sym is_items)
      (subst (λ (j : Run V). Installed xs j out.table (take place xs ++ out ∷ drop (place + 2) xs)) is_job there))
