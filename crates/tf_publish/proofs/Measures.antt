-- What a push and an install change of numbers that are summed over all rows.
use Rattle.std.proofs.Common.{◌≡◌, ℕ, zero, suc, ◌+◌, ◌-◌, ◌*◌, ◌<◌, ◌≤◌, List, [], ◌∷◌, ◌++◌, length, refl, sym, ◌∙◌, ap, subst, slice_set, arith}
use Rattle.std.specs.Prelude.{slice_index_or}
use Rattle.std.proofs.Math.Nat.{mul-le-mul_left}
use Rattle.tf_manifest.specs.declared.jobs.Merged.{Merged}
use Rattle.tf_manifest.specs.declared.kind.Kind.{Kind}
use Rattle.tf_manifest.specs.declared.kind.Kind.TheVariants as kind
use Rattle.tf_manifest.specs.Jobs.{HasEntries, InstallsIn, kind_of_merged, output_of}
use Rattle.tf_manifest.specs.Kinds.{stamp_index, unit_index}
use Rattle.tf_registry.specs.Limit.{Pushed, one_more}
use Rattle.tf_registry.specs.Row.{is_nil}
use Rattle.tf_registry.specs.Run.{Installs, IsMergeOf, IsRun, Run}
use Rattle.tf_registry.specs.Table.{Shown, Table, shown}
use Rattle.tf_manifest.specs.View.{StoredBy, View, place_by, rows_by, tables_by, with_rows}
use Rattle.tf_rows.specs.declared.sealed_row.SealedRow.{SealedRow}
use Rattle.tf_rows.specs.Counts.{all_references, over_all, over_rows, owed, owed_by}
use Rattle.tf_rows.specs.SealedRow.{PushesIn, entries_of_sealed, kind_of_sealed}

-- what is counted
pub pushed_with : (view : View) (k : Kind) (rows : List (List (Shown (StoredBy k)))) → (with_rows view k rows).pushed ≡ view.pushed
pushed_with view (kind.Stamp u) rows = refl
pushed_with view kind.Account rows = refl
pushed_with view kind.Transfer rows = refl
pushed_with view kind.Id rows = refl
pushed_with view (kind.Unit u) rows = refl
pushed_with view kind.State rows = refl
pushed_with view kind.Sums rows = refl
pushed_with view kind.Status rows = refl

-- a row that isn't empty has its place
pub placed : {X : Type 0} (rows : List (List X)) (at : ℕ) → 0 < length (slice_index_or rows at []) → at < length rows
placed [] at h = absurd (omega (arith, h))
placed (row ∷ rows) zero h = omega arith
placed (row ∷ rows) (suc at) h = omega (arith, placed rows at h)

-- what is counted is no part of any row
pub tables_apart : (view : View) (p : Pushed) (k : Kind) → tables_by (record view { pushed = p }) k ≡ tables_by view k
tables_apart view p (kind.Stamp u) = refl
tables_apart view p kind.Account = refl
tables_apart view p kind.Transfer = refl
tables_apart view p kind.Id = refl
tables_apart view p (kind.Unit u) = refl
tables_apart view p kind.State = refl
tables_apart view p kind.Sums = refl
tables_apart view p kind.Status = refl

-- one of several rows changes
module _ {V : Type 0} (measure : List (Shown V) → ℕ) where
  one_changed : (rows : List (List (Shown V))) (at : ℕ) (tables : List (Shown V)) → at < length rows
      → over_rows measure (slice_set rows at tables) + measure (slice_index_or rows at []) ≡ over_rows measure rows + measure tables
  one_changed [] at tables within = absurd (omega (arith, within))
  one_changed (row ∷ rows) zero tables within = omega arith
  one_changed (row ∷ rows) (suc at) tables within = let rest = one_changed rows at tables (omega (arith, within)) in omega (arith, rest)

-- one of all rows changes
module _ (measure : (V : Type 0) → List (Shown V) → ℕ) where
  pub changed : (view : View) (p : Pushed) (k : Kind) (tables : List (Shown (StoredBy k))) → place_by k < length (rows_by view k)
      → over_all measure (with_rows (record view { pushed = p }) k (slice_set (rows_by view k) (place_by k) tables)) + measure (StoredBy k) (tables_by view k)
      ≡ over_all measure view + measure (StoredBy k) tables
  changed view p (kind.Stamp u) tables within = let e = one_changed (measure _) view.stamps (stamp_index u) tables within in omega (arith, e)
  changed view p kind.Account tables within = let e = one_changed (measure _) view.accounts 0 tables within in omega (arith, e)
  changed view p kind.Transfer tables within = let e = one_changed (measure _) view.transfers 0 tables within in omega (arith, e)
  changed view p kind.Id tables within = let e = one_changed (measure _) view.ids 0 tables within in omega (arith, e)
  changed view p (kind.Unit u) tables within = let e = one_changed (measure _) view.units (unit_index u) tables within in omega (arith, e)
  changed view p kind.State tables within = let e = one_changed (measure _) view.states 0 tables within in omega (arith, e)
  changed view p kind.Sums tables within = let e = one_changed (measure _) view.sums 0 tables within in omega (arith, e)
  changed view p kind.Status tables within = let e = one_changed (measure _) view.statuses 0 tables within in omega (arith, e)

-- no row is long where one changes and the others weren't
short : {V : Type 0} (rows : List (List (Shown V))) (at other : ℕ) (tables : List (Shown V)) → length (slice_index_or rows other []) ≤ 64 → length tables ≤ 64 → length (slice_index_or (slice_set rows at tables) other []) ≤ 64
short [] at other tables few own = few
short (row ∷ rows) zero zero tables few own = own
short (row ∷ rows) zero (suc other) tables few own = few
short (row ∷ rows) (suc at) zero tables few own = few
short (row ∷ rows) (suc at) (suc other) tables few own = short rows at other tables few own

pub still_short : (view : View) (p : Pushed) (k other : Kind) (tables : List (Shown (StoredBy k))) → length (tables_by view other) ≤ 64 → length tables ≤ 64
    → length (tables_by (with_rows (record view { pushed = p }) k (slice_set (rows_by view k) (place_by k) tables)) other) ≤ 64
still_short view p (kind.Stamp u) (kind.Stamp other) tables few own = short view.stamps (stamp_index u) (stamp_index other) tables few own
still_short view p (kind.Stamp u) _ tables few own = few
still_short view p kind.Account kind.Account tables few own = short view.accounts 0 0 tables few own
still_short view p kind.Account _ tables few own = few
still_short view p kind.Transfer kind.Transfer tables few own = short view.transfers 0 0 tables few own
still_short view p kind.Transfer _ tables few own = few
still_short view p kind.Id kind.Id tables few own = short view.ids 0 0 tables few own
still_short view p kind.Id _ tables few own = few
still_short view p (kind.Unit u) (kind.Unit other) tables few own = short view.units (unit_index u) (unit_index other) tables few own
still_short view p (kind.Unit u) _ tables few own = few
still_short view p kind.State kind.State tables few own = short view.states 0 0 tables few own
still_short view p kind.State _ tables few own = few
still_short view p kind.Sums kind.Sums tables few own = short view.sums 0 0 tables few own
still_short view p kind.Sums _ tables few own = few
still_short view p kind.Status kind.Status tables few own = short view.statuses 0 0 tables few own
still_short view p kind.Status _ tables few own = few

-- a sealed table in front of its row
module _ {A : Type 0} (old new : View) (s : SealedRow A) (pushes : PushesIn old s new) where
  abbrev front : List (Shown (StoredBy (kind_of_sealed s)))
  front = shown pushes.adds.number (record { rows = entries_of_sealed s; level = 0; oldest = is_nil (tables_by old (kind_of_sealed s)) }) ∷ tables_by old (kind_of_sealed s)

  pub becomes : new ≡ with_rows (record old { pushed = one_more old.pushed }) (kind_of_sealed s) (slice_set (rows_by old (kind_of_sealed s)) (place_by (kind_of_sealed s)) front)
  becomes = pushes.is ∙ ap (λ (rows : List (List (Shown (StoredBy (kind_of_sealed s))))). with_rows (record old { pushed = one_more old.pushed }) (kind_of_sealed s) rows) pushes.adds.is

  pub pushed_one : new.pushed ≡ one_more old.pushed
  pushed_one = ap (λ (v : View). v.pushed) pushes.is ∙ pushed_with (record old { pushed = one_more old.pushed }) (kind_of_sealed s) pushes.rows

  pub pushed_owed : owed new ≡ owed old + 20 * length (entries_of_sealed s)
  pushed_owed =
      let all = ap owed becomes in
      let one = changed (λ V tables. owed_by tables) old (one_more old.pushed) (kind_of_sealed s) front pushes.adds.within in
      omega (arith, all, one)

  pub pushed_references : all_references new ≡ all_references old + 1
  pushed_references =
      let all = ap all_references becomes in
      let one = changed (λ V tables. length tables) old (one_more old.pushed) (kind_of_sealed s) front pushes.adds.within in
      omega (arith, all, one)

  pub pushed_short : length (tables_by old (kind_of_sealed s)) < 64 → ((k : Kind) → length (tables_by old k) ≤ 64) → (k : Kind) → length (tables_by new k) ≤ 64
  pushed_short room few k =
      subst (λ (v : View). length (tables_by v k) ≤ 64) (sym becomes) (still_short old (one_more old.pushed) (kind_of_sealed s) k front (few k) (omega (arith, room)))

-- a table in the place of the run that it was merged from
owed_join : {V : Type 0} (xs ys : List (Shown V)) → owed_by (xs ++ ys) ≡ owed_by xs + owed_by ys
owed_join [] ys = omega arith
owed_join (x ∷ xs) ys = let rest = owed_join xs ys in omega (arith, rest)

-- entries of one level more are owed for one merge less
paid : (level lower a b m : ℕ) → lower ≡ level → level < 20 → m ≤ a + b → (20 - (level + 1)) * m + m ≤ (20 - lower) * a + (20 - level) * b
paid level lower a b m same low few =
    let left : 20 - level ≡ suc (20 - (level + 1)) = omega (arith, low) in
    let most = mul-le-mul_left (suc (20 - (level + 1))) few in
    subst (λ (l : ℕ). (20 - (level + 1)) * m + m ≤ (20 - l) * a + (20 - level) * b) (sym same)
    (subst (λ (n : ℕ). (20 - (level + 1)) * m + m ≤ n * a + n * b) (sym left) (omega (arith, most)))

merge_owed : {V : Type 0} (old new : List (Shown V)) (run : Run V) (out : Table V) → Installs old run out new → IsRun run → IsMergeOf run out → owed_by new + length out.rows ≤ owed_by old
merge_owed old new run out installs is merges =
    let before = installs.replaces.before in
    let after = installs.replaces.after in
    let was = ap owed_by installs.replaces.was ∙ owed_join before (run.newer ∷ run.older ∷ after) in
    let now = ap owed_by installs.replaces.is ∙ owed_join before (shown installs.replaces.number out ∷ after) in
    let one = paid run.older.table.level run.newer.table.level (length run.newer.table.rows) (length run.older.table.rows) (length out.rows) is.level is.low merges.shorter in
    let level = ap (λ (l : ℕ). (20 - l) * length out.rows) merges.level in
    omega (arith, was, now, one, level)

module _ {A N : Type 0} (old new : View) (m : Merged A N) (installs : InstallsIn old m new) where
  abbrev into : List (Shown (StoredBy (kind_of_merged m)))
  into = installs.installs.tables

  pub installed : new ≡ with_rows (record old { pushed = one_more old.pushed }) (kind_of_merged m) (slice_set (rows_by old (kind_of_merged m)) (place_by (kind_of_merged m)) into)
  installed = installs.is ∙ ap (λ (rows : List (List (Shown (StoredBy (kind_of_merged m))))). with_rows (record old { pushed = one_more old.pushed }) (kind_of_merged m) rows) installs.installs.is

  pub has_place : place_by (kind_of_merged m) < length (rows_by old (kind_of_merged m))
  has_place = let less = installs.installs.installs.one_less in placed (rows_by old (kind_of_merged m)) (place_by (kind_of_merged m)) (omega (arith, less))

  pub installed_one : new.pushed ≡ one_more old.pushed
  installed_one = ap (λ (v : View). v.pushed) installs.is ∙ pushed_with (record old { pushed = one_more old.pushed }) (kind_of_merged m) installs.rows

  pub installed_owed : (count : ℕ) → HasEntries m count → owed new + count ≤ owed old
  installed_owed count has =
      let all = ap owed installed in
      let one = changed (λ V tables. owed_by tables) old (one_more old.pushed) (kind_of_merged m) into has_place in
      let less = merge_owed (tables_by old (kind_of_merged m)) into (output_of m).run (output_of m).table installs.installs.installs has.run has.merges in
      let own = has.entries in
      omega (arith, all, one, less, own)

  pub installed_references : all_references new + 1 ≡ all_references old
  installed_references =
      let all = ap all_references installed in
      let one = changed (λ V tables. length tables) old (one_more old.pushed) (kind_of_merged m) into has_place in
      let less = installs.installs.installs.one_less in
      omega (arith, all, one, less)

  pub installed_short : ((k : Kind) → length (tables_by old k) ≤ 64) → (k : Kind) → length (tables_by new k) ≤ 64
  installed_short few k =
      let less = installs.installs.installs.one_less in
      let own = few (kind_of_merged m) in
      subst (λ (v : View). length (tables_by v k) ≤ 64) (sym installed) (still_short old (one_more old.pushed) (kind_of_merged m) k into (few k) (omega (arith, less, own)))
