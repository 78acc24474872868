-- Runs of two tables that are merged, what a merge gives, and where it stands afterwards.
use Rattle.std.specs.Prelude.{◌≡◌, ◌≢◌, ℕ, ◌+◌, ◌<◌, ◌≤◌, ◌==◌, List, [], ◌∷◌, ◌++◌, length, map, filter, slice_get, Option, Some, Bool, true, false}
use Rattle.tf_table.specs.declared.key.Key.{Key}
use Rattle.tf_table.specs.Key.{key_cmp}
use Rattle.tf_table.specs.Content.{entry_at, entry_of, content_of, combined, rows_with, kept}
use Rattle.tf_registry.specs.Table.{Table, Shown, shown}
use Rattle.tf_registry.specs.Row.{levels_of, SameContent, weight}

-- two adjacent tables that are to be merged
pub record Run (V : Type 0) : Type 0 where
  pub newer : Shown V
  pub older : Shown V

-- the run of two tables
abbrev pub run_of : {V : Type 0} → Shown V → Shown V → Run V
run_of newer older = record { newer = newer; older = older }

-- the two have one level, below the highest, and the newer one isn't the oldest of its row
pub record IsRun {V : Type 0} (run : Run V) : Type 0 where
  pub level : run.newer.table.level ≡ run.older.table.level
  pub above : run.newer.table.oldest ≡ false
  pub low : run.older.table.level < 20

-- how many of the tables have the level
abbrev pub count_at : {V : Type 0} → ℕ → List (Shown V) → ℕ
count_at {V} level tables = length (filter (λ (t : Shown V). t.table.level == level) tables)

-- four tables of the level stand from the place on, and the next older one has another level
pub record IsFourAt {V : Type 0} (tables : List (Shown V)) (place level : ℕ) : Type 0 where
  pub first : slice_get (levels_of tables) place ≡ Some level
  pub fourth : slice_get (levels_of tables) (place + 3) ≡ Some level
  pub next : slice_get (levels_of tables) (place + 4) ≢ Some level

-- no four tables of one level stand from a place before this one on
abbrev pub NoFourBefore : {V : Type 0} → List (Shown V) → ℕ → Type 0
NoFourBefore tables place = (before level : ℕ) → before < place → IsFourAt tables before level → ⊥

-- no four tables of one level stand anywhere
abbrev pub NoFour : {V : Type 0} → List (Shown V) → Type 0
NoFour tables = (place level : ℕ) → IsFourAt tables place level → ⊥

-- the run is that of the two oldest tables of the lowest level that has at least four
pub record IsPicked {V : Type 0} (tables : List (Shown V)) (run : Run V) : Type 0 where
  pub before : List (Shown V)
  pub after : List (Shown V)
  pub was : tables ≡ before ++ run.newer ∷ run.older ∷ after
  pub level : run.newer.table.level ≡ run.older.table.level
  pub four : 4 ≤ count_at run.older.table.level tables
  pub lowest : (level : ℕ) → level < run.older.table.level → count_at level tables < 4
  pub last : count_at run.older.table.level after ≡ 0

-- the rows of a merge: the pairs of the content where nothing is older, else all rows together, tombstones too
abbrev pub merged_rows : {V : Type 0} → Bool → List (List (Key × Option V)) → List (Key × Option V)
merged_rows true lists = rows_with (content_of lists)
merged_rows false lists = combined key_cmp lists

-- the table has the merged rows of the run, one level more than the run, and its mark
pub record IsMergeOf {V : Type 0} (run : Run V) (out : Table V) : Type 0 where
  pub level : out.level ≡ run.older.table.level + 1
  pub oldest : out.oldest ≡ run.older.table.oldest
  pub rows : out.rows ≡ merged_rows out.oldest (run.newer.table.rows ∷ run.older.table.rows ∷ [])
  pub entries : (key : Key) → entry_at key out.rows ≡ kept out.oldest (entry_of key (run.newer.table.rows ∷ run.older.table.rows ∷ []))
  pub shorter : length out.rows ≤ length run.newer.table.rows + length run.older.table.rows

-- a run with the table that it was merged into
pub record Output (V : Type 0) : Type 0 where
  pub run : Run V
  pub table : Table V

-- the number of each table
abbrev pub numbers_of : {V : Type 0} → List (Shown V) → List ℕ
numbers_of {V} tables = map (λ (t : Shown V). t.number) tables

-- the references of the run stand at the place, adjacent and in order, and the next older one has another level
pub record StandsAt {V : Type 0} (tables : List (Shown V)) (place newer older level : ℕ) : Type 0 where
  pub first : slice_get (numbers_of tables) place ≡ Some newer
  pub second : slice_get (numbers_of tables) (place + 1) ≡ Some older
  pub next : slice_get (levels_of tables) (place + 2) ≢ Some level

-- the references of the run stand somewhere in the row
abbrev pub Stands : {V : Type 0} → List (Shown V) → Run V → Type 0
Stands tables run = (place : ℕ) × StandsAt tables place run.newer.number run.older.number run.older.table.level

-- the table stands where the run stood, under some number, and all else is as it was
pub record Replaces {V : Type 0} (old : List (Shown V)) (run : Run V) (out : Table V) (new : List (Shown V)) : Type 0 where
  pub before : List (Shown V)
  pub after : List (Shown V)
  pub number : ℕ
  pub was : old ≡ before ++ run.newer ∷ run.older ∷ after
  pub apart : slice_get (levels_of after) 0 ≢ Some run.older.table.level
  pub is : new ≡ before ++ shown number out ∷ after

-- the table stands where the run stood, and the row's content and weight are as they were, in one table less
pub record Installs {V : Type 0} (old : List (Shown V)) (run : Run V) (out : Table V) (new : List (Shown V)) : Type 0 where
  pub replaces : Replaces old run out new
  pub content : SameContent old new
  pub weighs : weight new ≡ weight old
  pub one_less : length new + 1 ≡ length old
