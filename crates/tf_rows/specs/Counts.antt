-- How many entries publishes sealed and pushed tables have, and what bounds them.
use Rattle.std.specs.Prelude.{◌≡◌, ℕ, ◌+◌, ◌-◌, ◌*◌, ◌^◌, ◌≤◌, ◌==◌, List, [], ◌∷◌, length, if◌then◌else◌}
use Rattle.tf_manifest.specs.declared.kind.Kind.{Kind}
use Rattle.tf_manifest.specs.declared.row.Row.{Row}
use Rattle.tf_registry.specs.Table.{Shown}
use Rattle.tf_manifest.specs.View.{View, no_tables, references_in, tables_by}
use Rattle.tf_rows.specs.declared.counts.Counts.{Counts}

-- a number for each row, over all rows of a kind
abbrev pub over_rows : {V : Type 0} → (List (Shown V) → ℕ) → List (List (Shown V)) → ℕ
over_rows measure [] = 0
over_rows measure (tables ∷ rows) = measure tables + over_rows measure rows

-- over the rows of all kinds
abbrev pub over_all : ((V : Type 0) → List (Shown V) → ℕ) → View → ℕ
over_all measure view =
    over_rows (measure _) view.stamps + over_rows (measure _) view.accounts + over_rows (measure _) view.transfers + over_rows (measure _) view.ids
    + over_rows (measure _) view.units + over_rows (measure _) view.states + over_rows (measure _) view.sums + over_rows (measure _) view.statuses

-- how many tables all rows have
abbrev pub all_references : View → ℕ
all_references view = over_all (λ V tables. length tables) view

-- how many entries merges of these tables may still push: those of a table once for each level above its own
abbrev pub owed_by : {V : Type 0} → List (Shown V) → ℕ
owed_by [] = 0
owed_by (t ∷ tables) = (20 - t.table.level) * length t.table.rows + owed_by tables

-- how many all rows' merges may
abbrev pub owed : View → ℕ
owed view = over_all (λ V tables. owed_by tables) view

-- sealed tables, with how many entries of mutable tables were sealed, and how many entries all pushed tables have
pub record Counted : Type 0 where
  pub tables : View
  pub sealed : ℕ
  pub held : ℕ

-- what always holds of them: a sealed entry lies in no more than 21 tables, since a table is merged no more than 20 times
pub record IsCounted (counted : Counted) : Type 0 where
  pub bound : counted.held + owed counted.tables ≤ 21 * counted.sealed
  pub least : counted.sealed ≤ counted.held
  pub most : counted.held ≤ counted.tables.pushed.count * 2 ^ 64
  pub references : (kind : Kind) → length (tables_by counted.tables kind) ≤ 64

-- further tables were pushed, and entries are counted as held for those alone
pub record PushesMore (old new : Counted) : Type 0 where
  pub tables : old.tables.pushed.count ≤ new.tables.pushed.count
  pub limit : new.tables.pushed.limit ≡ old.tables.pushed.limit
  pub held : old.held ≤ new.held
  pub most : new.held + old.tables.pushed.count * 2 ^ 64 ≤ old.held + new.tables.pushed.count * 2 ^ 64

-- sealed tables, with all counts
pub record Sealed : Type 0 where
  pub tables : View
  pub counts : Counts

-- the tables with the counts of entries
abbrev pub counted : Sealed → Counted
counted sealed = record { tables = sealed.tables; sealed = sealed.counts.rows_sealed; held = sealed.counts.rows_held }

-- no tables, and nothing counted
abbrev pub nothing_sealed : ℕ → Sealed
nothing_sealed limit = record { tables = no_tables limit; counts = record { rows_sealed = 0; rows_held = 0; publishes = 0 } }

-- what always holds of how many publishes there were that pushed a table: each pushed one, and two a row at most, or one
-- that left one reference more. An install pushes one that leaves one reference less
pub record HasPublishes (tables : View) (publishes : ℕ) : Type 0 where
  pub least : tables.pushed.count + all_references tables ≤ 42 * publishes
  pub most : publishes ≤ tables.pushed.count

-- bounds on all counts
pub record AreBounded (sealed : Sealed) : Type 0 where
  pub tables : sealed.tables.pushed.count + all_references sealed.tables ≤ 42 * sealed.counts.publishes
  pub publishes : sealed.counts.publishes ≤ sealed.tables.pushed.count
  pub rows : sealed.counts.rows_held ≤ 21 * sealed.counts.rows_sealed
  pub least : sealed.counts.rows_sealed ≤ sealed.counts.rows_held
  pub references : (row : Row) → references_in sealed.tables row ≤ 64

-- prepared tables can be put in place: all that was pushed for them, and nothing else, was counted since
pub record IsReady (sealed : Sealed) (prepared : Counted) : Type 0 where
  pub pushed : prepared.tables.pushed ≡ sealed.tables.pushed
  pub held : prepared.held ≡ sealed.counts.rows_held
  pub few : prepared.tables.pushed.count + all_references prepared.tables ≤ 42 * sealed.counts.publishes

-- prepared tables in place, with the entries that were sealed for them
abbrev pub settled : Counted → Sealed → Sealed
settled prepared sealed = record { tables = prepared.tables; counts = record sealed.counts { rows_sealed = prepared.sealed } }

-- the same tables, after so many more were pushed, with so many entries, which nothing refers to
abbrev pub with_lost : ℕ → ℕ → Sealed → Sealed
with_lost tables rows sealed = record {
  tables = record sealed.tables { pushed = record { count = sealed.tables.pushed.count + tables; limit = sealed.tables.pushed.limit } };
  counts = record {
    rows_sealed = sealed.counts.rows_sealed + rows;
    rows_held = sealed.counts.rows_held + rows;
    publishes = sealed.counts.publishes + (if tables == 0 then 0 else 1);
  };
}

-- some tables were pushed to which nothing refers, and nothing else happened
pub record Loses (old new : Sealed) (most : ℕ) : Type 0 where
  pub tables : ℕ
  pub rows : ℕ
  pub is : new ≡ with_lost tables rows old
  pub few : tables ≤ most
  pub none : tables ≡ 0 → rows ≡ 0
