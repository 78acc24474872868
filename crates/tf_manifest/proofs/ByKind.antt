-- What is read of a manifest's row, by its kind.
use Rattle.std.proofs.Common.{◌≡◌, ℕ, ◌<◌, ◌≤◌, List, [], length, Option, Some, None, Result, Ok, Err, IfSome, IfNone, IsSome, OnErr, ◌∙◌, ap, subst}
use Rattle.std.specs.Prelude.{slice_index_or}
use Rattle.std.specs.Option.{option_map}
use Rattle.tf_table.specs.declared.key.Key.{Key}
use Rattle.tf_table.specs.Content.{entry_of}
use Rattle.tf_table.specs.First.{IsFirstAbove}
use Rattle.tf_manifest.specs.declared.jobs.Job.{Job}
use Rattle.tf_manifest.specs.declared.kind.Kind.{Kind}
use Rattle.tf_manifest.specs.declared.row.Row.{Row}
use Rattle.tf_manifest.specs.declared.value.Value.{Value}
use Rattle.tf_manifest.specs.Jobs.{IsPickedFrom, kind_of_job, run_of}
use Rattle.tf_manifest.specs.Kinds.{kind_of}
use Rattle.tf_registry.specs.Row.{content_at, lists_of}
use Rattle.tf_registry.specs.Run.{IsPicked, Run, Stands, count_at}
use Rattle.tf_registry.specs.Table.{Shown}
use Rattle.tf_manifest.specs.View.{View, StoredBy, value_by, rows_by, tables_by, place_by, value_in_kind, content_in, references_in}

-- a value at a key
pub found : (inside view : View) (row : Row) (k : Kind) (at : ℕ) (key : Key) (result : Option Value) → inside ≡ view → k ≡ kind_of row → at ≡ place_by k
    → result ≡ option_map (value_by k) (content_at key (slice_index_or (rows_by inside k) at [])) → result ≡ content_in view row key
found inside view row k at key result v e p r =
    r
    ∙ ap (λ (i : ℕ). option_map (value_by k) (content_at key (slice_index_or (rows_by inside k) i []))) p
    ∙ ap (λ (w : View). value_in_kind w key k) v
    ∙ ap (λ (x : Kind). value_in_kind view key x) e

-- a number of tables
pub counted : (inside view : View) (row : Row) (k : Kind) (at : ℕ) (result : ℕ) → inside ≡ view → k ≡ kind_of row → at ≡ place_by k
    → result ≡ length (slice_index_or (rows_by inside k) at []) → result ≡ references_in view row
counted inside view row k at result v e p r =
    r
    ∙ ap (λ (i : ℕ). length (slice_index_or (rows_by inside k) i [])) p
    ∙ ap (λ (w : View). length (tables_by w k)) v
    ∙ ap (λ (x : Kind). length (tables_by view x)) e

-- what holds of a row's tables, of the manifest's row
of_row : (P : (V : Type 0) → List (Shown V) → Type 0) (inside view : View) (row : Row) (k : Kind) (at : ℕ) (tables : List (Shown (StoredBy k))) → inside ≡ view → k ≡ kind_of row → at ≡ place_by k → tables ≡ slice_index_or (rows_by inside k) at []
    → P (StoredBy k) tables → P (StoredBy (kind_of row)) (tables_by view (kind_of row))
of_row P inside view row k at tables v e p t h =
    let there : tables ≡ tables_by view k = t ∙ ap (λ (i : ℕ). slice_index_or (rows_by inside k) i []) p ∙ ap (λ (w : View). tables_by w k) v in
    subst (λ (x : Kind). P (StoredBy x) (tables_by view x)) e (subst (λ (ts : List (Shown (StoredBy k))). P (StoredBy k) ts) there h)

-- the first key above another in a row's tables
pub first : (inside view : View) (row : Row) (k : Kind) (at : ℕ) (tables : List (Shown (StoredBy k))) (below : Key) (result : Option Key) → inside ≡ view → k ≡ kind_of row → at ≡ place_by k → tables ≡ slice_index_or (rows_by inside k) at []
    → IsFirstAbove below (λ key. entry_of key (lists_of tables)) result → IsFirstAbove below (λ key. entry_of key (lists_of (tables_by view (kind_of row)))) result
first inside view row k at tables below result v e p t h = of_row (λ V ts. IsFirstAbove below (λ key. entry_of key (lists_of ts)) result) inside view row k at tables v e p t h

-- where no run was found no level of the row has four tables
pub none : (inside view : View) (row : Row) (k : Kind) (at : ℕ) (tables : List (Shown (StoredBy k))) (found : Option (Run (StoredBy k))) → inside ≡ view → k ≡ kind_of row → at ≡ place_by k → tables ≡ slice_index_or (rows_by inside k) at []
    → found ≡ None → IfNone found ((level : ℕ) → count_at level tables < 4) → (level : ℕ) → count_at level (tables_by view (kind_of row)) < 4
none inside view row k at tables found v e p t is low =
    of_row (λ V ts. (level : ℕ) → count_at level ts < 4) inside view row k at tables v e p t
    (subst (λ o. IfNone o ((level : ℕ) → count_at level tables < 4)) is low)

-- where a run was refused some level of the row has four tables
pub busy : {T E : Type 0} (answer : Result T E) (inside view : View) (row : Row) (k : Kind) (at : ℕ) (tables : List (Shown (StoredBy k))) → inside ≡ view → k ≡ kind_of row → at ≡ place_by k → tables ≡ slice_index_or (rows_by inside k) at []
    → (level : ℕ) × (4 ≤ count_at level tables) → OnErr answer ((level : ℕ) × (4 ≤ count_at level (tables_by view (kind_of row))))
busy answer inside view row k at tables v e p t many = by_answer answer (of_row (λ V ts. (level : ℕ) × (4 ≤ count_at level ts)) inside view row k at tables v e p t many) where
  by_answer : {T E P : Type 0} (answer : Result T E) → P → OnErr answer P
  by_answer (Ok _) p = tt
  by_answer (Err _) p = p

-- and it isn't full
pub room : (Q : Type 0) (inside view : View) (row : Row) (k : Kind) (at : ℕ) (tables : List (Shown (StoredBy k))) (found : Option (Run (StoredBy k))) → inside ≡ view → k ≡ kind_of row → at ≡ place_by k → tables ≡ slice_index_or (rows_by inside k) at []
    → found ≡ None → (length tables ≡ 64 → IsSome found) → references_in view row ≡ 64 → Q
room Q inside view row k at tables found v e p t is h =
    of_row (λ V ts. length ts ≡ 64 → Q) inside view row k at tables v e p t (λ many. let there = h many in absurd (cc))

module _ {A N : Type 0} where
  -- a run that was found is the row's to merge next
  pub chosen : (inside view : View) (row : Row) (job : Job A N) (at : ℕ) (tables : List (Shown (StoredBy (kind_of_job job)))) (found : Option (Run (StoredBy (kind_of_job job))))
      → inside ≡ view → kind_of_job job ≡ kind_of row → at ≡ place_by (kind_of_job job) → tables ≡ slice_index_or (rows_by inside (kind_of_job job)) at []
      → found ≡ Some (run_of job) → IfSome found (IsPicked tables) → IfSome found (Stands tables) → IsPickedFrom view row job
  chosen inside view row job at tables found v e p t is picked stands =
      let k : Kind = kind_of_job job in
      let there : tables ≡ tables_by view k = t ∙ ap (λ (i : ℕ). slice_index_or (rows_by inside k) i []) p ∙ ap (λ (w : View). tables_by w k) v in
      record {
        from = e;
        picked = subst (λ (ts : List (Shown (StoredBy k))). IsPicked ts (run_of job)) there (subst (λ (o : Option (Run (StoredBy k))). IfSome o (IsPicked tables)) is picked);
        stands = subst (λ (ts : List (Shown (StoredBy k))). Stands ts (run_of job)) there (subst (λ (o : Option (Run (StoredBy k))). IfSome o (Stands tables)) is stands);
      }
