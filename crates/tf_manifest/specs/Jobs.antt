-- Jobs of a manifest's rows, what they are merged into, and what an install leaves.
use Rattle.std.specs.Prelude.{◌≡◌, ◌<◌, ℕ, List, length, Result, Ok, Err}
use Rattle.tf_manifest.specs.declared.jobs.Job.{Job}
use Rattle.tf_manifest.specs.declared.jobs.Job.TheVariants as job
use Rattle.tf_manifest.specs.declared.jobs.Merged.{Merged}
use Rattle.tf_manifest.specs.declared.jobs.Merged.TheVariants as merged
use Rattle.tf_registry.specs.declared.uninstalled.Uninstalled.{Uninstalled}
use Rattle.tf_registry.specs.declared.uninstalled.Uninstalled.TheVariants.{NoMemory, Stale, RegistryFull}
use Rattle.tf_manifest.specs.declared.kind.Kind.{Kind}
use Rattle.tf_manifest.specs.declared.kind.Kind.TheVariants as kind
use Rattle.tf_manifest.specs.declared.row.Row.{Row}
use Rattle.tf_manifest.specs.Kinds.{kind_of}
use Rattle.tf_registry.specs.Limit.{one_more}
use Rattle.tf_registry.specs.Run.{Run, Output, IsPicked, IsRun, IsMergeOf, Stands}
use Rattle.tf_manifest.specs.KindRows.{InstallsAt}
use Rattle.tf_registry.specs.Table.{Shown}
use Rattle.tf_manifest.specs.View.{View, StoredBy, rows_by, with_rows, tables_by, place_by}

module _ {A N : Type 0} where
  -- the row of a job
  abbrev pub kind_of_job : Job A N → Kind
  kind_of_job (job.Stamp row run) = kind.Stamp row
  kind_of_job (job.Account run) = kind.Account
  kind_of_job (job.Transfer run) = kind.Transfer
  kind_of_job (job.Id run) = kind.Id
  kind_of_job (job.Unit row run) = kind.Unit row
  kind_of_job (job.State run) = kind.State
  kind_of_job (job.Sums run) = kind.Sums
  kind_of_job (job.Status run) = kind.Status

  -- the run of a job
  abbrev pub run_of : (j : Job A N) → Run (StoredBy (kind_of_job j))
  run_of (job.Stamp row run) = run
  run_of (job.Account run) = run
  run_of (job.Transfer run) = run
  run_of (job.Id run) = run
  run_of (job.Unit row run) = run
  run_of (job.State run) = run
  run_of (job.Sums run) = run
  run_of (job.Status run) = run

  -- the row of a merged table
  abbrev pub kind_of_merged : Merged A N → Kind
  kind_of_merged (merged.Stamp row out) = kind.Stamp row
  kind_of_merged (merged.Account out) = kind.Account
  kind_of_merged (merged.Transfer out) = kind.Transfer
  kind_of_merged (merged.Id out) = kind.Id
  kind_of_merged (merged.Unit row out) = kind.Unit row
  kind_of_merged (merged.State out) = kind.State
  kind_of_merged (merged.Sums out) = kind.Sums
  kind_of_merged (merged.Status out) = kind.Status

  -- a merged table with its run
  abbrev pub output_of : (m : Merged A N) → Output (StoredBy (kind_of_merged m))
  output_of (merged.Stamp row out) = out
  output_of (merged.Account out) = out
  output_of (merged.Transfer out) = out
  output_of (merged.Id out) = out
  output_of (merged.Unit row out) = out
  output_of (merged.State out) = out
  output_of (merged.Sums out) = out
  output_of (merged.Status out) = out

  -- the job that a table was merged from
  abbrev pub job_of : Merged A N → Job A N
  job_of (merged.Stamp row out) = job.Stamp row out.run
  job_of (merged.Account out) = job.Account out.run
  job_of (merged.Transfer out) = job.Transfer out.run
  job_of (merged.Id out) = job.Id out.run
  job_of (merged.Unit row out) = job.Unit row out.run
  job_of (merged.State out) = job.State out.run
  job_of (merged.Sums out) = job.Sums out.run
  job_of (merged.Status out) = job.Status out.run

  -- the job is of the row, and its run is the row's to merge next
  pub record IsPickedFrom (view : View) (row : Row) (j : Job A N) : Type 0 where
    pub from : kind_of_job j ≡ kind_of row
    pub picked : IsPicked (tables_by view (kind_of_job j)) (run_of j)
    pub stands : Stands (tables_by view (kind_of_job j)) (run_of j)

  -- the table is what the run is merged into
  abbrev pub IsMerged : Merged A N → Type 0
  IsMerged m = IsMergeOf (output_of m).run (output_of m).table

  -- so many entries are what a run of two tables, of one level below the highest, is merged into
  pub record HasEntries (m : Merged A N) (count : ℕ) : Type 0 where
    pub entries : count ≡ length (output_of m).table.rows
    pub merges : IsMerged m
    pub run : IsRun (output_of m).run

  -- the references that were merged stand in their row
  abbrev pub StandsIn : View → Merged A N → Type 0
  StandsIn view m = Stands (tables_by view (kind_of_merged m)) (output_of m).run

  -- one row has the merged table in the place of its run, all others are as they were, and one push more is counted
  pub record InstallsIn (old : View) (m : Merged A N) (new : View) : Type 0 where
    pub rows : List (List (Shown (StoredBy (kind_of_merged m))))
    pub installs : InstallsAt (rows_by old (kind_of_merged m)) (place_by (kind_of_merged m)) (output_of m) rows
    pub is : new ≡ with_rows (record old { pushed = one_more old.pushed }) (kind_of_merged m) rows

  -- what an install answers, and what it leaves
  abbrev pub Answers : View → Merged A N → Result (Unit {0}) (Uninstalled (Merged A N)) → View → Type 0
  Answers old m (Ok done) new = InstallsIn old m new × (old.pushed.count < old.pushed.limit)
  Answers old m (Err Stale) new = (new ≡ old) × (StandsIn old m → ⊥)
  Answers old m (Err RegistryFull) new = (new ≡ old) × StandsIn old m × (old.pushed.count ≡ old.pushed.limit)
  Answers old m (Err (NoMemory back)) new = (new ≡ old) × StandsIn old m × (old.pushed.count < old.pushed.limit) × (back ≡ m)
