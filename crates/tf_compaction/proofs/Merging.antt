-- An install leaves the limit of pushes, and a job that was just picked stands in its row.
use Rattle.std.proofs.Common.{◌≡◌, ◌+◌, ◌<◌, ℕ, List, Result, Ok, Err, IfErr, OnErr, OnOk, inl, inr, length, refl, subst, sym, ap, arith, ◌∙◌}
use Rattle.std.specs.Prelude.{◌≢◌, ◌⊎◌, ◌==◌}
use Rattle.std.proofs.lemmas.Bool.{both_ways, cases_lt, eq-eqb}
use Rattle.std.specs.Result.{is_ok}
use Rattle.tf_manifest.specs.declared.jobs.Job.{Job}
use Rattle.tf_manifest.specs.declared.jobs.Merged.{Merged}
use Rattle.tf_manifest.specs.declared.jobs.Merged.TheVariants as merged
use Rattle.tf_manifest.specs.declared.kind.Kind.{Kind}
use Rattle.tf_manifest.specs.declared.kind.Kind.TheVariants as kind
use Rattle.tf_manifest.specs.declared.row.Row.{Row}
use Rattle.tf_manifest.specs.Kinds.{kind_of}
use Rattle.tf_manifest.specs.Jobs.{InstallsIn, IsPickedFrom, StandsIn, job_of, kind_of_job, kind_of_merged, output_of, run_of}
use Rattle.tf_registry.specs.declared.uninstalled.Uninstalled.{Uninstalled}
use Rattle.tf_registry.specs.declared.uninstalled.Uninstalled.TheVariants as uninstalled
use Rattle.tf_registry.specs.Install.{OnFull, OnStale}
use Rattle.tf_registry.specs.Limit.{Pushed, one_more}
use Rattle.tf_registry.specs.Run.{Stands, count_at}
use Rattle.tf_registry.specs.Table.{Shown}
use Rattle.tf_manifest.specs.View.{StoredBy, tables_by, with_rows}
use Rattle.tf_manifest.specs.View as manifest
use Rattle.tf_records.specs.declared.refusal.Refusal.{Refusal}
use Rattle.tf_records.specs.declared.refusal.Refusal.TheVariants as refusal
use Rattle.tf_publish.specs.Tables.{KeepsOthers}
use Rattle.tf_rows.specs.declared.counts.Counts.{Counts}
use Rattle.tf_rows.specs.Parts.{place_of}
use Rattle.tf_forest.specs.Forest.{View}
use Rattle.tf_store.specs.Store as store
use Rattle.tf_publish.proofs.Measures.{installed}
use Rattle.tf_publish.proofs.OneRow.{of_row, others_stay}
use Rattle.tf_rows.proofs.Apart.{apart_by}
use Rattle.tf_rows.proofs.Next.{by_row}
use Rattle.tf_compaction.specs.Compaction.{IsCompacted, IsFull, IsMergedOut, KeepsRest, Stays}

-- other rows leave what was pushed
pushed_stays : (view : manifest.View) (k : Kind) (rows : List (List (Shown (StoredBy k)))) → (with_rows view k rows).pushed ≡ view.pushed
pushed_stays view (kind.Stamp row) rows = refl
pushed_stays view kind.Account rows = refl
pushed_stays view kind.Transfer rows = refl
pushed_stays view kind.Id rows = refl
pushed_stays view (kind.Unit row) rows = refl
pushed_stays view kind.State rows = refl
pushed_stays view kind.Sums rows = refl
pushed_stays view kind.Status rows = refl

pub install_pushes : {A N : Type 0} (old new : manifest.View) (m : Merged A N) → InstallsIn old m new → new.pushed ≡ one_more old.pushed
install_pushes old new m installs =
    ap (λ (v : manifest.View). v.pushed) installs.is ∙ pushed_stays (record old { pushed = one_more old.pushed }) (kind_of_merged m) installs.rows

job_stands : {A N : Type 0} (view : manifest.View) (m : Merged A N) → Stands (tables_by view (kind_of_job (job_of m))) (run_of (job_of m)) → StandsIn view m
job_stands view (merged.Stamp row out) stands = stands
job_stands view (merged.Account out) stands = stands
job_stands view (merged.Transfer out) stands = stands
job_stands view (merged.Id out) stands = stands
job_stands view (merged.Unit row out) stands = stands
job_stands view (merged.State out) stands = stands
job_stands view (merged.Sums out) stands = stands
job_stands view (merged.Status out) stands = stands

-- an install leaves the tables of other rows
pub others_left : {A N : Type 0} (old new : manifest.View) (m : Merged A N) → InstallsIn old m new → (other : Kind) → other ≢ kind_of_merged m → tables_by new other ≡ tables_by old other
others_left old new m installs other apart =
    ap (λ (v : manifest.View). tables_by v other) (installed old new m installs)
    ∙ others_stay old (one_more old.pushed) (kind_of_merged m) other installs.installs.tables apart

-- and so does one that is refused, which changes nothing
pub others_left_by : {A N E : Type 0} (old new : store.View) (m : Merged A N) (answer : Result (Unit {0}) E) → OnOk answer (InstallsIn old.forest.sealed.tables m new.forest.sealed.tables) → OnErr answer (new ≡ old)
    → (other : Kind) → other ≢ kind_of_merged m → tables_by new.forest.sealed.tables other ≡ tables_by old.forest.sealed.tables other
others_left_by old new m (Ok done) installs same other apart = others_left old.forest.sealed.tables new.forest.sealed.tables m installs other apart
others_left_by old new m (Err e) installs same other apart = ap (λ (v : store.View). tables_by v.forest.sealed.tables other) same

-- the tables of all rows but that of the job
pub others_kept_by : {A N : Type 0} (row : Row) (j : Job A N) (m : Merged A N) (old new : manifest.View) → IsPickedFrom old row j → job_of m ≡ j
    → ((other : Kind) → other ≢ kind_of_merged m → tables_by new other ≡ tables_by old other) → KeepsOthers row old new
others_kept_by {A = A} {N = N} row j m old new picked is left other apart =
    left (kind_of other) (λ e. apart_by row other apart (e ∙ of_row {A = A} {N = N} old row j m picked is))

-- what a job was merged into stands where the job was picked
pub picked_stands : {A N : Type 0} (view : manifest.View) (row : Row) (j : Job A N) (m : Merged A N) → IsPickedFrom view row j → job_of m ≡ j → StandsIn view m
picked_stands {A = A} {N = N} view row j m picked is =
    job_stands view m (subst (λ (k : Job A N). Stands (tables_by view (kind_of_job k)) (run_of k)) (sym is) picked.stands)

-- a refusal that changes nothing
pub nothing_merged : {X : Type 0} (old new : View) (result : Result X Refusal) → new ≡ old → IfErr result (IsFull new) → IsCompacted old new result
nothing_merged old new result same full = record {
  stays = record {
    journal = ap (λ (v : View). v.journal) same;
    clock = ap (λ (v : View). v.clock) same;
    limit = ap (λ (v : View). v.sealed.tables.pushed.limit) same;
    publishes = ap (λ (v : View). v.sealed.counts.publishes) same;
  };
  refused = full;
}

-- a merged table was put in place
table_installed : {X A N : Type 0} (old new : View) (m : Merged A N) (x : X) → new.journal ≡ old.journal → new.clock ≡ old.clock → InstallsIn old.sealed.tables m new.sealed.tables
    → new.sealed.counts ≡ record old.sealed.counts { rows_held = old.sealed.counts.rows_held + length (output_of m).table.rows }
    → IsCompacted old new (Ok x)
table_installed old new m x journal clock installs counts = record {
  stays = record {
    journal = journal;
    clock = clock;
    limit = ap (λ (p : Pushed). p.limit) (install_pushes old.sealed.tables new.sealed.tables m installs);
    publishes = ap (λ (c : Counts). c.publishes) counts;
  };
  refused = tt;
}

-- a table that stands isn't stale
pub never_stale : {M : Type 0} (answer : Result (Unit {0}) (Uninstalled M)) (P : Type 0) → IfErr answer (λ e. OnStale e (P → ⊥)) → P → IfErr answer (λ e. OnStale e ⊥)
never_stale (Ok done) P stale stands = tt
never_stale (Err (uninstalled.NoMemory m)) P stale stands = tt
never_stale (Err uninstalled.Stale) P stale stands = stale stands
never_stale (Err uninstalled.RegistryFull) P stale stands = tt

-- only a full registry is told as one
full_if_told : {M : Type 0} (old new : View) (answer : Result (Unit {0}) (Uninstalled M)) (e : Uninstalled M) (r : Refusal) (P : Type 0) → answer ≡ Err e → new ≡ old
    → OnFull e (P × (old.sealed.tables.pushed.count ≡ old.sealed.tables.pushed.limit))
    → (r ≡ refusal.NoMemory) ⊎ ((r ≡ refusal.RegistryFull) × (answer ≡ Err uninstalled.RegistryFull)) → IsFull new r
full_if_told old new answer e r P was same full (inl is) = subst (IsFull new) (sym is) tt
full_if_told old new answer uninstalled.RegistryFull r P was same full (inr (is, told)) =
    subst (IsFull new) (sym is) (subst (λ (v : View). v.sealed.tables.pushed.count ≡ v.sealed.tables.pushed.limit) (sym same) full.1)
full_if_told old new answer (uninstalled.NoMemory m) r P was same full (inr (is, told)) = absurd (cc)
full_if_told old new answer uninstalled.Stale r P was same full (inr (is, told)) = absurd (cc)

-- an install answered
pub install_answered : {X A N : Type 0} (old new : store.View) (m : Merged A N) (answer : Result (Unit {0}) (Uninstalled (Merged A N))) (result : Result X Refusal) (P : Type 0)
    → is_ok result ≡ is_ok answer
    → new.forest.journal ≡ old.forest.journal → new.forest.clock ≡ old.forest.clock
    → OnOk answer (InstallsIn old.forest.sealed.tables m new.forest.sealed.tables)
    → OnOk answer (new.forest.sealed.counts ≡ record old.forest.sealed.counts { rows_held = old.forest.sealed.counts.rows_held + length (output_of m).table.rows })
    → OnErr answer (new ≡ old)
    → IfErr answer (λ e. OnFull e (P × (old.forest.sealed.tables.pushed.count ≡ old.forest.sealed.tables.pushed.limit)))
    → IfErr result (λ r. (r ≡ refusal.NoMemory) ⊎ ((r ≡ refusal.RegistryFull) × (answer ≡ Err uninstalled.RegistryFull)))
    → IsCompacted old.forest new.forest result
install_answered old new m (Ok done) (Ok x) P alike journal clock installs counts same full told = table_installed old.forest new.forest m x journal clock installs counts
install_answered old new m (Ok done) (Err r) P alike journal clock installs counts same full told = absurd (cc)
install_answered old new m (Err e) (Ok x) P alike journal clock installs counts same full told = absurd (cc)
install_answered old new m (Err e) (Err r) P alike journal clock installs counts same full told =
    let still = ap (λ (v : store.View). v.forest) same in
    nothing_merged old.forest new.forest (Err r) still (full_if_told old.forest new.forest (Err e) e r P refl still full told)

-- and pushed a table, if it was put in place, for which there was room
pub install_pushed : {X A N : Type 0} (old new : manifest.View) (m : Merged A N) (answer : Result (Unit {0}) (Uninstalled (Merged A N))) (result : Result X Refusal)
    → is_ok result ≡ is_ok answer → OnOk answer (InstallsIn old m new) → OnOk result (new.pushed.count ≡ old.pushed.count + 1)
install_pushed old new m (Ok done) (Ok x) alike installs = ap (λ (p : Pushed). p.count) (install_pushes old new m installs)
install_pushed old new m (Err e) (Ok x) alike installs = absurd (cc)
install_pushed old new m answer (Err r) alike installs = tt

pub answered_as : {X Y E F : Type 0} (result : Result X E) (answer : Result Y F) (P : Type 0) → is_ok result ≡ is_ok answer → OnOk answer P → OnOk result P
answered_as (Ok x) (Ok y) P alike p = p
answered_as (Ok x) (Err e) P alike p = absurd (cc)
answered_as (Err e) answer P alike p = tt

-- what was left before is left still
pub stays_on : (old mid new : View) → Stays old mid → Stays mid new → Stays old new
stays_on old mid new first second = record {
  journal = second.journal ∙ first.journal;
  clock = second.clock ∙ first.clock;
  limit = second.limit ∙ first.limit;
  publishes = second.publishes ∙ first.publishes;
}

pub rest_on : (old mid new : store.View) → KeepsRest old mid → KeepsRest mid new → KeepsRest old new
rest_on old mid new before after = record {
  receipts = after.receipts ∙ before.receipts;
  readable = after.readable ∙ before.readable;
  fresh = after.fresh ∙ before.fresh;
  waiting = after.waiting ∙ before.waiting;
  kept = after.kept ∙ before.kept;
}

below_or_at : (a n : ℕ) → a < n + 1 → ¬ (a ≡ n) → a < n
below_or_at a n within apart = elim (cases_lt a n) [
  | inl below ↦ below
  | inr from ↦ absurd (apart (omega (arith, within, from)))
]

-- one more row has no run to merge, and those before it have none still
pub merged_on : (old new : View) (n : ℕ) (row : Row) → place_of row ≡ n → ((r : Row) → place_of r < n → IsMergedOut old r) → KeepsOthers row old.sealed.tables new.sealed.tables → IsMergedOut new row
    → (r : Row) → place_of r < n + 1 → IsMergedOut new r
merged_on old new n row stands before others own r within =
    by_row (IsMergedOut new r) r row
    (λ e. subst (IsMergedOut new) (sym e) own)
    (λ differ level.
    let apart : r ≢ row = λ e. both_ways (place_of r == place_of row) differ (eq-eqb (place_of r) (place_of row) (ap place_of e)) in
    let other : ¬ (place_of r ≡ place_of row) = λ e. both_ways (place_of r == place_of row) differ (eq-eqb (place_of r) (place_of row) e) in
    let less : place_of r < n = below_or_at (place_of r) n within (λ e. other (e ∙ sym stands)) in
    subst (λ (ts : List (Shown (StoredBy (kind_of r)))). count_at level ts < 4) (sym (others r apart)) (before r less level))
