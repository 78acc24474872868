-- What an install of a manifest answers.
use Rattle.std.proofs.Common.{◌≡◌, ℕ, ◌<◌, List, [], Ok, Err, Result, OnOk, OnErr, IfErr, sym, ◌∙◌, ap, subst}
use Rattle.std.specs.Prelude.{slice_index_or}
use Rattle.tf_table.specs.declared.key.Key.{Key}
use Rattle.tf_manifest.specs.declared.jobs.Merged.{Merged}
use Rattle.tf_registry.specs.declared.uninstalled.Uninstalled.{Uninstalled}
use Rattle.tf_registry.specs.declared.uninstalled.Uninstalled.TheVariants.{NoMemory, Stale, RegistryFull}
use Rattle.tf_manifest.specs.declared.kind.Kind.{Kind}
use Rattle.tf_manifest.specs.declared.row.Row.{Row}
use Rattle.tf_registry.specs.Install.{IfNoMemory, OnFull, OnStale}
use Rattle.tf_manifest.specs.Install.{AreParts}
use Rattle.tf_manifest.specs.Jobs.{Answers, kind_of_merged, output_of}
use Rattle.tf_registry.specs.Limit.{Pushed, one_more}
use Rattle.tf_registry.specs.Run.{Output, Stands}
use Rattle.tf_manifest.specs.KindRows.{InstallsAt}
use Rattle.tf_registry.specs.Table.{Shown}
use Rattle.tf_manifest.specs.View.{View, StoredBy, content_in, place_by, rows_by, with_rows}
use Rattle.tf_manifest.proofs.Views.{with_same, content_installed}

unchanged : (old : View) (k : Kind) (rows : List (List (Shown (StoredBy k)))) (now : Pushed) → rows ≡ rows_by old k → now ≡ old.pushed → with_rows (record old { pushed = now }) k rows ≡ old
unchanged old k rows now r p =
    ap (λ (rs : List (List (Shown (StoredBy k)))). with_rows (record old { pushed = now }) k rs) r
    ∙ ap (λ (q : Pushed). with_rows (record old { pushed = q }) k (rows_by old k)) p
    ∙ with_same old k

-- what an install among the rows of one kind says, as its contract does
pub record KindAnswers {V : Type 0} (old : List (List (Shown V))) (at : ℕ) (out : Output V) (was : Pushed) (answer : Result (Unit {0}) (Uninstalled (Output V))) (new : List (List (Shown V))) (now : Pushed) : Type 0 where
  pub installs : OnOk answer (InstallsAt old at out new)
  pub pushed : OnOk answer (now ≡ one_more was)
  pub room : OnOk answer (was.count < was.limit)
  pub err : OnErr answer ((new ≡ old) × (now ≡ was))
  pub stale : IfErr answer (λ e. OnStale e (Stands (slice_index_or old at []) out.run → ⊥))
  pub full : IfErr answer (λ e. OnFull e (Stands (slice_index_or old at []) out.run × (was.count ≡ was.limit)))
  pub no_memory : IfErr answer (λ e. IfNoMemory e (λ back. Stands (slice_index_or old at []) out.run × (was.count < was.limit)))
  pub back : IfErr answer (λ e. IfNoMemory e (λ back. back ≡ out))

-- the parts of an answer as one, where what is handed back stands under its row
abbrev pub whole : {M K : Type 0} → (M → K) → Result (Result (Unit {0}) (Uninstalled K)) M → Result (Unit {0}) (Uninstalled K)
whole name (Ok answer) = answer
whole name (Err back) = Err (NoMemory (name back))

module _ {A N : Type 0} where
  -- an answer that hands nothing back
  told : (old : View) (m : Merged A N) (answer : Result (Unit {0}) (Uninstalled (Output (StoredBy (kind_of_merged m))))) (result : Result (Unit {0}) (Uninstalled (Merged A N)))
      (rows : List (List (Shown (StoredBy (kind_of_merged m))))) (now : Pushed)
      → KindAnswers (rows_by old (kind_of_merged m)) (place_by (kind_of_merged m)) (output_of m) old.pushed answer rows now
      → AreParts answer (Ok result)
      → Answers old m result (with_rows (record old { pushed = now }) (kind_of_merged m) rows)
  told old m (Ok done) (Ok again) rows now h parts =
      (record { rows = rows; installs = h.installs; is = ap (λ (p : Pushed). with_rows (record old { pushed = p }) (kind_of_merged m) rows) h.pushed }, h.room)
  told old m (Ok done) (Err Stale) rows now h parts = absurd parts
  told old m (Ok done) (Err RegistryFull) rows now h parts = absurd parts
  told old m (Ok done) (Err (NoMemory k)) rows now h parts = absurd parts
  told old m (Err Stale) (Ok again) rows now h parts = absurd parts
  told old m (Err Stale) (Err Stale) rows now h parts = (unchanged old (kind_of_merged m) rows now h.err.0 h.err.1, h.stale)
  told old m (Err Stale) (Err RegistryFull) rows now h parts = absurd parts
  told old m (Err Stale) (Err (NoMemory k)) rows now h parts = absurd parts
  told old m (Err RegistryFull) (Ok again) rows now h parts = absurd parts
  told old m (Err RegistryFull) (Err Stale) rows now h parts = absurd parts
  told old m (Err RegistryFull) (Err RegistryFull) rows now h parts = (unchanged old (kind_of_merged m) rows now h.err.0 h.err.1, h.full.0, h.full.1)
  told old m (Err RegistryFull) (Err (NoMemory k)) rows now h parts = absurd parts
  told old m (Err (NoMemory b)) (Ok again) rows now h parts = absurd parts
  told old m (Err (NoMemory b)) (Err Stale) rows now h parts = absurd parts
  told old m (Err (NoMemory b)) (Err RegistryFull) rows now h parts = absurd parts
  told old m (Err (NoMemory b)) (Err (NoMemory k)) rows now h parts = absurd parts

  -- an answer that hands the merged table back, under its row
  handed : (old : View) (m : Merged A N) (name : Output (StoredBy (kind_of_merged m)) → Merged A N) (answer : Result (Unit {0}) (Uninstalled (Output (StoredBy (kind_of_merged m))))) (back : Output (StoredBy (kind_of_merged m)))
      (rows : List (List (Shown (StoredBy (kind_of_merged m))))) (now : Pushed)
      → KindAnswers (rows_by old (kind_of_merged m)) (place_by (kind_of_merged m)) (output_of m) old.pushed answer rows now
      → AreParts {K = Merged A N} answer (Err back)
      → name (output_of m) ≡ m
      → Answers old m (Err (NoMemory (name back))) (with_rows (record old { pushed = now }) (kind_of_merged m) rows)
  handed old m name (Ok done) back rows now h parts named = absurd parts
  handed old m name (Err Stale) back rows now h parts named = absurd parts
  handed old m name (Err RegistryFull) back rows now h parts named = absurd parts
  handed old m name (Err (NoMemory b)) back rows now h parts named =
      (unchanged old (kind_of_merged m) rows now h.err.0 h.err.1, h.no_memory.0, h.no_memory.1, ap name (parts ∙ h.back) ∙ named)

  among : (old : View) (m : Merged A N) (name : Output (StoredBy (kind_of_merged m)) → Merged A N) (answer : Result (Unit {0}) (Uninstalled (Output (StoredBy (kind_of_merged m)))))
      (parts : Result (Result (Unit {0}) (Uninstalled (Merged A N))) (Output (StoredBy (kind_of_merged m))))
      (rows : List (List (Shown (StoredBy (kind_of_merged m))))) (now : Pushed)
      → KindAnswers (rows_by old (kind_of_merged m)) (place_by (kind_of_merged m)) (output_of m) old.pushed answer rows now
      → AreParts answer parts → name (output_of m) ≡ m
      → Answers old m (whole name parts) (with_rows (record old { pushed = now }) (kind_of_merged m) rows)
  among old m name answer (Ok result) rows now h parts named = told old m answer result rows now h parts
  among old m name answer (Err back) rows now h parts named = handed old m name answer back rows now h parts named

  -- such an install is one of the manifest
  pub answers : (inside old : View) (m merged : Merged A N) (name : Output (StoredBy (kind_of_merged m)) → Merged A N) (at : ℕ)
      (answer : Result (Unit {0}) (Uninstalled (Output (StoredBy (kind_of_merged m)))))
      (parts : Result (Result (Unit {0}) (Uninstalled (Merged A N))) (Output (StoredBy (kind_of_merged m))))
      (result : Result (Unit {0}) (Uninstalled (Merged A N)))
      (rows : List (List (Shown (StoredBy (kind_of_merged m))))) (now : Pushed)
      → inside ≡ old → merged ≡ m → at ≡ place_by (kind_of_merged m)
      → KindAnswers (rows_by inside (kind_of_merged m)) at (output_of m) inside.pushed answer rows now
      → AreParts answer parts → result ≡ whole name parts → name (output_of m) ≡ m
      → Answers old merged result (with_rows (record inside { pushed = now }) (kind_of_merged m) rows)
  answers inside old m merged name at answer parts result rows now is_old is_merged is_at h split is named =
      let k : Kind = kind_of_merged m in
      let new : View = with_rows (record inside { pushed = now }) k rows in
      let there : KindAnswers (rows_by inside k) (place_by k) (output_of m) inside.pushed answer rows now =
      subst (λ (i : ℕ). KindAnswers (rows_by inside k) i (output_of m) inside.pushed answer rows now) is_at h in
      subst (λ (v : View). Answers v merged result new) is_old
      (subst (λ (x : Merged A N). Answers inside x result new) (sym is_merged)
      (subst (λ (r : Result (Unit {0}) (Uninstalled (Merged A N))). Answers inside m r new) (sym is)
      (among inside m name answer parts rows now there split named)))

  pub content : (old new : View) (m : Merged A N) (result : Result (Unit {0}) (Uninstalled (Merged A N))) → Answers old m result new → (row : Row) (key : Key) → content_in new row key ≡ content_in old row key
  content old new m (Ok done) h row key = content_installed old new m h.0 row key
  content old new m (Err Stale) h row key = ap (λ (v : View). content_in v row key) h.0
  content old new m (Err RegistryFull) h row key = ap (λ (v : View). content_in v row key) h.0
  content old new m (Err (NoMemory b)) h row key = ap (λ (v : View). content_in v row key) h.0
