-- What a publish that isn't settled leaves of a forest, and what one that is settled does.
use Rattle.std.proofs.Common.{◌≡◌, ◌≢◌, ℕ, List, [], Some, None, sym, ◌∙◌, ◌+◌, ap, subst}
use Rattle.tf_journal.specs.declared.entry.Entry.{Entry}
use Rattle.tf_table.specs.declared.key.Key.{Key}
use Rattle.tf_table.specs.Content.{entry_at}
use Rattle.tf_manifest.specs.declared.row.Row.{Row}
use Rattle.tf_registry.specs.Limit.{Pushed}
use Rattle.tf_manifest.specs.Shows.{Shows}
use Rattle.tf_manifest.specs.View.{ShowsJournal, View as Tables}
use Rattle.tf_rows.specs.Counts.{Loses, Sealed}
use Rattle.tf_forest.specs.Forest.{Noted, View, fresh_at_marks}
use Rattle.tf_rows.specs.Spelled.{journal_in}
use Rattle.tf_rows.specs.Nest.{LogsHaveValues}
use Rattle.tf_rows.specs.Next.{content_in}
use Rattle.tf_rows.specs.Parts.{Entries, Part, parts_of, value_of_part}
use Rattle.tf_publish.specs.Publish.{entries_waiting, tables_needed}
use Rattle.tf_publish.specs.Tables.{listed}
use Rattle.tf_forest.specs.Unpublished.{IsUnpublished}
use Rattle.tf_publish.proofs.PublishRows.{no_tombstone, parts_apart}
use Rattle.tf_publish.proofs.Sealed.{found_sealed}

module _ (fresh after : Entries) (old new : Sealed) (most : ℕ) (same : after ≡ fresh) (loses : Loses old new most) where
  tables : new.tables ≡ record old.tables { pushed = new.tables.pushed }
  tables =
      let is : new.tables ≡ record old.tables { pushed = record { count = old.tables.pushed.count + loses.tables; limit = old.tables.pushed.limit } } = ap (λ (s : Sealed). s.tables) loses.is in
      is ∙ ap (λ (p : Pushed). record old.tables { pushed = p }) (sym (ap (λ (v : Tables). v.pushed) is))

  pub values_stay : (r : Row) (key : Key) → value_of_part (parts_of after new.tables r) key ≡ value_of_part (parts_of fresh old.tables r) key
  values_stay r key =
      ap (λ (f : Entries). value_of_part (parts_of f new.tables r) key) same
      ∙ ap (λ (v : Tables). value_of_part (parts_of fresh v r) key) tables
      ∙ ap (λ (part : Part). value_of_part part key) (parts_apart fresh old.tables new.tables.pushed r)

  pub logs_stay : LogsHaveValues (parts_of fresh old.tables) → LogsHaveValues (parts_of after new.tables)
  logs_stay values r log key = subst (λ (f : Entries). entry_at key (f r) ≢ Some None) (sym same) (values r log key)

  pub unpublished : (notes : List Noted) (clock kept : ℕ) (view : View) → notes ≡ []
      → record { journal = journal_in (parts_of fresh old.tables); sealed = old; fresh = listed fresh; marks = fresh_at_marks notes (parts_of fresh old.tables); needed = tables_needed fresh old.tables; waiting = entries_waiting fresh; clock = clock; kept = kept } ≡ view
      → most ≡ view.needed → journal_in (parts_of after new.tables) ≡ journal_in (parts_of fresh old.tables)
      → IsUnpublished view (record { journal = journal_in (parts_of after new.tables); sealed = new; fresh = listed after; marks = fresh_at_marks notes (parts_of after new.tables); needed = tables_needed after new.tables; waiting = entries_waiting after; clock = clock; kept = kept })
  unpublished notes clock kept view none is all journal =
      let seen : List Entry → Entries → List Noted → Tables → ℕ → View = λ j f ns ts n. record { journal = j; sealed = new; fresh = listed f; marks = fresh_at_marks ns (parts_of f ts); needed = n; waiting = entries_waiting f; clock = clock; kept = kept } in
      let was : List Entry = journal_in (parts_of fresh old.tables) in
      let now : View = seen (journal_in (parts_of after new.tables)) after notes new.tables (tables_needed after new.tables) in
      let left : now ≡ seen was fresh notes old.tables (tables_needed fresh old.tables) =
      ap (λ (j : List Entry). seen j after notes new.tables (tables_needed after new.tables)) journal
      ∙ ap (λ (f : Entries). seen was f notes new.tables (tables_needed f new.tables)) same
      ∙ ap (λ (v : Tables). seen was fresh notes new.tables (tables_needed fresh v)) tables
      ∙ ap (λ (ns : List Noted). seen was fresh ns new.tables (tables_needed fresh old.tables)) none
      ∙ ap (λ (ns : List Noted). seen was fresh ns old.tables (tables_needed fresh old.tables)) (sym none) in
      record {
        is = left ∙ ap (λ (v : View). record v { sealed = new }) is;
        loses = subst (λ (n : ℕ). Loses view.sealed new n) all (subst (λ (s : Sealed). Loses s new most) (ap (λ (v : View). v.sealed) is) loses);
      }

-- mutable tables without entries in front of tables that alone show the journal
module _ (after : Entries) (new : Tables) (none : (r : Row) → after r ≡ []) where
  pub values_alone : (old : Entries) (was : Tables) (journal : List Entry) → ShowsJournal new journal → Shows (content_in (parts_of old was)) journal
      → (r : Row) (key : Key) → value_of_part (parts_of after new r) key ≡ value_of_part (parts_of old was r) key
  values_alone old was journal alone shows r key = sym (found_sealed after new r key (sym (ap (entry_at key) (none r)))) ∙ alone r key ∙ sym (shows r key)

  pub logs_alone : LogsHaveValues (parts_of after new)
  logs_alone r log key = no_tombstone key (after r) (none r)
