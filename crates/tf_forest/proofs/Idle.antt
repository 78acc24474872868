-- A publish where no mutable table has an entry.
use Rattle.std.proofs.Common.{◌≡◌, List, Option, refl, sym, subst, arith}
use Rattle.tf_table.specs.declared.key.Key.{Key}
use Rattle.tf_manifest.specs.declared.value.Value.{Value}
use Rattle.tf_manifest.specs.Kinds.{kind_of}
use Rattle.tf_manifest.specs.RowNames.{rows_in_order}
use Rattle.tf_manifest.specs.View.{tables_by, value_by}
use Rattle.tf_rows.specs.Counts.{Counted}
use Rattle.tf_rows.specs.Parts.{Entries}
use Rattle.tf_publish.specs.Publish.{entries_waiting, tables_needed}
use Rattle.tf_publish.specs.Tables.{Publishes, PublishesTables, sum_of}
use Rattle.tf_publish.proofs.PublishRows.{none_needed}
use Rattle.tf_publish.proofs.Tables.{none_in_all, none_there}

-- it leaves the tables that there are
pub publishes_nothing : (fresh : Entries) (sealed : Counted) → entries_waiting fresh ≡ 0 → Publishes fresh sealed sealed
publishes_nothing fresh sealed none =
    let needed : tables_needed fresh sealed.tables ≡ 0 = none_needed fresh sealed.tables (none_there fresh none) in
    let entries : sum_of (λ r. 0) rows_in_order ≡ 0 = none_in_all rows_in_order in
    record {
      entries = λ r. 0;
      tables = λ r.
          let tables = tables_by sealed.tables (kind_of r) in
          subst (λ (es : List (Key × Option Value)). PublishesTables (value_by (kind_of r)) es tables tables 0) (sym (none_there fresh none r)) (refl, refl);
      pushed = omega (arith, needed);
      limit = refl;
      held = omega (arith, entries);
      sealed = omega (arith, none);
    }
