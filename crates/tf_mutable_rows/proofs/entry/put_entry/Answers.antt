use Rattle.std.proofs.Common.{Option, ◌∙◌, ap}
use Rattle.tf_sorted.specs.Rows.{with_row}
use Rattle.tf_table.specs.Key.{key_cmp}
use Rattle.tf_manifest.specs.declared.value.Value.{Value}
use Rattle.tf_mutable.specs.Mutable.{given_back}
use Rattle.tf_rows.specs.Parts.{seen_rows}
use Rattle.tf_mutable_rows.proofs.entry.put_entry.Goals as goal

pub returns-clause-rows : goal.returns-clause-rows
returns-clause-rows g c =
    c.in_ok-before.ensures.rows
    ∙ ap (λ (entry : Option Value). with_row key_cmp c.args.key entry (seen_rows g.V.RowValue.seen (g.M.MutableTable.rows c.args.table.now))) c.stored_entry-stored.ensures

pub returns-clause-restores : goal.returns-clause-restores
returns-clause-restores g c =
    ap (λ (before : Option (Option Value)). given_back c.args.key before (seen_rows g.V.RowValue.seen (g.M.MutableTable.rows c.put_stored.new.table))) c.seen_before.ensures.seen
    ∙ c.in_ok-before.ensures.restores
