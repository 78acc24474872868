use Rattle.std.proofs.Common.{◌∙◌, Some, sym, ap}
use Rattle.std.specs.Option.{option_map}
use Rattle.tf_rows.proofs.Parts.{entry_at-seen}
use Rattle.tf_mutable_rows.proofs.entry.entry_in.Goals as goal

pub returns-in-Some : goal.returns-in-Some
returns-in-Some g c =
    ap Some c.seen_entry.ensures
    ∙ ap (option_map (option_map g.V.RowValue.seen)) c.in-Some.ensures
    ∙ sym (entry_at-seen g.V.RowValue.seen c.args.key.now (g.M.MutableTable.rows c.args.table.now))

pub returns-in-None : goal.returns-in-None
returns-in-None g c =
    ap (option_map (option_map g.V.RowValue.seen)) c.in-None.ensures
    ∙ sym (entry_at-seen g.V.RowValue.seen c.args.key.now (g.M.MutableTable.rows c.args.table.now))
