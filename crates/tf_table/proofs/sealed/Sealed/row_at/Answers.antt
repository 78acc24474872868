use Rattle.std.proofs.Common.{length, arith, ap, sym, ◌∙◌}
use Rattle.std.specs.List.{slice_get}
use Rattle.std.specs.Option.{option_copied}
use Rattle.std.proofs.lemmas.Option.{slice_get_past}
use Rattle.tf_table.proofs.LaidOut.{length-rows_of, row_read}
use Rattle.tf_table.proofs.sealed.Sealed.row_at.Goals as goal

pub returns-then-place-len-clause-value : goal.returns-then-place-len-clause-value
returns-then-place-len-clause-value g c =
    let keys = c.self.inside.keys.items in
    sym (row_read keys c.self.inside.entries c.args.place c.index.result.now (option_copied c.at.result) c.self.invariant.laid.paired (omega arith) c.index.ensures (c.at.ensures (length keys) _ (omega arith)))
    ∙ ap (λ rows. slice_get rows c.args.place) c.self.view_is

pub returns-else-place-len-clause-value : goal.returns-else-place-len-clause-value
returns-else-place-len-clause-value g c =
    let rows = length-rows_of c.self.inside.keys.items c.self.inside.entries c.self.invariant.laid.paired in
    sym (slice_get_past _ c.args.place (omega (arith, rows))) ∙ ap (λ rows. slice_get rows c.args.place) c.self.view_is
