use Rattle.std.proofs.Common.{◌<◌, length, arith, ap, sym, ◌∙◌}
use Rattle.std.specs.List.{slice_index_or}
use Rattle.tf_table.proofs.LaidOut.{length-rows_of, entry_there, has_entry}
use Rattle.tf_table.proofs.sealed.Sealed.entry_at.Goals as goal

pub entry-requires : goal.entry-requires
entry-requires g c =
    let keys = c.self.inside.keys.items in
    let es = c.self.inside.entries in
    let rows = length-rows_of keys es c.self.invariant.laid.paired in
    let seen = ap length c.self.view_is in
    has_entry keys es c.args.place c.self.invariant.laid.paired (omega arith)

pub returns : goal.returns
returns g c = λ d.
    let keys = c.self.inside.keys.items in
    let es = c.self.inside.entries in
    let rows = length-rows_of keys es c.self.invariant.laid.paired in
    let seen = ap length c.self.view_is in
    let within : c.args.place < length keys = omega arith in
    sym (ap (λ rs. (slice_index_or rs c.args.place d).1) c.self.view_is)
    ∙ entry_there keys es c.args.place d c.self.invariant.laid.paired within
    ∙ c.entry.ensures (length keys) d.1 within
