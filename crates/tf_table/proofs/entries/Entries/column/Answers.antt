use Rattle.std.proofs.Common.{◌-◌, replicate, sym, ◌∙◌, ap, arith}
use Rattle.std.specs.Prelude.{take, drop}
use Rattle.std.proofs.lemmas.List.{drop-replicate, take-replicate}
use Rattle.tf_table.specs.Entries.{entries_of}
use Rattle.tf_table.proofs.entries.Entries.column.Goals as goal

pub returns-in-Same : goal.returns-in-Same
returns-in-Same g c = λ rows l.
    let count = c.args.to - c.args.from in
    let entry = c.in-Same.entry in
    ap (replicate count) c.as_ref.ensures.value
    ∙ sym (take-replicate count (rows - c.args.from) entry (omega (arith, c.requires.ordered)))
    ∙ ap (take count) (sym (drop-replicate c.args.from rows entry))
    ∙ ap (λ es. take count (drop c.args.from (entries_of rows es))) (sym c.in-Same.is)
