use Rattle.std.proofs.Common.{◌≡◌, ◌∙◌, sym, ap, length}
use Rattle.std.specs.List.{zip}
use Rattle.tf_table.specs.Column.{column_of}
use Rattle.tf_scan.proofs.Paired.{entries-within, entries-written}
use Rattle.tf_scan.proofs.run.take_entries.Goals as goal

pub pass-requires : goal.pass-requires
pass-requires g c =
    let keys = c.runs.result.0.now in
    let together = ap (λ es. zip keys (column_of (length keys) es)) (sym c.in-Each.is) ∙ c.runs.ensures.rows.together in
    entries-within c.args.direction c.args.turn.until c.args.from keys c.in-Each.entries.now c.write_entries-to.result.0 c.write_entries-to.result.1 c.args.out.now c.write_entries-to.new.out c.write_entries-to.ensures c.args.rows.now together

pub returns : goal.returns
returns g c =
    let keys = c.runs.result.0.now in
    let together = ap (λ es. zip keys (column_of (length keys) es)) (sym c.in-Each.is) ∙ c.runs.ensures.rows.together in
    entries-written c.args.direction c.args.turn.until c.args.from keys c.in-Each.entries.now c.write_entries-to.result.0 c.write_entries-to.result.1 c.args.out.now c.write_entries-to.new.out c.write_entries-to.ensures c.args.rows.now together c.pass.new.rows c.pass.ensures
