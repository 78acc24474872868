use Rattle.std.proofs.Common.{ap, ◌∙◌}
use Rattle.tf_table.specs.declared.column.Column.TheVariants.{Same}
use Rattle.tf_scan.proofs.Keys.{rows-before, rows-within, rows-written}
use Rattle.tf_scan.proofs.run.take_values.Goals as goal

pub overflow_sub-to : goal.overflow_sub-to
overflow_sub-to g c =
    rows-before c.runs.result.0.now c.runs.result.1 c.in-Some._value c.args.rows.now (c.in-Same.is ∙ ap Same c.in-Some.is) c.runs.ensures.rows.together c.runs.ensures.rising c.args.direction c.args.turn.until c.args.from c.write_first-to.result c.args.out.now c.write_first-to.new.out
    c.write_first-to.ensures

pub pass-requires : goal.pass-requires
pass-requires g c =
    rows-within c.runs.result.0.now c.runs.result.1 c.in-Some._value c.args.rows.now (c.in-Same.is ∙ ap Same c.in-Some.is) c.runs.ensures.rows.together c.runs.ensures.rising c.args.direction c.args.turn.until c.args.from c.write_first-to.result c.args.out.now c.write_first-to.new.out
    c.write_first-to.ensures

pub returns : goal.returns
returns g c =
    rows-written c.runs.result.0.now c.runs.result.1 c.in-Some._value c.args.rows.now (c.in-Same.is ∙ ap Same c.in-Some.is) c.runs.ensures.rows.together c.runs.ensures.rising c.args.direction c.args.turn.until c.args.from c.write_first-to.result c.args.out.now c.write_first-to.new.out
    c.write_first-to.ensures c.pass.new.rows c.pass.ensures
