use Rattle.std.proofs.Common.{arith}
use Rattle.tf_table.specs.Merge.{seen}
use Rattle.tf_scan.proofs.Taking.{taken-length}
use Rattle.tf_scan.proofs.Runs.{rows-none, rows-both, rows-one}
use Rattle.tf_scan.proofs.run.take_each.Goals as goal

pub loop-to-init : goal.loop-to-init
loop-to-init g c = rows-none c.args.direction c.args.turn.until c.args.from c.args.rows.now c.args.out.now c.requires

pub loop-to-preserved : goal.loop-to-preserved
loop-to-preserved g c =
    let d = c.args.direction in
    let until = c.args.turn.until in
    rows-both d until c.args.from c.loop-to.to c.write_row-to.result c.args.rows.now c.loop-to.rows c.next_in_turn.new.rows c.args.out.now c.loop-to.out c.write_row-to.new.out c.loop-to.invariant
    (rows-one d until c.loop-to.to c.write_row-to.result c.loop-to.rows c.next_in_turn.new.rows (seen c.in-Some.row) c.loop-to.out c.write_row-to.new.out c.in-Some.ensures.0 c.in-Some.ensures.1 c.write_row-to.ensures)

pub loop-to-smaller : goal.loop-to-smaller
loop-to-smaller g c = omega (arith, taken-length c.args.direction (seen c.in-Some.row) c.loop-to.rows c.next_in_turn.new.rows c.in-Some.ensures.0)
