use Rattle.tf_scan.proofs.Nodes.{keeps-again}
use Rattle.tf_scan.proofs.Moves.{moved-run}
use Rattle.tf_scan.proofs.node.taking.take_union.Goals as goal

pub loop-taken-preserved : goal.loop-taken-preserved
loop-taken-preserved g c =
    let run = c.take_of_union-to.ensures.moved in
    record {
      left = keeps-again c.args.left.now c.loop-taken.left c.take_of_union-to.new.left c.loop-taken.invariant.left run.left_kept;
      right = keeps-again c.args.right.now c.loop-taken.right c.take_of_union-to.new.right c.loop-taken.invariant.right run.right_kept;
      moved = moved-run _ _ _ _ _ c.loop-taken.invariant.moved run.ts _ _ _ run.front run.written;
    }
