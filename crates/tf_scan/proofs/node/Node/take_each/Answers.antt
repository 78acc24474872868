use Rattle.std.proofs.Common.{◌≡◌, refl, arith, length}
use Rattle.tf_scan.proofs.Nodes.{keeps-again}
use Rattle.tf_scan.proofs.Moves.{moved-none, moved-next, moved-list, moved-rest, moved-full, moved-all, moved-end}
use Rattle.tf_scan.proofs.node.Node.take_each.Goals as goal

pub loop-taken-init : goal.loop-taken-init
loop-taken-init g c = record { moved = moved-none _ _; kept = record { direction = refl; height = refl; in_order = c.requires } }

pub loop-taken-preserved : goal.loop-taken-preserved
loop-taken-preserved g c =
    record {
      moved = moved-next _ _ _ _ _ c.loop-taken.invariant.moved _ c.in-Some.timestamp c.in-Some.ensures.first c.next.ensures.others (omega arith);
      kept = keeps-again _ _ _ c.loop-taken.invariant.kept c.next.ensures.kept;
    }

pub returns-in-None-clause-count : goal.returns-in-None-clause-count
returns-in-None-clause-count g c = moved-all _ _ _ _ _ c.loop-taken.invariant.moved c.in-None.ensures.first

pub returns-in-None-clause-moved : goal.returns-in-None-clause-moved
returns-in-None-clause-moved g c = moved-list _ _ _ _ _ c.loop-taken.invariant.moved

pub returns-in-None-clause-others : goal.returns-in-None-clause-others
returns-in-None-clause-others g c = moved-end _ _ _ _ _ c.loop-taken.invariant.moved _ c.in-None.ensures.first c.next.ensures.others

pub returns-in-None-clause-kept : goal.returns-in-None-clause-kept
returns-in-None-clause-kept g c = keeps-again _ _ _ c.loop-taken.invariant.kept c.next.ensures.kept

pub returns-clause-count : goal.returns-clause-count
returns-clause-count g c = let full : length c.loop-taken.out ≡ c.loop-taken.taken = omega arith in rw full (moved-full _ _ _ _ _ c.loop-taken.invariant.moved (omega arith))

pub returns-clause-moved : goal.returns-clause-moved
returns-clause-moved g c = let full : length c.loop-taken.out ≡ c.loop-taken.taken = omega arith in rw full (moved-list _ _ _ _ _ c.loop-taken.invariant.moved)

pub returns-clause-others : goal.returns-clause-others
returns-clause-others g c = let full : length c.loop-taken.out ≡ c.loop-taken.taken = omega arith in rw full (moved-rest _ _ _ _ _ c.loop-taken.invariant.moved)
