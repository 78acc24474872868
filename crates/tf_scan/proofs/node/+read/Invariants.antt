use Rattle.std.proofs.Common.{◌+◌, ◌*◌, length}
use Rattle.std.specs.Prelude.{max}
use Rattle.tf_scan.specs.Node.{height_of}
use Rattle.tf_scan.proofs.Nodes.{IsMeeting}
use Rattle.tf_scan.proofs.node.+read.Given as goal

abbrev pub decreases-Node::peek : goal.decreases-Node::peek
decreases-Node::peek g l = 3 * l.self.now.height + 2

abbrev pub decreases-Node::next : goal.decreases-Node::next
decreases-Node::next g l = 3 * l.self.now.height + 2

abbrev pub decreases-reading::read : goal.decreases-reading::read
decreases-reading::read g l = 3 * height_of l.kind.now + 1

abbrev pub decreases-reading::next_of_union : goal.decreases-reading::next_of_union
decreases-reading::next_of_union g l = 3 * max l.left.now.height l.right.now.height + 3

abbrev pub decreases-reading::next_of_intersection : goal.decreases-reading::next_of_intersection
decreases-reading::next_of_intersection g l = 3 * max l.left.now.height l.right.now.height + 3

abbrev pub invariant-reading::next_of_intersection-loop-first : goal.invariant-reading::next_of_intersection-loop-first
invariant-reading::next_of_intersection-loop-first g l = IsMeeting l.initial.left l.initial.right l.left l.right

abbrev pub decreases-reading::next_of_intersection-loop-first : goal.decreases-reading::next_of_intersection-loop-first
decreases-reading::next_of_intersection-loop-first g l = length l.left.left + length l.right.left
