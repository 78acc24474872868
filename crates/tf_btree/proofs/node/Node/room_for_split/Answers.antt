use Rattle.tf_btree.proofs.Words.{sym, ◌∙◌}
use Rattle.tf_btree.proofs.Adopted.{no_true, not_false}
use Rattle.tf_btree.proofs.node.Node.room_for_split.Goals as goal

pub is_child_at_edge-requires-clause-branch : goal.is_child_at_edge-requires-clause-branch
is_child_at_edge-requires-clause-branch g c = c.requires.branch

pub is_child_at_edge-requires-clause-in_range : goal.is_child_at_edge-requires-clause-in_range
is_child_at_edge-requires-clause-in_range g c = c.requires.in_range

pub child-requires-clause-branch : goal.child-requires-clause-branch
child-requires-clause-branch g c = c.requires.branch

pub child-requires-clause-in_range : goal.child-requires-clause-in_range
child-requires-clause-in_range g c = c.requires.in_range

pub returns-then-not-standing-clause-edge : goal.returns-then-not-standing-clause-edge
returns-then-not-standing-clause-edge g c = c.is_child_at_edge.ensures

pub returns-then-not-standing-clause-may : goal.returns-then-not-standing-clause-may
returns-then-not-standing-clause-may g c = λ may. may

pub returns-then-not-standing-clause-taken : goal.returns-then-not-standing-clause-taken
returns-then-not-standing-clause-taken g c = λ child some. no_true _ some

pub returns-then-not-standing-clause-empty : goal.returns-then-not-standing-clause-empty
returns-then-not-standing-clause-empty g c = tt

pub returns-clause-edge : goal.returns-clause-edge
returns-clause-edge g c = c.is_child_at_edge.ensures

pub returns-clause-may : goal.returns-clause-may
returns-clause-may g c = λ may. not_false c.args.standing.may_split c.if-not-standing.false

pub returns-clause-room : goal.returns-clause-room
returns-clause-room g c = λ child some many full. sym c.is_some-may_split.ensures ∙ some

pub returns-clause-empty : goal.returns-clause-empty
returns-clause-empty g c = c.spare-spare.ensures
