-- Each child of a node is lower than the node.
use Rattle.std.specs.Prelude.{◌≤◌}
use Rattle.std.proofs.Common.{arith}
use Rattle.std.specs.declared.alloc.Allocator.{Ghosts}
use Rattle.tf_btree.specs.Node.{IsOfKind, unboxed, height_of, most_le-height}
use Rattle.tf_btree.specs.declared.node.Node.TheInside.{Inside}
use Rattle.tf_btree.specs.declared.node.Node.TheDeep.{deep-Node}

-- the children of a node are below its height
pub depth_le-height : {K V A : Type 0} (g : Ghosts A) (a : Inside K V A) → IsOfKind a.is_branch a.keys.items a.values.items (unboxed a.children.items) → deep-Node K V A g a ≤ height_of a.is_branch (unboxed a.children.items)
depth_le-height g a h = most_le-height _ (λ b. omega arith) a.is_branch a.keys.items a.values.items a.children.items h
