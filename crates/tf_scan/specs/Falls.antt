-- What a join is made of is lower than the join.
use Rattle.std.specs.Prelude.{◌≤◌, max}
use Rattle.std.proofs.Common.{arith}
use Rattle.std.specs.declared.alloc.Allocator as allocator
use Rattle.tf_scan.specs.declared.leaf.Leaf as leaf
use Rattle.tf_scan.specs.declared.node.Kind.{Kind}
use Rattle.tf_scan.specs.declared.node.Kind.TheVariants.{Leaf, Join}
use Rattle.tf_scan.specs.declared.node.Node.TheDeep.{deep-Kind}
use Rattle.tf_scan.specs.Node.{height_of}

-- a part is as high as what it is made of at most
pub deep_le-height : {P A : Type 0} (g : leaf.Ghosts P) (h : allocator.Ghosts A) (k : Kind P A) → max (deep-Kind P A g h k) 0 ≤ height_of k
deep_le-height g h (Leaf p) = omega arith
deep_le-height g h (Join o a b) = omega arith
