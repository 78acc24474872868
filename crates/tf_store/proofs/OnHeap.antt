-- The global heap, and mutable tables and versions on it, may go to other threads.
use Rattle.std.proofs.Crossing.{crosses, frees}
use Rattle.std.specs.contracts.alloc.Global as Heap
use Rattle.std.specs.contracts.impls.GlobalAllocator.TheImpl.{ghosts}
use Rattle.tf_btree.proofs.node.Node.TheLaws.TheKnot as knot
use Rattle.tf_btree.specs.contracts.tree.Tree as Tree
use Rattle.tf_registry.specs.declared.naming.Naming as Naming
use Rattle.tf_query.specs.contracts.version.Version as Version
use Rattle.tf_mutable.specs.contracts.log.Log as Log
use Rattle.tf_store.proofs.Crossing as crossing
use denote.RattleType.{RattleType}
use denote.Param.Send.{IsSend, IsSync, Frees, sendable}

pub heap-send : IsSend Heap.the_row
heap-send = search sendable depth 20

pub heap-sync : IsSync Heap.the_row
heap-sync = search sendable depth 20

pub heap-frees : Frees ghosts ghosts.dealloc_token
heap-frees = frees

pub tree-send : (K V : RattleType) (o : _) (p : _) (q : _) → IsSend K → IsSend V → IsSend (Tree.the_row K V Heap.the_row o p q ghosts)
tree-send K V o p q K-send V-send = search (crosses, knot.crosses, sendable) depth 60 fits 20000

pub log-send : (V : RattleType) → IsSend V → IsSend (Log.the_row V Heap.the_row ghosts)
log-send V V-send = search (crosses, sendable) depth 60 fits 20000

module _ (N : RattleType) (n : Naming.Ghosts N.Denot) (N-send : IsSend N) (N-sync : IsSync N) where
  pub version-send : IsSend (Version.the_row Heap.the_row N ghosts n)
  version-send = crossing.version-send Heap.the_row ghosts heap-send heap-sync heap-frees N n N-send N-sync

  pub version-sync : IsSync (Version.the_row Heap.the_row N ghosts n)
  version-sync = crossing.version-sync Heap.the_row ghosts heap-send heap-sync heap-frees N n N-send N-sync
