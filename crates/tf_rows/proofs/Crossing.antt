-- What is held beside rows may go to other threads, over any allocator that may and whose blocks any thread may give back.
use Rattle.std.proofs.Crossing.{crosses}
use Rattle.std.proofs.CrossingOver as over
use Rattle.std.proofs.MapsCrossingOver as maps
use Rattle.std.specs.declared.alloc.Allocator as Allocator
use Rattle.tf_btree.proofs.node.Node.TheLaws.TheKnot as knot
use Rattle.tf_rows.specs.contracts.due_set.DueSet as DueSet
use Rattle.tf_rows.specs.contracts.resident.Resident as Resident
use denote.RattleType.{RattleType}
use denote.Param.Send.{IsSend, IsSync, Frees, sendable}

module _ (A : RattleType) (a : Allocator.Ghosts A.Denot) (A-send : IsSend A) (A-sync : IsSync A) (frees : Frees a a.dealloc_token) where
  pub due-send : IsSend (DueSet.the_row A a)
  due-send = search (crosses, over.crosses, knot.crosses, sendable) depth 60 fits 20000

  pub resident-send : IsSend (Resident.the_row A a)
  resident-send = search (crosses, over.crosses, maps.crosses, sendable) depth 60 fits 20000
