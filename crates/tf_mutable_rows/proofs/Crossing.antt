-- A hash table on the global heap may go to other threads.
use Rattle.std.proofs.Crossing.{crosses}
use Rattle.std.proofs.MapsCrossing as maps
use Rattle.std.specs.contracts.alloc.Global as Heap
use Rattle.std.specs.contracts.impls.GlobalAllocator.TheImpl.{ghosts}
use Rattle.tf_mutable_rows.specs.contracts.hashed.Hashed as Hashed
use denote.RattleType.{RattleType}
use denote.Param.Send.{IsSend, sendable}

pub hashed-send : (V : RattleType) → IsSend V → IsSend (Hashed.the_row V Heap.the_row ghosts)
hashed-send V V-send = search (crosses, maps.crosses, sendable) depth 60 fits 20000
