use Rattle.std.proofs.Crossing.{crosses}
use Rattle.std.proofs.CrossingOver as over
use denote.Param.Send.{sendable}
use Rattle.tf_forest.proofs.Crossing.{forest-send}
use Rattle.tf_store.proofs.Crossing.{rows-send, store-send}
use Rattle.tf_store.proofs.OnHeap.{heap-send, heap-sync, heap-frees}
use Rattle.tf_workers.proofs.work.Work.TheSendSync as work
use Rattle.tf_workers.proofs.by_lock.run_locked.Goals as goal

pub run_asking-requires-sync-D : goal.run_asking-requires-sync-D
run_asking-requires-sync-D g c κs within =
    let T-send = c.type_bounds.send-T in
    let C-send = c.type_bounds.send-C in
    let S-send = c.type_bounds.send-S in
    let S-sync = c.type_bounds.sync-S in
    let R-sync = c.type_bounds.sync-R in
    let A-send = heap-send in
    let A-sync = heap-sync in
    let A-frees = heap-frees in
    search (store-send, forest-send, rows-send, work.the_sync, crosses, over.crosses, sendable) depth 60 fits 20000
