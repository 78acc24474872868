use Rattle.std.proofs.Crossing.{crosses}
use denote.Param.Send.{sendable}
use Rattle.tf_mutable_rows.proofs.Crossing.{hashed-send}
use Rattle.tf_store.proofs.OnHeap.{tree-send, log-send}
use Rattle.tf_storm.proofs.bring_up.with_name.Goals as goal

pub with_rows-requires-send-T : goal.with_rows-requires-send-T
with_rows-requires-send-T g c κs within = search (tree-send, log-send, hashed-send, crosses, sendable) depth 60 fits 20000
