use Rattle.std.proofs.Crossing.{crosses}
use denote.Param.Send.{sendable}
use Rattle.tf_store.proofs.OnHeap.{version-send, version-sync}
use Rattle.tf_storm.proofs.bring_up.with_rows.Goals as goal

pub with_versions-requires-send-V : goal.with_versions-requires-send-V
with_versions-requires-send-V g c κs within = search (version-send, crosses, sendable) depth 30 fits 20000

pub with_versions-requires-sync-V : goal.with_versions-requires-sync-V
with_versions-requires-sync-V g c κs within = search (version-sync, crosses, sendable) depth 30 fits 20000
