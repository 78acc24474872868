use Rattle.std.proofs.Crossing.{crosses}
use Rattle.tf_query.proofs.Crossing.{version-sync}
use denote.Param.Send.{sendable}
use Rattle.tf_query_all.proofs.query_all.Goals as goal

pub answer_filters-requires-sync-V : goal.answer_filters-requires-sync-V
answer_filters-requires-sync-V g c κs within = search (version-sync, crosses, sendable) depth 12
