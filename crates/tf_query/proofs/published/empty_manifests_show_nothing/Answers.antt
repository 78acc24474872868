use Rattle.tf_query.proofs.Empty.{nothing_shown}
use Rattle.tf_query.proofs.published.empty_manifests_show_nothing.Goals as goal

pub returns : goal.returns
returns c = λ limit row key. nothing_shown limit row key
