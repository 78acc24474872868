use Rattle.tf_manifest.proofs.Spelled.{rows_have}
use Rattle.tf_manifest.proofs.laws.rows_are_maps.Goals as goal

pub returns : goal.returns
returns c = rows_have c.ids_are_unique.ensures
