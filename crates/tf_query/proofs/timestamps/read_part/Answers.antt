use Rattle.std.proofs.Common.{refl, length}
use Rattle.tf_query.proofs.Reading.{part-read}
use Rattle.tf_query.proofs.timestamps.read_part.Goals as goal

pub returns-clause-part : goal.returns-clause-part
returns-clause-part g c =
    part-read _ _ _ (length c.args.part.now) c.min-asked.result c.take_into-taken.result _ c.args.part.now _ _ _ _ c.requires refl c.min-asked.ensures c.take_into-taken.ensures.count c.take_into-taken.ensures.moved refl c.take_into-taken.ensures.others c.count_within.ensures.few c.count_within.ensures.inside c.count_within.ensures.outside
