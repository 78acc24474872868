use Rattle.tf_compaction.proofs.compacting.merge_next.Goals as goal

pub merge-outcome-requires : goal.merge-outcome-requires
merge-outcome-requires g c = rw c.in-Ok.ensures.job at c.pick.ensures.some
