use Rattle.std.proofs.Common.{refl}
use Rattle.tf_compaction.proofs.Merging.{others_kept_by, picked_stands}
use Rattle.tf_compaction.proofs.compacting.merge.Goals as goal

pub install-requires : goal.install-requires
install-requires g c = picked_stands _ c.args.row c.args.job.now c.in-Ok.merged c.requires c.in-Ok.ensures.job

pub returns-in-Ok-clause-others : goal.returns-in-Ok-clause-others
returns-in-Ok-clause-others g c =
    others_kept_by {A = g.row.A.Denot} {N = g.row.S.Denot} c.args.row c.args.job.now c.in-Ok.merged c.args.store.now.forest.sealed.tables c.install.new.store.forest.sealed.tables c.requires c.in-Ok.ensures.job c.install.ensures.others
