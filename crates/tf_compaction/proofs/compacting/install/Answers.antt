use Rattle.tf_compaction.proofs.Merging.{answered_as, install_answered, install_pushed, never_stale, others_left_by}
use Rattle.tf_compaction.proofs.compacting.install.Goals as goal

pub installed-requires : goal.installed-requires
installed-requires g c = never_stale c.install.result _ c.install.ensures.stale c.requires

pub returns-clause-compacted : goal.returns-clause-compacted
returns-clause-compacted g c =
    install_answered c.args.store.now c.install.new.self c.args.merged c.install.result c.installed.result _ c.installed.ensures.same
    c.install.ensures.journal c.install.ensures.clock_kept c.install.ensures.installs c.install.ensures.counts c.install.ensures.err c.install.ensures.full
    c.installed.ensures.refusal

pub returns-clause-pushed : goal.returns-clause-pushed
returns-clause-pushed g c =
    install_pushed c.args.store.now.forest.sealed.tables c.install.new.self.forest.sealed.tables c.args.merged c.install.result c.installed.result
    c.installed.ensures.same c.install.ensures.installs

pub returns-clause-room : goal.returns-clause-room
returns-clause-room g c = answered_as c.installed.result c.install.result _ c.installed.ensures.same c.install.ensures.room

pub returns-clause-others : goal.returns-clause-others
returns-clause-others g c = others_left_by c.args.store.now c.install.new.self c.args.merged c.install.result c.install.ensures.installs c.install.ensures.err

pub returns-clause-rest : goal.returns-clause-rest
returns-clause-rest g c = record {
  receipts = c.install.ensures.waiting;
  readable = c.install.ensures.readable;
  fresh = c.install.ensures.entries.0;
  waiting = c.install.ensures.entries.1;
  kept = c.install.ensures.length_kept;
}
