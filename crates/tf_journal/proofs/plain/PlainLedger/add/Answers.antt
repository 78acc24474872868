use Rattle.std.proofs.Common.{is_ok}
use Rattle.tf_journal.proofs.Kept.{pushed_sound}
use Rattle.tf_journal.proofs.plain.PlainLedger.add.Goals as goal

pub invariant_of-self-clause-sound : goal.invariant_of-self-clause-sound
invariant_of-self-clause-sound g c =
    pushed_sound c.args.self.now.entries.items _ c.args.entry (is_ok c.push.result) c.args.self.now.sound c.requires c.push.ensures.items
