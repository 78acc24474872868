use Rattle.tf_journal.proofs.Kept.{cut_sound}
use Rattle.tf_journal.proofs.plain.PlainLedgerLedger.undo.Goals as goal

pub invariant_of-self-clause-sound : goal.invariant_of-self-clause-sound
invariant_of-self-clause-sound g c =
    cut_sound c.args.self.now.entries.items _ c.args.to.length c.args.self.now.sound c.truncate.ensures.items
