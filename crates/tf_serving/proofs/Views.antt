-- What a run of commands reads of a forest.
use Rattle.std.proofs.Common.{ℕ, List}
use Rattle.tf_journal.specs.declared.entry.Entry.{Entry}
use Rattle.tf_forest.specs.Forest.{View}

abbrev pub journal_of : View → List Entry
journal_of forest = forest.journal

abbrev pub clock_of : View → ℕ
clock_of forest = forest.clock

abbrev pub kept_of : View → ℕ
kept_of forest = forest.kept

abbrev pub publishes_of : View → ℕ
publishes_of forest = forest.sealed.counts.publishes
