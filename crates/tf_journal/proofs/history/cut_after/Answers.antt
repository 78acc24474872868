use Rattle.std.proofs.Common.{nat_le, rules}
use Rattle.std.proofs.Math.Logic.{∥∥₁_map}
use Rattle.std.proofs.lemmas.List.Sorted.{IsPartitionPoint-from_clause}
use Rattle.tf_journal.specs.Journal.{timestamp_of}
use Rattle.tf_journal.proofs.Cut.{sound_parted}
use Rattle.tf_journal.proofs.Answered.{cut_where}
use Rattle.tf_journal.proofs.Sound.{sound_take}
use Rattle.tf_journal.proofs.history.cut_after.Goals as goal

pub returns-clause-cut : goal.returns-clause-cut
returns-clause-cut c =
    let journal = c.args.entries.now in
    let point = IsPartitionPoint-from_clause (λ e. nat_le (timestamp_of e) c.args.timestamp) journal c.partition_point-count.result
    c.partition_point-count.ensures.partitioned (sound_parted journal c.args.timestamp c.requires) (λ a r q k. search rules) in
    cut_where (λ e. nat_le (timestamp_of e) c.args.timestamp) journal c.partition_point-count.result point.0 point.1 c.partition_point-count.ensures.bound

pub returns-clause-sound : goal.returns-clause-sound
returns-clause-sound c = ∥∥₁_map c.requires (sound_take c.partition_point-count.result c.args.entries.now)
