use Rattle.tf_manifest.specs.View.{no_tables}
use Rattle.tf_manifest.proofs.Halves.{sound, starts}
use Rattle.tf_manifest.proofs.manifest.Manifest.new.Goals as goal

pub invariant_of-result : goal.invariant_of-result
invariant_of-result g c =
    sound (no_tables c.args.registries.now.limit) c.in-Some.records c.in-Some.states _ c.new_records-records.result c.new_states-states.result
    c.in-Some.ensures c.new_records-records.ensures c.new_states-states.ensures c.new.ensures (starts c.args.registries.now.limit)
