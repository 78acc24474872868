use Rattle.std.proofs.Common.{◌∙◌, ap}
use Rattle.tf_manifest.specs.Rows.{key_of}
use Rattle.tf_mutable_rows.proofs.Indexes.{is_taken_from, there_inside, timeline_taken}
use Rattle.tf_mutable_rows.proofs.transfers.Transfers.take.Goals as goal

pub take_back-requires : goal.take_back-requires
take_back-requires g c = there_inside c.self.inside.objects c.args.self.now c.self.view_is c.self.invariant c.args.transfer.now c.time_key.result (c.time_key.ensures ∙ ap (key_of 0) c.timestamp.ensures) c.requires

pub returns : goal.returns
returns g c =
    is_taken_from c.self.inside.objects c.args.self.now c.self.view_is c.self.invariant c.args.transfer.now c.time_key.result _ (c.time_key.ensures ∙ ap (key_of 0) c.timestamp.ensures) c.requires c.take_back.ensures.rows

pub invariant_of-self : goal.invariant_of-self
invariant_of-self g c = timeline_taken c.time_key.result c.args.transfer.now.timestamp c.self.inside.objects _ c.self.invariant (c.time_key.ensures ∙ ap (key_of 0) c.timestamp.ensures) c.take_back.ensures.rows
