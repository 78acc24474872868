use Rattle.std.proofs.Common.{sym, subst}
use Rattle.tf_mutable_rows.specs.Indexes.{IsTimeline}
use Rattle.tf_mutable_rows.proofs.Indexes.{absent_inside, is_put_among, timeline_put}
use Rattle.tf_mutable_rows.proofs.transfers.Transfers.put.Goals as goal

pub put-requires : goal.put-requires
put-requires g c = absent_inside c.self.inside.objects c.args.self.now c.self.view_is c.self.invariant c.time_key.result c.args.transfer.now.timestamp c.time_key.ensures c.requires

pub returns-clause-put : goal.returns-clause-put
returns-clause-put g c =
    is_put_among c.self.inside.objects c.args.self.now c.self.view_is c.self.invariant c.args.transfer.now c.time_key.result _ c.time_key.ensures c.requires c.in_ok-put.ensures.rows

pub invariant_of-self : goal.invariant_of-self
invariant_of-self g c = subst IsTimeline (sym c.in_err-put.ensures.err) c.self.invariant

pub invariant_of-self-2 : goal.invariant_of-self-2
invariant_of-self-2 g c = timeline_put c.time_key.result c.args.transfer.now.timestamp _ c.self.inside.objects _ c.self.invariant c.time_key.ensures c.in_ok-put.ensures.rows
