use Rattle.std.proofs.Common.{arith}
use Rattle.tf_mutable_rows.proofs.Indexes.{all_are_put, next_is_new, next_is_put}
use Rattle.tf_mutable_rows.proofs.transfers.index_keys.Goals as goal

pub put-requires : goal.put-requires
put-requires g c =
    next_is_new c.args.field c.args.objects.now c.requires.times c.requires.once c.loop-object.object-index _ c.loop-object-test.true
    c.key.result c.key.ensures c.loop-object.keys c.loop-object.invariant

pub loop-object-preserved : goal.loop-object-preserved
loop-object-preserved g c =
    next_is_put c.args.field c.args.objects.now c.requires.times c.requires.once c.loop-object.object-index _ c.loop-object-test.true
    c.key.result c.key.ensures c.loop-object.keys c.loop-object.invariant c.put.new.self c.in_ok-put.ensures.rows

pub returns-clause-keys : goal.returns-clause-keys
returns-clause-keys g c = all_are_put c.args.field c.args.objects.now c.requires.times c.requires.once c.loop-object.object-index (omega arith) c.loop-object.keys c.loop-object.invariant
