use Rattle.std.proofs.Common.{refl}
use Rattle.std.proofs.lemmas.Result.{on_err_weaker, on_ok_weaker}
use Rattle.tf_mutable_rows.proofs.Records.{free_among, puts_among, stays_among}
use Rattle.tf_mutable_rows.proofs.mutable_tables.MutableTablesMutableRows.put_transfer.Goals as goal

pub put-requires : goal.put-requires
put-requires g c = free_among _ c.args.self.now c.self.view_is _ _ c.self.invariant _ refl c.args.transfer.now c.requires

pub returns-clause-put : goal.returns-clause-put
returns-clause-put g c = on_ok_weaker c.put.result (puts_among _ c.args.self.now c.self.view_is _ _ c.self.invariant _ refl c.put.new.self _ refl c.args.transfer.now) c.put.ensures.put

pub returns-clause-err : goal.returns-clause-err
returns-clause-err g c = on_err_weaker c.put.result (stays_among _ c.args.self.now c.self.view_is _ _ c.self.invariant _ refl c.put.new.self _ refl) c.put.ensures.err
