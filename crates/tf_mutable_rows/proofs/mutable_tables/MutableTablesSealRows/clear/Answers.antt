use Rattle.tf_mutable_rows.proofs.Fresh.{none_in_any}
use Rattle.tf_mutable_rows.proofs.mutable_tables.MutableTablesSealRows.clear.Goals as goal

pub returns : goal.returns
returns g c = none_in_any c.clear_all.new.indexes c.clear.ensures c.clear-2.ensures c.clear-3.ensures c.clear-4.ensures c.clear-5.ensures c.clear_all.ensures.none c.clear-6.ensures c.clear-7.ensures c.clear-8.ensures c.clear-9.ensures
