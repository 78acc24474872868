use Rattle.std.proofs.Common.{sym, subst}
use Rattle.tf_mutable_rows.specs.Indexes.{AreByTime}
use Rattle.tf_mutable_rows.proofs.Indexes.{order_by_time}
use Rattle.tf_mutable_rows.proofs.transfers.Transfers.seal_keys.Goals as goal

pub seal_by_words-requires-clause-times : goal.seal_by_words-requires-clause-times
seal_by_words-requires-clause-times g c = order_by_time c.rows-objects.result.now (subst AreByTime (sym c.rows-objects.ensures.order) c.self.invariant.times)

pub index_keys-requires-clause-times : goal.index_keys-requires-clause-times
index_keys-requires-clause-times g c = order_by_time c.rows-objects.result.now (subst AreByTime (sym c.rows-objects.ensures.order) c.self.invariant.times)
