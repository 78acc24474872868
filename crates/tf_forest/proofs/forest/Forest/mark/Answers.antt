use Rattle.std.proofs.Common.{arith, rules}
use Rattle.tf_forest.proofs.Notes.{noted_length}
use Rattle.tf_forest.proofs.forest.Forest.mark.Goals as goal

pub overflow_add-result : goal.overflow_add-result
overflow_add-result g c =
    let bound = noted_length g.S.RowSet.has_row g.S.RowSet.fits g.S.RowSet.takes_any _ c.self.inside.notes c.self.inside.kept c.self.inside.clock c.len.result c.self.inside.floors c.self.inside.due c.self.inside.resident c.self.inside.used c.self.invariant (search rules) in
    omega (arith, bound)
