use Rattle.std.proofs.Common.{length, arith, ap}
use Rattle.tf_table.proofs.LaidOut.{length-rows_of}
use Rattle.tf_table.proofs.sealed.Sealed.len.Goals as goal

pub returns-clause-value : goal.returns-clause-value
returns-clause-value g c =
    let rows = length-rows_of c.self.inside.keys.items c.self.inside.entries c.self.invariant.laid.paired in
    let seen = ap length c.self.view_is in
    omega (arith, rows, seen, c.len.ensures)
