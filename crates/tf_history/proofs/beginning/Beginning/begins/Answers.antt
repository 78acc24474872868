use Rattle.std.proofs.Common.{◌≡◌, ◌≤◌, ap, arith, length, take}
use Rattle.std.proofs.lemmas.List.{length-take-le}
use Rattle.tf_history.proofs.Publications.{first_begin}
use Rattle.tf_history.proofs.beginning.Beginning.begins.Goals as goal

pub returns : goal.returns
returns g c =
    let count = c.self.inside.count in
    let front = c.self.inside.front in
    let same : length (take count front) ≡ count = length-take-le count front c.self.invariant in
    let there : length (take count front) ≤ length c.args.front.now = rw c.self.view_is c.requires in
    rw (← c.self.view_is) (first_begin count front c.args.front.now c.compare.ensures c.self.invariant (omega (arith, same, there)))
