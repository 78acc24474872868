use Rattle.std.proofs.Common.{List, length, ap, arith}
use Rattle.tf_rows.specs.declared.change.Step.{Step}
use Rattle.tf_rows.proofs.Touched.{steps_length}
use Rattle.tf_rows.proofs.steps.Steps.len.Goals as goal

pub returns : goal.returns
returns g c =
    let own = c.self.inside.touched.ok.0 in
    let as_many = steps_length c.self.inside.touched.items c.self.inside.entries.items in
    let seen = ap (λ (steps : List Step). length steps) c.self.view_is in
    omega (arith, c.len.ensures, own, as_many, seen)
