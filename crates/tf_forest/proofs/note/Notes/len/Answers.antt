use Rattle.std.proofs.Common.{List, length, ap, arith}
use Rattle.tf_forest.specs.Forest.{Noted}
use Rattle.tf_forest.proofs.Noting.{noted_count}
use Rattle.tf_forest.proofs.note.Notes.len.Goals as goal

pub returns : goal.returns
returns g c =
    let own = c.self.inside.notes.ok.0 in
    let as_many = noted_count c.self.inside.notes.items c.self.inside.steps in
    let seen = ap (λ (notes : List Noted). length notes) c.self.view_is in
    omega (arith, c.len.ensures, own, as_many, seen)
