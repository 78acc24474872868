use Rattle.std.proofs.Common.{ap, subst}
use mathlib.Core.List.{IsPrefix}
use Rattle.tf_history.specs.Beginning.{AreOfOne}
use Rattle.tf_history.proofs.Publications.{journals_of_one}
use Rattle.tf_history.proofs.front.Front.compare.Goals as goal

pub returns : goal.returns
returns g c =
    let log = c.self.inside.seen.log in
    let all = c.learn.new.self.log in
    let here : IsPrefix log all = subst (λ l. IsPrefix l all) (ap (λ s. s.log) c.again-both.ensures) c.learn.ensures.2 in
    rw (← c.self.view_is, ← c.other.view_is) (journals_of_one log c.other.inside.seen.log all here c.learn.ensures.3)
