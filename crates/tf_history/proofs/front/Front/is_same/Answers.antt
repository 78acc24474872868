use Rattle.std.proofs.Common.{ap, subst, sym, ◌∙◌, ◌≡◌, length}
use Rattle.std.proofs.lemmas.Bool.Decides.{nat_tests}
use Rattle.std.proofs.Common.{arith}
use mathlib.Core.List.{IsPrefix}
use Rattle.tf_history.proofs.Publications.{as_many_are_same}
use Rattle.tf_history.proofs.front.Front.is_same.Goals as goal

pub returns : goal.returns
returns g c = λ same.
    let log = c.self.inside.seen.log in
    let other = c.other.inside.seen.log in
    let all = c.learn.new.self.log in
    let here : IsPrefix log all = subst (λ l. IsPrefix l all) (ap (λ s. s.log) c.again-both.ensures) c.learn.ensures.2 in
    let as_many : c.self.inside.publications ≡ c.other.inside.publications = grind (arith, nat_tests) in
    let len : length log ≡ length other = sym c.self.invariant.0 ∙ (as_many ∙ c.other.invariant.0) in
    rw (← c.self.view_is, ← c.other.view_is) (as_many_are_same log other all here c.learn.ensures.3 len)
