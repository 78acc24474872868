use Rattle.std.proofs.Common.{◌∙◌, ◌++◌, ◌∷◌, ◌<◌, [], length, ap, sym, subst, arith}
use Rattle.tf_store.specs.Queue.{QueueView}
use Rattle.tf_store.proofs.queue.Queue.push.Goals as goal

pub invariant_of-self : goal.invariant_of-self
invariant_of-self g c =
    let room = subst (λ (v : QueueView). length v.waiting < v.room) (sym c.self.view_is) c.requires in
    (c.self.invariant.0, c.self.invariant.1, omega (arith, room, c.in-Ok.ensures.len, c.self.inside.waiting.ok.0))

pub unreachable-requires : goal.unreachable-requires
unreachable-requires g c =
    let room = subst (λ (v : QueueView). length v.waiting < v.room) (sym c.self.view_is) c.requires in
    let bad = c.in-Err.ensures.succeeds (omega (arith, room, c.self.inside.waiting.ok.0)) in cc

pub returns : goal.returns
returns g c = c.in-Ok.ensures.items ∙ ap (λ (v : QueueView). v.waiting ++ c.args.batch ∷ []) c.self.view_is
