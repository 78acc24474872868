use Rattle.std.proofs.Common.{◌≡◌, ◌∷◌, map, true, false, sym, ◌∙◌, subst, inl, inr, arith}
use Rattle.std.specs.List.{All}
use Rattle.std.proofs.lemmas.List.{take_all}
use Rattle.std.proofs.lemmas.List.Elements.{All-more}
use Rattle.tf_table.specs.GrowingFilter.{HasPut, Knows}
use Rattle.tf_table.proofs.Growing.{known_at, known_nowhere}
use Rattle.tf_table.proofs.growing_filter.GrowingFilter.knows.Goals as goal

pub returns-then-has_put-2-clause-only : goal.returns-then-has_put-2-clause-only
returns-then-has_put-2-clause-only g c = λ known.
    let parts = c.deref-words-items.result.now in
    let here = subst (λ part. HasPut part.items c.args.value) c.words-item.is (c.has_put-in-loop-words.ensures.only c.if-has_put-2.true) in
    let there : Knows (map (λ part. part.items) parts) c.args.value = known_at (λ part. part.items) c.args.value parts c.loop-words.words-index c.words-item.result (omega arith) here in
    subst (λ all. Knows all c.args.value) c.self.view_is
    (inr (subst (λ older. Knows (map (λ part. part.items) older) c.args.value) c.deref-words-items.ensures.value there))

apart : true ≡ false → ⊥
apart e = cc

pub loop-words-preserved : goal.loop-words-preserved
loop-words-preserved g c =
    All-more (λ part. HasPut part.items c.args.value → ⊥) c.deref-words-items.result.now c.loop-words.words-index c.words-item.result (omega arith) c.loop-words.invariant
    (λ has. apart (sym (c.has_put-in-loop-words.ensures.has (subst (λ part. HasPut part.items c.args.value) (sym c.words-item.is) has)) ∙ c.if-has_put-2.false))

pub returns-clause-has : goal.returns-clause-has
returns-clause-has g c = λ known. absurd (
    let parts = c.deref-words-items.result.now in
    let none = subst (All (λ part. HasPut part.items c.args.value → ⊥)) (take_all c.loop-words.words-index parts (omega arith)) c.loop-words.invariant in
    let all : Knows (c.self.inside.newest.items ∷ map (λ part. part.items) c.self.inside.older.items) c.args.value = subst (λ parts. Knows parts c.args.value) (sym c.self.view_is) known in
    elim all [
      | inl newest ↦ apart (sym (c.has_put.ensures.has newest) ∙ c.if-has_put.false)
      | inr older ↦ known_nowhere (λ part. part.items) c.args.value parts none (subst (λ older. Knows (map (λ part. part.items) older) c.args.value) (sym c.deref-words-items.ensures.value) older)
    ])
