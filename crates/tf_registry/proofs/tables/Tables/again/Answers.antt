use borrow.Author.Count.{falls}
use Rattle.std.proofs.Common.{◌+◌, ◌<◌, List, [], ◌∷◌, ◌++◌, length, take, length-append, sym, ap, subst, ◌∙◌, arith}
use Rattle.std.proofs.lemmas.List.{take_more, take_all}
use Rattle.tf_registry.specs.Row.{IsRow}
use Rattle.tf_registry.specs.Table.{Shown}
use Rattle.tf_registry.proofs.tables.Tables.again.Goals as goal

pub loop-at-init : goal.loop-at-init
loop-at-init g c =
    (c.in_ok-references.ensures.items, ap (λ (ts : List (Shown g.row.V.Denot)). length ts) c.in_ok-references.ensures.items, omega (arith, c.in_ok-references.ensures.exact))

pub index-requires : goal.index-requires
index-requires g c = omega (arith, c.loop-at-test.true, c.len-at-end.ensures)

pub push_reserved-requires : goal.push_reserved-requires
push_reserved-requires g c =
    omega (arith, c.loop-at.references.ok.0, c.loop-at.invariant.1, c.loop-at.invariant.2, c.loop-at-test.true, c.len-at-end.ensures, c.self.inside.references.ok.0, c.self.invariant.1)

pub loop-at-smaller : goal.loop-at-smaller
loop-at-smaller g c = falls c.len-at-end.result c.loop-at.at c.loop-at-test.true

pub loop-at-preserved : goal.loop-at-preserved
loop-at-preserved g c =
    let within : c.loop-at.at < length c.self.inside.references.items = omega (arith, c.loop-at-test.true, c.len-at-end.ensures, c.self.inside.references.ok.0) in (
      c.push_reserved.ensures.items
          ∙ ap (λ (ts : List (Shown g.row.V.Denot)). ts ++ c.in_ok-again.field-0 ∷ []) c.loop-at.invariant.0
          ∙ ap (λ (t : Shown g.row.V.Denot). take c.loop-at.at c.self.inside.references.items ++ t ∷ []) (c.in_ok-again.ensures ∙ c.index.ensures)
          ∙ sym (take_more c.self.inside.references.items c.loop-at.at c.index.result.now within),
      ap (λ (ts : List (Shown g.row.V.Denot)). length ts) c.push_reserved.ensures.items
          ∙ length-append c.loop-at.references.items (c.in_ok-again.field-0 ∷ [])
          ∙ ap (λ n. n + 1) c.loop-at.invariant.1,
      omega (arith, c.push_reserved.ensures.capacity, c.loop-at.invariant.2),
    )

pub invariant_of-result : goal.invariant_of-result
invariant_of-result g c = (
  subst (λ (ts : List (Shown g.row.V.Denot)). IsRow ts)
      (sym (c.loop-at.invariant.0 ∙ take_all c.loop-at.at c.self.inside.references.items (omega (arith, c.loop-at-test.false, c.len-at-end.ensures, c.self.inside.references.ok.0))))
      c.self.invariant.0,
  omega (arith, c.loop-at.invariant.1, c.loop-at.auto.at-end, c.len-at-end.ensures, c.self.inside.references.ok.0, c.self.invariant.1),
  c.loop-at.invariant.2,
)

pub returns-clause-copy : goal.returns-clause-copy
returns-clause-copy g c =
    c.loop-at.invariant.0 ∙ take_all c.loop-at.at c.self.inside.references.items (omega (arith, c.loop-at-test.false, c.len-at-end.ensures, c.self.inside.references.ok.0)) ∙ c.self.view_is
