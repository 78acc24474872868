use borrow.Author.Count.{falls}
use Rattle.std.proofs.Common.{◌+◌, ◌∙◌, ap, length, replicate, List, [], ◌∷◌, ◌++◌, length-append}
use Rattle.std.proofs.Math.Nat.{le_antisymm}
use Rattle.std.proofs.lemmas.List.{replicate_more}
use Rattle.tf_registry.specs.Table.{Shown}
use Rattle.tf_manifest.proofs.kind_rows.KindRows.new.Goals as goal

pub loop-row-init : goal.loop-row-init
loop-row-init g c = (c.in_ok-list.ensures.items, ap length c.in_ok-list.ensures.items)

pub loop-row-smaller : goal.loop-row-smaller
loop-row-smaller g c = falls c.args.count c.loop-row._row c.loop-row-test.true

pub loop-row-preserved : goal.loop-row-preserved
loop-row-preserved g c = (
  c.in_ok-push.ensures.items
      ∙ ap (λ (rows : List (List (Shown g.row.V.Denot))). rows ++ (c.in_ok-new.field-0 ∷ [])) c.loop-row.invariant.0
      ∙ ap (λ (row : List (Shown g.row.V.Denot)). replicate c.loop-row._row [] ++ (row ∷ [])) c.in_ok-new.ensures.none
      ∙ replicate_more c.loop-row._row [],
  ap length c.in_ok-push.ensures.items ∙ length-append c.loop-row.list.items (c.in_ok-new.field-0 ∷ []) ∙ ap (λ n. n + 1) c.loop-row.invariant.1,
)

pub returns-clause-none : goal.returns-clause-none
returns-clause-none g c = c.loop-row.invariant.0 ∙ ap (λ n. replicate n []) (le_antisymm c.loop-row.auto._row-end c.loop-row-test.false)
