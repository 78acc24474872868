use Rattle.std.proofs.Common.{◌≡◌, ◌+◌, List, [], ◌∷◌, ◌++◌, Option, take, ap, sym, ◌∙◌, subst, arith}
use Rattle.std.specs.Ordering.{is_gt}
use Rattle.std.proofs.lemmas.List.{take_more, take_all}
use Rattle.tf_table.specs.declared.key.Key.{Key}
use Rattle.tf_table.specs.Content.{entry_at}
use Rattle.tf_table.specs.First.{IsFirstAbove}
use Rattle.tf_table.proofs.First.{first_with_above, first_with_other}
use Rattle.tf_mutable.proofs.log.first_by_walk.Goals as goal
use Rattle.tf_mutable.proofs.log.first_by_walk.Goals.{then-is_gt, else-is_gt}

pub loop-row-preserved : goal.loop-row-preserved
loop-row-preserved g c =
    let rows = c.args.rows.now in
    let key = c.args.key.now in
    let i = c.loop-row.row-index in
    let r = c.row-item.result in
    let more : take i rows ++ r ∷ [] ≡ take (i + 1) rows = sym (take_more rows i r (omega arith) ∙ ap (λ s. take i rows ++ s ∷ []) (sym c.row-item.is)) in
    let with_first = λ (rs : List (Key × Option g.row.V.Denot)) (f : Option Key). IsFirstAbove key (λ found. entry_at found rs) f in
    subst (λ (rs : List (Key × Option g.row.V.Denot)). with_first rs c.if-is_gt.first) more
    (elim c.if-is_gt.branch [
      | then-is_gt w ↦ subst (with_first (take i rows ++ r ∷ [])) (sym (w.first-is ∙ w.lesser-first.ensures)) (first_with_above key (take i rows) r c.loop-row.first (sym (ap is_gt c.cmp.ensures) ∙ sym c.is_gt.ensures ∙ w.if-is_gt.true) c.loop-row.invariant)
      | else-is_gt w ↦ subst (with_first (take i rows ++ r ∷ [])) (sym w.first-is) (first_with_other key (take i rows) r c.loop-row.first (sym (ap is_gt c.cmp.ensures) ∙ sym c.is_gt.ensures ∙ w.if-is_gt.false) c.loop-row.invariant)
    ])

pub returns : goal.returns
returns g c =
    let rows = c.args.rows.now in
    subst (λ (rs : List (Key × Option g.row.V.Denot)). IsFirstAbove c.args.key.now (λ found. entry_at found rs) c.loop-row.first) (take_all c.loop-row.row-index rows (omega arith)) c.loop-row.invariant
