use Rattle.std.proofs.Common.{◌≡◌, ◌+◌, set, get_or, cond, arith, sym, ap, ◌∙◌}
use Rattle.tf_table.specs.Key.{key_cmp}
use Rattle.tf_table.proofs.Walks.{passed_more}
use Rattle.tf_table.proofs.merging.pass.Goals as goal
use Rattle.tf_table.proofs.merging.pass.Goals.{then-is_next, else-is_next}

pub loop-i-preserved : goal.loop-i-preserved
loop-i-preserved g c =
    let places = c.loop-i.places in
    let i = c.loop-i.i in
    let moved : c.if-is_next.places ≡ cond c.is_next.result (set places i (get_or places i 0 + 1)) places = elim c.if-is_next.branch [
      | then-is_next w ↦ w.places-is ∙ sym (ap (λ b. cond b (set places i (get_or places i 0 + 1)) places) w.if-is_next.true)
      | else-is_next w ↦ w.places-is ∙ sym (ap (λ b. cond b (set places i (get_or places i 0 + 1)) places) w.if-is_next.false)
    ] in
    passed_more key_cmp c.args.key.now c.args.tables.now places c.if-is_next.places i c.index-tables-i.result c.is_next.result (omega arith) (omega arith) c.index-tables-i.is c.is_next.ensures.value moved ∙ c.loop-i.invariant
