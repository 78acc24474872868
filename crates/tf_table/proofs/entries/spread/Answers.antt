use borrow.Author.Count.{falls}
use Rattle.std.proofs.Common.{ℕ, ◌∷◌, [], ◌++◌, List, Option, length, replicate, ap, ◌∙◌, arith}
use Rattle.std.proofs.Math.Nat.{le_antisymm}
use Rattle.std.proofs.lemmas.List.{length-replicate, replicate_more}
use Rattle.tf_table.proofs.entries.spread.Goals as goal

pub loop-row-init : goal.loop-row-init
loop-row-init g c = record { items = c.in_ok-entries.ensures.items; room = c.in_ok-entries.ensures.exact }

pub loop-row-smaller : goal.loop-row-smaller
loop-row-smaller g c = falls c.args.rows c.loop-row._row c.loop-row-test.true

pub push_reserved-requires : goal.push_reserved-requires
push_reserved-requires g c =
    let many = ap (λ (es : List (Option g.row.V.Denot)). length es) c.loop-row.invariant.items in
    omega (arith, c.loop-row.entries.ok.0, many, length-replicate c.loop-row._row c.args.same.now, c.loop-row.invariant.room, c.loop-row-test.true, c.requires)

pub loop-row-preserved : goal.loop-row-preserved
loop-row-preserved g c = record {
  items = c.push_reserved.ensures.items
      ∙ ap (λ (es : List (Option g.row.V.Denot)). es ++ c.args.same.now ∷ []) c.loop-row.invariant.items
      ∙ replicate_more c.loop-row._row c.args.same.now;
  room = c.push_reserved.ensures.capacity ∙ c.loop-row.invariant.room;
}

pub push_reserved-requires-2 : goal.push_reserved-requires-2
push_reserved-requires-2 g c =
    let many = ap (λ (es : List (Option g.row.V.Denot)). length es) c.loop-row.invariant.items in
    omega (arith, c.loop-row.entries.ok.0, many, length-replicate c.loop-row._row c.args.same.now, c.loop-row.invariant.room, c.loop-row.auto._row-end, c.requires)

pub returns-clause-items : goal.returns-clause-items
returns-clause-items g c =
    c.push_reserved-2.ensures.items
    ∙ ap (λ (es : List (Option g.row.V.Denot)). es ++ c.args.last.now ∷ []) c.loop-row.invariant.items
    ∙ ap (λ (n : ℕ). replicate n c.args.same.now ++ c.args.last.now ∷ []) (le_antisymm c.loop-row.auto._row-end c.loop-row-test.false)

pub returns-clause-room : goal.returns-clause-room
returns-clause-room g c = c.push_reserved-2.ensures.capacity ∙ c.loop-row.invariant.room
