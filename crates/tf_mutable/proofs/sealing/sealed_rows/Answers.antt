use Rattle.std.proofs.Common.{◌≡◌, ◌++◌, List, Option, ap, sym, ◌∙◌, subst}
use Rattle.std.proofs.lemmas.List.{append-nil}
use Rattle.tf_sorted.specs.Rows.{IsRising}
use Rattle.tf_table.specs.declared.key.Key.{Key}
use Rattle.tf_table.specs.Key.{key_cmp}
use Rattle.tf_table.proofs.Keys.{rows_from-least}
use Rattle.tf_mutable.proofs.sealing.sealed_rows.Goals as goal

pub loop-key-init : goal.loop-key-init
loop-key-init g c =
    let rows = c.into_iter-key-iterator.result in
    let start : rows ≡ c.args.tree.now = c.into_iter-key-iterator.ensures.into_iter_gives ∙ c.seek-key-items.ensures ∙ rows_from-least c.args.tree.now in
    record {
      rows = ap (λ (none : List (Key × Option g.row.V.Denot)). none ++ rows) c.in_ok-draft.ensures.none ∙ start;
      room = c.in_ok-draft.ensures.room ∙ c.len.ensures.value;
    }

pub seal-requires : goal.seal-requires
seal-requires g c =
    let rows = c.loop-key.draft.rows in
    let all : rows ≡ c.args.tree.now = sym (append-nil rows) ∙ ap (λ (left : List (Key × Option g.row.V.Denot)). rows ++ left) (sym c.in-None.ensures.steps.0) ∙ c.loop-key.invariant.rows in
    record { rising = subst (λ (xs : List (Key × Option g.row.V.Denot)). IsRising key_cmp xs) (sym all) c.len.ensures.rising }
