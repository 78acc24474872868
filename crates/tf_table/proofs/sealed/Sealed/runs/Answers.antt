use Rattle.std.proofs.Common.{◌≡◌, List, ◌≤◌, length, Option, arith, ap, subst, ◌∙◌}
use Rattle.tf_table.specs.declared.key.Key.{Key}
use Rattle.tf_sorted.specs.Rows.{IsRising}
use Rattle.tf_table.specs.Key.{key_cmp}
use Rattle.tf_table.specs.Column.{AreRuns}
use Rattle.tf_table.proofs.LaidOut.{length-rows_of}
use Rattle.tf_table.proofs.Spans.{span}
use Rattle.tf_table.proofs.Columns.{has-entries, runs-span, rising-span}
use Rattle.tf_table.proofs.sealed.Sealed.runs.Goals as goal

pub part-requires-clause-within : goal.part-requires-clause-within
part-requires-clause-within g c =
    let t = c.self.inside in
    let rows = length-rows_of t.keys.items t.entries c.self.invariant.laid.paired in
    omega (arith, rows, ap length c.self.view_is, ap length c.deref.ensures.value, c.requires.within)

pub column-requires-clause-within : goal.column-requires-clause-within
column-requires-clause-within g c =
    let t = c.self.inside in
    let rows = length-rows_of t.keys.items t.entries c.self.invariant.laid.paired in
    has-entries t.keys.items t.entries c.args.to c.self.invariant.laid.paired (omega (arith, rows, ap length c.self.view_is, c.requires.within))

pub returns-clause-rows : goal.returns-clause-rows
returns-clause-rows g c =
    let t = c.self.inside in
    let keys = t.keys.items in
    let from = c.args.from in
    let to = c.args.to in
    let rows = length-rows_of keys t.entries c.self.invariant.laid.paired in
    let seen = ap length c.self.view_is in
    let within : to ≤ length keys = omega (arith, rows, seen, c.requires.within) in
    let found : c.part.result.now ≡ span from to keys = c.part.ensures ∙ ap (λ (ks : List Key). span from to ks) c.deref.ensures.value in
    subst (λ (rs : List (Key × Option g.row.V.Denot)). AreRuns c.part.result.now c.column.result (span from to rs)) c.self.view_is
    (runs-span keys t.entries c.self.invariant.laid.paired from to c.requires.ordered within c.part.result.now c.column.result found (c.column.ensures (length keys) within))

pub returns-clause-rising : goal.returns-clause-rising
returns-clause-rising g c =
    rising-span c.args.from c.args.to c.args.self.now (subst (λ (rs : List (Key × Option g.row.V.Denot)). IsRising key_cmp rs) c.self.view_is c.self.invariant.laid.rising)
