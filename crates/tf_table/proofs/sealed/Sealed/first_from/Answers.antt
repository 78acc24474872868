use Rattle.std.proofs.Common.{◌≡◌, List, ◌+◌, ◌≤◌, length, Option, arith, ap, ◌∙◌, subst}
use Rattle.tf_sorted.specs.Rows.{rows_from}
use Rattle.tf_table.specs.declared.key.Key.{Key}
use Rattle.tf_table.specs.Key.{key_cmp}
use Rattle.tf_table.proofs.LaidOut.{length-rows_of}
use Rattle.tf_table.proofs.Spans.{span}
use Rattle.tf_table.proofs.Within.{some_from}
use Rattle.tf_table.proofs.sealed.Sealed.first_from.Goals as goal

pub part-requires-clause-within : goal.part-requires-clause-within
part-requires-clause-within g c =
    let t = c.self.inside in
    let rows = length-rows_of t.keys.items t.entries c.self.invariant.laid.paired in
    omega (arith, rows, ap length c.self.view_is, ap length c.deref.ensures.value, c.requires.within)

pub returns-clause-rows : goal.returns-clause-rows
returns-clause-rows g c =
    let t = c.self.inside in
    let keys = t.keys.items in
    let key = c.args.key.now in
    let from = c.args.from in
    let to = c.args.to in
    let p = c.count_below.result in
    let rows = length-rows_of keys t.entries c.self.invariant.laid.paired in
    let seen = ap length c.self.view_is in
    let within : to ≤ length keys = omega (arith, rows, seen, c.requires.within) in
    let found : c.part.result.now ≡ span from to keys = c.part.ensures ∙ ap (λ (ks : List Key). span from to ks) c.deref.ensures.value in
    let counted = c.count_below.ensures in
    subst (λ (rs : List (Key × Option g.row.V.Denot)). span (from + p) to rs ≡ rows_from key_cmp key (span from to rs)) c.self.view_is
    (some_from t.least t.greatest keys t.entries c.self.invariant.laid from to c.requires.ordered within c.part.result.now found key p counted.within counted.before counted.after)
