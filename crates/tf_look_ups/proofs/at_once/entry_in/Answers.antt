use Rattle.std.proofs.Common.{◌≡◌, Some, None, take, sym, ◌∙◌, ap, add-one}
use Rattle.std.specs.Option.{option_copied}
use Rattle.tf_table.specs.Content.{entry_at, entry_of}
use Rattle.tf_registry.specs.Row.{lists_of}
use Rattle.tf_look_ups.proofs.Finding.{entry_next, entry_there}
use Rattle.tf_look_ups.proofs.at_once.entry_in.Goals as goal

pub returns-in-Some : goal.returns-in-Some
returns-in-Some g c =
    let rows = c.table_at-table.result.now in
    let lists = lists_of c.args.references.now in
    let there = c.table_at-table.ensures in
    let has : entry_at c.args.key.now rows ≡ Some c.in-Some.entry.now = sym c.entry_at.ensures ∙ ap option_copied c.in-Some.is in
    sym (entry_there c.args.key.now c.loop-place.place lists rows c.in-Some.entry.now c.loop-place.invariant there has)

pub loop-place-preserved : goal.loop-place-preserved
loop-place-preserved g c =
    let rows = c.table_at-table.result.now in
    let lists = lists_of c.args.references.now in
    let there = c.table_at-table.ensures in
    let hasnt : entry_at c.args.key.now rows ≡ None = sym c.entry_at.ensures ∙ ap option_copied c.in_default.is in
    ap (λ n. entry_of c.args.key.now (take n lists)) (add-one c.loop-place.place) ∙ entry_next c.args.key.now c.loop-place.place lists rows c.loop-place.invariant there ∙ hasnt
