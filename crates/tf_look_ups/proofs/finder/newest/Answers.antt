use Rattle.std.proofs.Common.{◌≡◌, Some, None, take, sym, ◌∙◌, ap, add-one}
use Rattle.std.specs.Option.{option_copied, option_map}
use Rattle.tf_table.specs.Content.{entry_at, entry_of}
use Rattle.tf_registry.specs.Row.{lists_of}
use Rattle.tf_look_ups.proofs.Finding.{entry_next, entry_there, silent_next}
use Rattle.tf_look_ups.proofs.finder.newest.Goals as goal

pub returns-in-Some-clause-newest : goal.returns-in-Some-clause-newest
returns-in-Some-clause-newest g c =
    let rows = c.table_at-table.result.now in
    let lists = lists_of c.args.references.now in
    let there = c.table_at-table.ensures in
    let has : entry_at c.args.key.now rows ≡ Some (option_copied c.in-Some.entry) = sym c.find_in.ensures ∙ ap (option_map option_copied) c.in-Some.is in
    record {
      found = entry_there c.args.key.now c.loop-place.place lists rows (option_copied c.in-Some.entry) c.loop-place.invariant.absent there has;
      silent = c.loop-place.invariant.silent;
    }

pub loop-place-preserved : goal.loop-place-preserved
loop-place-preserved g c =
    let rows = c.table_at-table.result.now in
    let lists = lists_of c.args.references.now in
    let there = c.table_at-table.ensures in
    let hasnt : entry_at c.args.key.now rows ≡ None = sym c.find_in.ensures ∙ ap (option_map option_copied) c.in_default.is in
    record {
      absent = ap (λ n. entry_of c.args.key.now (take n lists)) (add-one c.loop-place.place) ∙ entry_next c.args.key.now c.loop-place.place lists rows c.loop-place.invariant.absent there ∙ hasnt;
      silent = silent_next c.loop-place.place lists rows c.loop-place.part c.beside-part.result c.span.result there c.span.ensures c.beside-part.ensures.kept c.beside-part.ensures.outside c.loop-place.invariant.silent;
    }
