use Rattle.std.proofs.Common.{◌≡◌, Some, sym, ◌∙◌, ap}
use Rattle.std.specs.Option.{option_copied, option_flatten, option_map}
use Rattle.tf_table.specs.Content.{entry_at}
use Rattle.tf_registry.specs.Row.{content_at, lists_of}
use Rattle.tf_manifest.specs.Rows.{key_of}
use Rattle.tf_look_ups.proofs.Finding.{entry_there}
use Rattle.tf_look_ups.proofs.finder.Finder.find_in_table.Goals as goal

pub returns-in-Some-clause-found : goal.returns-in-Some-clause-found
returns-in-Some-clause-found g c =
    let key = key_of 0 c.args.timestamp in
    let f = c.self.inside in
    let rows = c.table_at.result.now in
    let lists = lists_of f.references.now in
    let has : entry_at key rows ≡ Some (option_copied c.in-Some.entry) = ap (λ k. entry_at k rows) (sym c.key_of-key.ensures) ∙ sym c.find.ensures ∙ ap (option_map option_copied) c.in-Some.is in
    let inside = c.has.ensures c.if-has.true in
    sym (ap option_flatten (entry_there key f.place lists rows (option_copied c.in-Some.entry) (c.self.invariant.0 key inside) c.table_at.ensures has))
    ∙ ap (content_at key) c.self.view_is
