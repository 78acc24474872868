use Rattle.tf_registry.specs.Row.{lists_of}
use Rattle.tf_table.specs.Content.{AreDated}
use Rattle.tf_look_ups.proofs.Finding.{dated_at}
use Rattle.tf_look_ups.proofs.finder.dated_entries.Goals as goal

pub returns-in-Some : goal.returns-in-Some
returns-in-Some g c =
    let rows = c.table_at.result.now in
    let lists = lists_of c.args.references.now in
    let dated : AreDated c.in-Some.found.0 c.in-Some.found.1.now rows = rw c.in-Some.is at c.dated_entries.ensures in
    dated_at c.args.place c.in-Some.found.0 c.in-Some.found.1.now lists rows c.table_at.ensures dated
