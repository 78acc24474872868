use Rattle.std.proofs.Common.{◌≡◌, ◌+◌, ◌∙◌, sym, ap, subst, arith}
use Rattle.tf_table.specs.declared.key.Key.{Key}
use Rattle.tf_manifest.specs.declared.row.Row.{Row}
use Rattle.tf_manifest.specs.View.{content_in}
use Rattle.tf_rows.specs.Counts.{Counted, IsReady, counted}
use Rattle.tf_rows.specs.Parts.{Entries, parts_of, value_of_part}
use Rattle.tf_publish.specs.Publish.{entries_waiting, tables_needed}
use Rattle.tf_publish.specs.Tables.{Publishes}
use Rattle.tf_publish.proofs.Bounds.{nothing_lost}
use Rattle.tf_publish.proofs.Partly.{nothing_counted}
use Rattle.tf_publish.proofs.PublishRows.{needless_where_none, none_where_needless}
use Rattle.tf_publish.proofs.publishing.prepare_rows.Goals as goal

pub returns-then-tables_needed-eq0-clause-none : goal.returns-then-tables_needed-eq0-clause-none
returns-then-tables_needed-eq0-clause-none g c =
    let fresh : Entries = g.F.MutableRows.entries c.args.rows.now.fresh in
    none_where_needless fresh c.manifest.result.now (sym c.tables_needed.ensures ∙ c.if-tables_needed-eq0.true)

pub returns-then-tables_needed-eq0-clause-loses : goal.returns-then-tables_needed-eq0-clause-loses
returns-then-tables_needed-eq0-clause-loses g c = nothing_lost c.args.rows.now.published (tables_needed (g.F.MutableRows.entries c.args.rows.now.fresh) c.args.rows.now.published.tables)

pub returns-then-tables_needed-eq0-clause-parts : goal.returns-then-tables_needed-eq0-clause-parts
returns-then-tables_needed-eq0-clause-parts g c = nothing_counted (g.F.MutableRows.entries c.args.rows.now.fresh) c.args.rows.now.published

pub returns-in-Err-clause-loses : goal.returns-in-Err-clause-loses
returns-in-Err-clause-loses g c = nothing_lost c.args.rows.now.published (tables_needed (g.F.MutableRows.entries c.args.rows.now.fresh) c.args.rows.now.published.tables)

pub returns-in-Err-clause-parts : goal.returns-in-Err-clause-parts
returns-in-Err-clause-parts g c = nothing_counted (g.F.MutableRows.entries c.args.rows.now.fresh) c.args.rows.now.published

pub returns-in-Err-clause-idle : goal.returns-in-Err-clause-idle
returns-in-Err-clause-idle g c = λ none.
    let fresh : Entries = g.F.MutableRows.entries c.args.rows.now.fresh in
    let needless = needless_where_none fresh c.manifest.result.now none in
    let is = c.tables_needed.ensures in
    let some = c.if-tables_needed-eq0.false in
    absurd (omega (arith, needless, is, some))

pub returns-in-Ok-push_onto-clause-idle : goal.returns-in-Ok-push_onto-clause-idle
returns-in-Ok-push_onto-clause-idle g c = λ none.
    let fresh : Entries = g.F.MutableRows.entries c.args.rows.now.fresh in
    let needless = needless_where_none fresh c.manifest.result.now none in
    let is = c.tables_needed.ensures in
    let some = c.if-tables_needed-eq0.false in
    absurd (omega (arith, needless, is, some))

pub returns-in-Ok-push_onto-clause-still : goal.returns-in-Ok-push_onto-clause-still
returns-in-Ok-push_onto-clause-still g c = λ none.
    let fresh : Entries = g.F.MutableRows.entries c.args.rows.now.fresh in
    let needless = needless_where_none fresh c.manifest.result.now none in
    let is = c.tables_needed.ensures in
    let some = c.if-tables_needed-eq0.false in
    absurd (omega (arith, needless, is, some))

pub returns-in-Err-push_onto-clause-idle : goal.returns-in-Err-push_onto-clause-idle
returns-in-Err-push_onto-clause-idle g c = λ none.
    let fresh : Entries = g.F.MutableRows.entries c.args.rows.now.fresh in
    let needless = needless_where_none fresh c.manifest.result.now none in
    let is = c.tables_needed.ensures in
    let some = c.if-tables_needed-eq0.false in
    absurd (omega (arith, needless, is, some))

pub returns-in-Err-push_onto-clause-still : goal.returns-in-Err-push_onto-clause-still
returns-in-Err-push_onto-clause-still g c = λ none.
    let fresh : Entries = g.F.MutableRows.entries c.args.rows.now.fresh in
    let needless = needless_where_none fresh c.manifest.result.now none in
    let is = c.tables_needed.ensures in
    let some = c.if-tables_needed-eq0.false in
    absurd (omega (arith, needless, is, some))

pub returns-in-Ok-push_onto-clause-content : goal.returns-in-Ok-push_onto-clause-content
returns-in-Ok-push_onto-clause-content g c =
    let fresh : Entries = g.F.MutableRows.entries c.args.rows.now.fresh in
    subst (λ (p : Counted). (r : Row) (key : Key) → content_in p.tables r key ≡ value_of_part (parts_of fresh c.args.rows.now.published.tables r) key) (sym c.new.ensures) c.in-Ok-push_onto.ensures.content

pub returns-in-Ok-push_onto-clause-publishes : goal.returns-in-Ok-push_onto-clause-publishes
returns-in-Ok-push_onto-clause-publishes g c =
    let fresh : Entries = g.F.MutableRows.entries c.args.rows.now.fresh in
    subst (λ (p : Counted). Publishes fresh (counted c.args.rows.now.published) p) (sym c.new.ensures) c.in-Ok-push_onto.ensures.publishes

pub returns-in-Ok-push_onto-clause-count : goal.returns-in-Ok-push_onto-clause-count
returns-in-Ok-push_onto-clause-count g c = ap (λ (p : Counted). p.tables.pushed.count) c.new.ensures ∙ c.in-Ok-push_onto.ensures.count

pub returns-in-Ok-push_onto-clause-sealed : goal.returns-in-Ok-push_onto-clause-sealed
returns-in-Ok-push_onto-clause-sealed g c = ap (λ (p : Counted). p.sealed) c.new.ensures ∙ c.in-Ok-push_onto.ensures.sealed

pub returns-in-Ok-push_onto-clause-ready : goal.returns-in-Ok-push_onto-clause-ready
returns-in-Ok-push_onto-clause-ready g c = subst (λ (p : Counted). IsReady c.push_onto.new.rows.published p) (sym c.new.ensures) c.in-Ok-push_onto.ensures.ready

pub returns-in-Ok-push_onto-clause-parts : goal.returns-in-Ok-push_onto-clause-parts
returns-in-Ok-push_onto-clause-parts g c = record { copy = c.push_onto.new.next; parts = c.push_onto.ensures.parts; is = c.push_onto.ensures.counts }

pub returns-in-Err-push_onto-clause-parts : goal.returns-in-Err-push_onto-clause-parts
returns-in-Err-push_onto-clause-parts g c = record { copy = c.push_onto.new.next; parts = c.push_onto.ensures.parts; is = c.push_onto.ensures.counts }
