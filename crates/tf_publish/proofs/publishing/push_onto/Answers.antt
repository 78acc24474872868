use Rattle.std.proofs.Common.{◌≡◌, ◌+◌, ◌-◌, ◌≤◌, Result, Ok, Err, OnOk, sym, ap, subst, arith}
use Rattle.tf_records.specs.declared.refusal.Refusal.{Refusal}
use Rattle.tf_table.specs.declared.key.Key.{Key}
use Rattle.tf_manifest.specs.declared.row.Row.{Row}
use Rattle.tf_manifest.specs.View.{content_in}
use Rattle.tf_rows.specs.Counts.{Counted, IsReady, PushesMore, all_references}
use Rattle.tf_rows.specs.Parts.{Entries, parts_of, value_of_part}
use Rattle.tf_publish.specs.Publish.{entries_waiting, tables_needed}
use Rattle.tf_publish.specs.Partly.{PublishesParts}
use Rattle.tf_publish.specs.Tables.{Publishes}
use Rattle.tf_publish.proofs.Bounds.{few_ready, loses_no_more}
use Rattle.tf_publish.proofs.PublishRows.{all_few}
use Rattle.tf_publish.proofs.publishing.push_onto.Goals as goal

on_both : (r : Result (Unit {0}) Refusal) (P Q R : Type 0) → (P → Q → R) → OnOk r P → OnOk r Q → OnOk r R
on_both (Ok done) P Q R f p q = f p q
on_both (Err refusal) P Q R f p q = tt

pub count_pushed-requires : goal.count_pushed-requires
count_pushed-requires g c =
    let next : Counted = c.push_rows-answer.new.next in
    let most = c.push_rows-answer.ensures.most in
    let few = all_few (g.F.MutableRows.entries c.args.rows.now.fresh) c.args.next.now.tables in
    let same = ap (λ (t : Counted). t.tables.pushed.count) c.requires.copy in
    record {
      more = subst (λ (t : Counted). PushesMore t next) c.requires.copy c.push_rows-answer.ensures.more;
      most = omega (arith, most, few, same);
    }

pub returns-clause-content : goal.returns-clause-content
returns-clause-content g c =
    let fresh : Entries = g.F.MutableRows.entries c.args.rows.now.fresh in
    let next : Counted = c.push_rows-answer.new.next in
    subst (λ (t : Counted). OnOk c.push_rows-answer.result ((r : Row) (key : Key) → content_in next.tables r key ≡ value_of_part (parts_of fresh t.tables r) key)) c.requires.copy c.push_rows-answer.ensures.content

pub returns-clause-count : goal.returns-clause-count
returns-clause-count g c =
    let fresh : Entries = g.F.MutableRows.entries c.args.rows.now.fresh in
    let next : Counted = c.push_rows-answer.new.next in
    subst (λ (t : Counted). OnOk c.push_rows-answer.result (next.tables.pushed.count ≡ t.tables.pushed.count + tables_needed fresh t.tables)) c.requires.copy c.push_rows-answer.ensures.count

pub returns-clause-sealed : goal.returns-clause-sealed
returns-clause-sealed g c =
    let fresh : Entries = g.F.MutableRows.entries c.args.rows.now.fresh in
    let next : Counted = c.push_rows-answer.new.next in
    subst (λ (t : Counted). OnOk c.push_rows-answer.result (next.sealed ≡ t.sealed + entries_waiting fresh)) c.requires.copy c.push_rows-answer.ensures.sealed

pub returns-clause-publishes : goal.returns-clause-publishes
returns-clause-publishes g c =
    let fresh : Entries = g.F.MutableRows.entries c.args.rows.now.fresh in
    subst (λ (t : Counted). OnOk c.push_rows-answer.result (Publishes fresh t c.push_rows-answer.new.next)) c.requires.copy c.push_rows-answer.ensures.publishes

pub returns-clause-ready : goal.returns-clause-ready
returns-clause-ready g c =
    let next : Counted = c.push_rows-answer.new.next in
    on_both c.push_rows-answer.result _ _ _
    (λ few added. record {
      pushed = sym c.count_pushed.ensures.pushed;
      held = sym c.count_pushed.ensures.held;
      few = few_ready c.args.rows.now.published c.count_pushed.new.self next (next.tables.pushed.count - c.args.rows.now.published.tables.pushed.count) c.count_pushed.ensures.loses c.count_pushed.ensures.pushed c.publishes-publishes.ensures few added;
    })
    (subst (λ (t : Counted). OnOk c.push_rows-answer.result (next.tables.pushed.count + all_references next.tables ≤ t.tables.pushed.count + all_references t.tables + 42)) c.requires.copy c.push_rows-answer.ensures.few)
    (subst (λ (t : Counted). OnOk c.push_rows-answer.result (all_references next.tables + t.tables.pushed.count ≤ all_references t.tables + next.tables.pushed.count)) c.requires.copy c.push_rows-answer.ensures.added)

pub returns-clause-loses : goal.returns-clause-loses
returns-clause-loses g c =
    let fresh : Entries = g.F.MutableRows.entries c.args.rows.now.fresh in
    let next : Counted = c.push_rows-answer.new.next in
    let most = subst (λ (t : Counted). next.tables.pushed.count ≤ t.tables.pushed.count + tables_needed fresh t.tables) c.requires.copy c.push_rows-answer.ensures.most in
    loses_no_more c.args.rows.now.published c.count_pushed.new.self (next.tables.pushed.count - c.args.rows.now.published.tables.pushed.count) (tables_needed fresh c.args.rows.now.published.tables) c.count_pushed.ensures.loses (omega (arith, most))

pub returns-clause-parts : goal.returns-clause-parts
returns-clause-parts g c =
    subst (λ (t : Counted). PublishesParts (g.F.MutableRows.entries c.args.rows.now.fresh) t c.push_rows-answer.new.next) c.requires.copy c.push_rows-answer.ensures.parts

pub returns-clause-counts : goal.returns-clause-counts
returns-clause-counts g c = c.count_pushed.ensures.lost
