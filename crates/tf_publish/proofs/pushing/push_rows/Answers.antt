use Rattle.std.proofs.Common.{◌≡◌, ◌+◌, ◌≤◌, length, arith, refl, sym, ◌∙◌, subst}
use Rattle.tf_publish.specs.Publish.{PublishesRow, entries_waiting, needed_for}
use Rattle.tf_publish.specs.Tables.{PublishesIn}
use Rattle.tf_rows.specs.Parts.{Entries}
use Rattle.tf_manifest.specs.View.{references_in}
use Rattle.tf_publish.proofs.Bounds.{more_and_more, none_more}
use Rattle.tf_publish.proofs.PublishRows.{goes_on, part_of_all, room_for_row, starts, waiting_on}
use Rattle.tf_publish.specs.Partly.{PublishesPartIn}
use Rattle.tf_publish.proofs.Partly.{parts_at}
use Rattle.tf_publish.proofs.Tables.{none_waiting, tables_go_on, tables_start}
use Rattle.tf_publish.proofs.pushing.push_rows.Goals as goal

pub push_row-requires : goal.push_row-requires
push_row-requires g c =
    let fresh = g.F.MutableRows.entries c.args.fresh.now in
    let now = c.loop-number.next.tables in
    subst (λ (f : Entries). now.pushed.count + needed_for (f c.row_at-row.result) (references_in now c.row_at-row.result) ≤ now.pushed.limit) (sym c.loop-number.invariant.fresh)
    (room_for_row fresh c.args.next.now.tables now c.loop-number.number c.row_at-row.result c.loop-number.invariant.going c.loop-number-test.true c.row_at-row.ensures c.requires)

pub returns-in-Err-clause-most : goal.returns-in-Err-clause-most
returns-in-Err-clause-most g c =
    let fresh = g.F.MutableRows.entries c.args.fresh.now in
    let now = c.loop-number.next.tables in
    part_of_all fresh c.args.next.now.tables now c.loop-number.number c.row_at-row.result c.loop-number.invariant.going c.loop-number-test.true c.row_at-row.ensures c.push_row.new.next.tables.pushed.count
    (subst (λ (f : Entries). c.push_row.new.next.tables.pushed.count ≤ now.pushed.count + needed_for (f c.row_at-row.result) (references_in now c.row_at-row.result)) c.loop-number.invariant.fresh c.push_row.ensures.most)

pub returns-in-Err-clause-more : goal.returns-in-Err-clause-more
returns-in-Err-clause-more g c = more_and_more c.args.next.now c.loop-number.next c.push_row.new.next c.loop-number.invariant.more c.push_row.ensures.more

pub loop-number-preserved : goal.loop-number-preserved
loop-number-preserved g c =
    let fresh = g.F.MutableRows.entries c.args.fresh.now in
    let now = c.loop-number.next in
    let new = c.push_row.new.next in
    let row = c.row_at-row.result in
    record {
      going = goes_on fresh c.args.next.now.tables now.tables c.loop-number.number row c.loop-number.invariant.going c.loop-number-test.true c.row_at-row.ensures new.tables
          (subst (λ (f : Entries). PublishesRow f row now.tables new.tables) c.loop-number.invariant.fresh c.in_default.ensures.publishes);
      tables = tables_go_on fresh c.args.next.now now new c.loop-number.number row c.loop-number.invariant.tables c.loop-number-test.true c.row_at-row.ensures
          (subst (λ (f : Entries). PublishesIn f row now new) c.loop-number.invariant.fresh c.in_default.ensures.tables)
          (subst (λ (f : Entries). PublishesRow f row now.tables new.tables) c.loop-number.invariant.fresh c.in_default.ensures.publishes).count;
      still = λ (none : entries_waiting fresh ≡ 0).
          subst (λ (f : Entries). length (f row) ≡ 0 → new ≡ now) c.loop-number.invariant.fresh c.push_row.ensures.still (none_waiting fresh none row)
          ∙ c.loop-number.invariant.still none;
      fresh = c.push_row.ensures.fresh ∙ c.loop-number.invariant.fresh;
      sealed =
          let before = c.loop-number.invariant.sealed in
          let own : new.sealed ≡ now.sealed + length (fresh row) = subst (λ (f : Entries). new.sealed ≡ now.sealed + length (f row)) c.loop-number.invariant.fresh c.in_default.ensures.sealed in
          let on = waiting_on fresh c.loop-number.number row c.loop-number-test.true c.row_at-row.ensures in
          omega (arith, before, own, on);
      more = more_and_more c.args.next.now now new c.loop-number.invariant.more c.push_row.ensures.more;
    }

pub loop-number-init : goal.loop-number-init
loop-number-init g c =
    let fresh = g.F.MutableRows.entries c.args.fresh.now in
    record {
      going = starts fresh c.args.next.now.tables;
      tables = tables_start fresh c.args.next.now;
      still = λ none. refl;
      fresh = refl;
      sealed = refl;
      more = none_more c.args.next.now;
    }

pub returns-in-Err-clause-parts : goal.returns-in-Err-clause-parts
returns-in-Err-clause-parts g c =
    let fresh = g.F.MutableRows.entries c.args.fresh.now in
    let now = c.loop-number.next in
    let new = c.push_row.new.next in
    let row = c.row_at-row.result in
    parts_at fresh c.args.next.now now new c.loop-number.number row c.loop-number.invariant.tables c.loop-number-test.true c.row_at-row.ensures
    (subst (λ (f : Entries). PublishesPartIn f row now new) c.loop-number.invariant.fresh c.push_row.ensures.part)

pub returns-in-Err-clause-still : goal.returns-in-Err-clause-still
returns-in-Err-clause-still g c = λ (none : entries_waiting (g.F.MutableRows.entries c.args.fresh.now) ≡ 0).
    let fresh = g.F.MutableRows.entries c.args.fresh.now in
    let now = c.loop-number.next in
    let new = c.push_row.new.next in
    let row = c.row_at-row.result in
    subst (λ (f : Entries). length (f row) ≡ 0 → new ≡ now) c.loop-number.invariant.fresh c.push_row.ensures.still (none_waiting fresh none row)
    ∙ c.loop-number.invariant.still none
