use Rattle.std.proofs.Common.{List, refl, sym, subst}
use Rattle.tf_manifest.proofs.Maps.{on_ok}
use Rattle.tf_journal.specs.declared.entry.Entry.{Entry}
use Rattle.tf_journal.specs.declared.entry.Entry.TheVariants as entry
use Rattle.tf_rows.specs.declared.change.Change.{Change}
use Rattle.tf_rows.specs.Changes.{CanChangeAll, present}
use Rattle.tf_rows.specs.Next.{changes_by}
use Rattle.tf_rows.proofs.Added.{changed_by, made_by, shown_by}
use Rattle.tf_rows.proofs.Single.{single_account, single_expiry, single_failed, single_made}
use Rattle.tf_rows.proofs.add.add_entry.Goals as goal

pub make_changes-requires-clause-single : goal.make_changes-requires-clause-single
make_changes-requires-clause-single g c = single_made (present c.account_changes.result) _ c.account_changes.ensures (single_account c.in-Account.account)

pub make_changes-requires-clause-can : goal.make_changes-requires-clause-can
make_changes-requires-clause-can g c =
    subst (λ (cs : List Change). CanChangeAll g.S.RowSet.has_row g.S.RowSet.fits g.S.RowSet.takes_any cs (g.S.RowSet.parts c.args.rows.now))
    (sym (made_by (g.S.RowSet.parts c.args.rows.now) c.args.found.now (present c.account_changes.result) (entry.Account c.in-Account.account) c.args.entry.now c.in-Account.is c.account_changes.ensures)) c.requires.can

pub returns-in-Account-clause-shows : goal.returns-in-Account-clause-shows
returns-in-Account-clause-shows g c = λ journal sound grows found shows.
    on_ok c.make_changes.result _ _
    (λ made. shown_by (g.S.RowSet.parts c.args.rows.now) c.args.found.now (present c.account_changes.result) (entry.Account c.in-Account.account) c.args.entry.now c.in-Account.is c.account_changes.ensures
    c.rows_show_the_next_entry.ensures (g.S.RowSet.parts c.make_changes.new.set) made journal sound grows found shows)
    c.make_changes.ensures.rows

pub returns-in-Account-clause-rows : goal.returns-in-Account-clause-rows
returns-in-Account-clause-rows g c =
    on_ok c.make_changes.result _ _
    (changed_by (g.S.RowSet.parts c.args.rows.now) c.args.found.now (present c.account_changes.result) (entry.Account c.in-Account.account) c.args.entry.now c.in-Account.is c.account_changes.ensures (g.S.RowSet.parts c.make_changes.new.set))
    c.make_changes.ensures.rows

pub add_transfer-requires-clause-can : goal.add_transfer-requires-clause-can
add_transfer-requires-clause-can g c =
    subst (λ (e : Entry). CanChangeAll g.S.RowSet.has_row g.S.RowSet.fits g.S.RowSet.takes_any (changes_by c.args.found.now e) (g.S.RowSet.parts c.args.rows.now)) c.in-Transfer.is c.requires.can

pub returns-in-Transfer-clause-shows : goal.returns-in-Transfer-clause-shows
returns-in-Transfer-clause-shows g c = λ journal sound grows found shows.
    on_ok c.add_transfer.result _ _
    (λ made. shown_by (g.S.RowSet.parts c.args.rows.now) c.args.found.now (changes_by c.args.found.now (entry.Transfer c.in-Transfer.transfer)) (entry.Transfer c.in-Transfer.transfer) c.args.entry.now c.in-Transfer.is refl
    c.rows_show_the_next_entry.ensures (g.S.RowSet.parts c.add_transfer.new.rows) made journal sound grows found shows)
    c.add_transfer.ensures.rows

pub returns-in-Transfer-clause-rows : goal.returns-in-Transfer-clause-rows
returns-in-Transfer-clause-rows g c =
    on_ok c.add_transfer.result _ _
    (changed_by (g.S.RowSet.parts c.args.rows.now) c.args.found.now (changes_by c.args.found.now (entry.Transfer c.in-Transfer.transfer)) (entry.Transfer c.in-Transfer.transfer) c.args.entry.now c.in-Transfer.is refl (g.S.RowSet.parts c.add_transfer.new.rows))
    c.add_transfer.ensures.rows

pub make_changes-requires-in-Expiry-clause-single : goal.make_changes-requires-in-Expiry-clause-single
make_changes-requires-in-Expiry-clause-single g c =
    single_made (present c.expiry_changes.result) _ c.expiry_changes.ensures (single_expiry c.args.found.now c.in-Expiry.timestamp c.in-Expiry.pending)

pub make_changes-requires-in-Expiry-clause-can : goal.make_changes-requires-in-Expiry-clause-can
make_changes-requires-in-Expiry-clause-can g c =
    subst (λ (cs : List Change). CanChangeAll g.S.RowSet.has_row g.S.RowSet.fits g.S.RowSet.takes_any cs (g.S.RowSet.parts c.args.rows.now))
    (sym (made_by (g.S.RowSet.parts c.args.rows.now) c.args.found.now (present c.expiry_changes.result) (entry.Expiry c.in-Expiry.timestamp c.in-Expiry.pending) c.args.entry.now c.in-Expiry.is c.expiry_changes.ensures)) c.requires.can

pub returns-in-Expiry-clause-shows : goal.returns-in-Expiry-clause-shows
returns-in-Expiry-clause-shows g c = λ journal sound grows found shows.
    on_ok c.make_changes-in-Expiry.result _ _
    (λ made. shown_by (g.S.RowSet.parts c.args.rows.now) c.args.found.now (present c.expiry_changes.result) (entry.Expiry c.in-Expiry.timestamp c.in-Expiry.pending) c.args.entry.now c.in-Expiry.is c.expiry_changes.ensures
    c.rows_show_the_next_entry.ensures (g.S.RowSet.parts c.make_changes-in-Expiry.new.set) made journal sound grows found shows)
    c.make_changes-in-Expiry.ensures.rows

pub returns-in-Expiry-clause-rows : goal.returns-in-Expiry-clause-rows
returns-in-Expiry-clause-rows g c =
    on_ok c.make_changes-in-Expiry.result _ _
    (changed_by (g.S.RowSet.parts c.args.rows.now) c.args.found.now (present c.expiry_changes.result) (entry.Expiry c.in-Expiry.timestamp c.in-Expiry.pending) c.args.entry.now c.in-Expiry.is c.expiry_changes.ensures (g.S.RowSet.parts c.make_changes-in-Expiry.new.set))
    c.make_changes-in-Expiry.ensures.rows

pub make_changes-requires-in-Failed-clause-single : goal.make_changes-requires-in-Failed-clause-single
make_changes-requires-in-Failed-clause-single g c =
    single_made (present c.failed_changes.result) _ c.failed_changes.ensures (single_failed c.in-Failed.timestamp c.in-Failed.id)

pub make_changes-requires-in-Failed-clause-can : goal.make_changes-requires-in-Failed-clause-can
make_changes-requires-in-Failed-clause-can g c =
    subst (λ (cs : List Change). CanChangeAll g.S.RowSet.has_row g.S.RowSet.fits g.S.RowSet.takes_any cs (g.S.RowSet.parts c.args.rows.now))
    (sym (made_by (g.S.RowSet.parts c.args.rows.now) c.args.found.now (present c.failed_changes.result) (entry.Failed c.in-Failed.timestamp c.in-Failed.id) c.args.entry.now c.in-Failed.is c.failed_changes.ensures)) c.requires.can

pub returns-in-Failed-clause-shows : goal.returns-in-Failed-clause-shows
returns-in-Failed-clause-shows g c = λ journal sound grows found shows.
    on_ok c.make_changes-in-Failed.result _ _
    (λ made. shown_by (g.S.RowSet.parts c.args.rows.now) c.args.found.now (present c.failed_changes.result) (entry.Failed c.in-Failed.timestamp c.in-Failed.id) c.args.entry.now c.in-Failed.is c.failed_changes.ensures
    c.rows_show_the_next_entry.ensures (g.S.RowSet.parts c.make_changes-in-Failed.new.set) made journal sound grows found shows)
    c.make_changes-in-Failed.ensures.rows

pub returns-in-Failed-clause-rows : goal.returns-in-Failed-clause-rows
returns-in-Failed-clause-rows g c =
    on_ok c.make_changes-in-Failed.result _ _
    (changed_by (g.S.RowSet.parts c.args.rows.now) c.args.found.now (present c.failed_changes.result) (entry.Failed c.in-Failed.timestamp c.in-Failed.id) c.args.entry.now c.in-Failed.is c.failed_changes.ensures (g.S.RowSet.parts c.make_changes-in-Failed.new.set))
    c.make_changes-in-Failed.ensures.rows
