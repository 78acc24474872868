use Rattle.std.proofs.Common.{◌≡◌, ◌∙◌, sym, subst}
use Rattle.tf_journal.specs.declared.entry.Entry.{Entry}
use Rattle.tf_journal.specs.declared.entry.Entry.TheVariants as entry
use Rattle.tf_rows.specs.Edits.{found_for}
use Rattle.tf_rows.specs.Next.{content_in}
use Rattle.tf_rows.proofs.found.look_up.Goals as goal

pub returns-in-Transfer-clause-found : goal.returns-in-Transfer-clause-found
returns-in-Transfer-clause-found g c = λ journal sound shows.
    subst (λ (e : Entry). c.for_transfer.result ≡ found_for journal e) (sym c.in-Transfer.is)
    (c.for_transfer.ensures
    ∙ c.rows_answer_look_ups.ensures.found (content_in (g.S.RowSet.parts c.args.rows.now)) journal sound shows (entry.Transfer c.in-Transfer.adding))

pub returns-in-Expiry-clause-found : goal.returns-in-Expiry-clause-found
returns-in-Expiry-clause-found g c = λ journal sound shows.
    subst (λ (e : Entry). c.for_expiry.result ≡ found_for journal e) (sym c.in-Expiry.is)
    (c.for_expiry.ensures
    ∙ c.rows_answer_look_ups.ensures.found (content_in (g.S.RowSet.parts c.args.rows.now)) journal sound shows (entry.Expiry c.in-Expiry.timestamp c.in-Expiry.pending))
