use Rattle.std.proofs.Common.{◌≡◌, ◌∷◌, ◌∙◌, ap, sym, Option, None}
use Rattle.std.specs.Option.{option_and_then}
use Rattle.tf_sorted.specs.Rows.{first_key}
use Rattle.tf_records.specs.declared.transfer.Transfer.{Transfer}
use Rattle.tf_table.specs.declared.key.Key.{Key}
use Rattle.tf_manifest.specs.declared.row.Row.TheVariants as row
use Rattle.tf_journal.specs.Due.{due, next_due_of}
use Rattle.tf_rows.specs.Due.{due_pairs}
use Rattle.tf_rows.specs.Spelled.{journal_in, pairs_in}
use Rattle.tf_rows.specs.LookUps.{transfer_at}
use Rattle.tf_rows.specs.Next.{content_in}
use Rattle.tf_rows.proofs.DueRows.{due_from_floor, first_read}
use Rattle.tf_rows.proofs.due.next_due.Goals as goal

pub returns-in_err-key : goal.returns-in_err-key
returns-in_err-key g c =
    let rows = g.S.RowSet.parts c.args.rows.now in
    let all = pairs_in rows row.Expiry in
    let tables = (rows row.Expiry).fresh ∷ (rows row.Expiry).below in
    let whole = due_from_floor all (c.content_is_a_map.ensures.rising tables) (content_in rows row.Expiry) (c.content_is_a_map.ensures.values tables) c.args.at
    c.args.floor (λ key less. c.requires.shows.shows row.Expiry key ∙ c.requires.floor key less) in
    let read : Option Key → Option Transfer = λ (first : Option Key). option_and_then (λ (key : Key). transfer_at (content_in rows) key.timestamp) first in
    let none : None ≡ next_due_of (journal_in rows) c.args.at
    = ap read (sym c.in_err-key.was ∙ c.first_due.ensures.first ∙ ap first_key whole)
    ∙ first_read (content_in rows) (due_pairs c.args.at all) (due (journal_in rows) c.args.at)
    (c.rows_tell_what_is_due.ensures.due rows (journal_in rows) c.requires.shows.sound c.requires.shows.shows c.args.at) in
    cc

pub returns : goal.returns
returns g c =
    let rows = g.S.RowSet.parts c.args.rows.now in
    let all = pairs_in rows row.Expiry in
    let tables = (rows row.Expiry).fresh ∷ (rows row.Expiry).below in
    let whole = due_from_floor all (c.content_is_a_map.ensures.rising tables) (content_in rows row.Expiry) (c.content_is_a_map.ensures.values tables) c.args.at
    c.args.floor (λ key less. c.requires.shows.shows row.Expiry key ∙ c.requires.floor key less) in
    let read : Option Key → Option Transfer = λ (first : Option Key). option_and_then (λ (key : Key). transfer_at (content_in rows) key.timestamp) first in
    c.transfer_at.ensures
    ∙ ap read (sym c.in_ok-key.was ∙ c.first_due.ensures.first ∙ ap first_key whole)
    ∙ first_read (content_in rows) (due_pairs c.args.at all) (due (journal_in rows) c.args.at)
    (c.rows_tell_what_is_due.ensures.due rows (journal_in rows) c.requires.shows.sound c.requires.shows.shows c.args.at)
