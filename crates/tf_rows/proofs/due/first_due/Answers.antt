use Rattle.std.proofs.Common.{◌≡◌, ◌∷◌, Some, None, arith}
use Rattle.std.proofs.lemmas.Bool.{le-leb, lt-leb}
use Rattle.tf_manifest.specs.declared.row.Row.TheVariants as row
use Rattle.tf_rows.specs.Due.{first_due_from}
use Rattle.tf_rows.specs.Spelled.{pairs_in}
use Rattle.tf_rows.specs.Next.{content_in}
use Rattle.tf_rows.proofs.DueRows.{first_due_is, first_later, first_none, first_over}
use Rattle.tf_rows.proofs.due.first_due.Goals as goal

pub returns-in_err-key-clause-first : goal.returns-in_err-key-clause-first
returns-in_err-key-clause-first g c =
    let rows = g.S.RowSet.parts c.args.rows.now in
    let tables = (rows row.Expiry).fresh ∷ (rows row.Expiry).below in
    let first : None ≡ first_due_from c.args.at c.args.from.now (pairs_in rows row.Expiry)
    = first_due_is (pairs_in rows row.Expiry) (c.content_is_a_map.ensures.rising tables) (content_in rows row.Expiry) (c.content_is_a_map.ensures.values tables) c.args.at
    c.args.from.now None (first_none c.args.at (content_in rows row.Expiry) c.args.from.now c.in_err-key.ensures) in
    cc

pub returns-then-key-at-clause-first : goal.returns-then-key-at-clause-first
returns-then-key-at-clause-first g c =
    let rows = g.S.RowSet.parts c.args.rows.now in
    let tables = (rows row.Expiry).fresh ∷ (rows row.Expiry).below in
    let key = c.in_ok-key.key in
    first_due_is (pairs_in rows row.Expiry) (c.content_is_a_map.ensures.rising tables) (content_in rows row.Expiry) (c.content_is_a_map.ensures.values tables) c.args.at
    c.args.from.now None (first_later c.args.at (content_in rows row.Expiry) c.args.from.now key c.in_ok-key.ensures (lt-leb key.value c.args.at (omega (arith, c.if-key-at.true))))

pub returns-clause-first : goal.returns-clause-first
returns-clause-first g c =
    let rows = g.S.RowSet.parts c.args.rows.now in
    let tables = (rows row.Expiry).fresh ∷ (rows row.Expiry).below in
    let key = c.in_ok-key.key in
    first_due_is (pairs_in rows row.Expiry) (c.content_is_a_map.ensures.rising tables) (content_in rows row.Expiry) (c.content_is_a_map.ensures.values tables) c.args.at
    c.args.from.now (Some key) (first_over c.args.at (content_in rows row.Expiry) c.args.from.now key c.in_ok-key.ensures (le-leb key.value c.args.at (omega (arith, c.if-key-at.false))))

pub returns-clause-in_range : goal.returns-clause-in_range
returns-clause-in_range g c =
    let rows = g.S.RowSet.parts c.args.rows.now in
    c.rows_tell_what_is_due.ensures.in_range (content_in rows) _ c.requires.shows.sound c.requires.shows.shows c.in_ok-key.key c.in_ok-key.ensures.there
