use Rattle.std.proofs.Common.{◌∷◌, ◌∙◌, ap, sym, length, List, arith}
use Rattle.tf_manifest.specs.declared.row.Row.TheVariants as row
use Rattle.tf_manifest.specs.Rows.{Pair}
use Rattle.tf_journal.specs.Due.{due}
use Rattle.tf_rows.specs.Due.{due_pairs}
use Rattle.tf_rows.specs.Spelled.{journal_in, pairs_in}
use Rattle.tf_rows.specs.Next.{content_in}
use Rattle.tf_rows.proofs.DueRows.{count_read, due_from_floor, due_rising, none_left, one_less_left}
use Rattle.tf_rows.proofs.due.due_count.Goals as goal

pub loop-count-init : goal.loop-count-init
loop-count-init g c =
    let rows = g.S.RowSet.parts c.args.rows.now in
    let tables = (rows row.Expiry).fresh ∷ (rows row.Expiry).below in
    let whole = ap (λ (pairs : List Pair). length pairs)
    (due_from_floor (pairs_in rows row.Expiry) (c.content_is_a_map.ensures.rising tables) (content_in rows row.Expiry) (c.content_is_a_map.ensures.values tables) c.args.at
    c.args.floor (λ key less. c.requires.shows.shows row.Expiry key ∙ c.requires.floor key less)) in
    omega (arith, whole)

pub loop-count-preserved : goal.loop-count-preserved
loop-count-preserved g c =
    let rows = g.S.RowSet.parts c.args.rows.now in
    let all = pairs_in rows row.Expiry in
    let tables = (rows row.Expiry).fresh ∷ (rows row.Expiry).below in
    let rising = due_rising all (c.content_is_a_map.ensures.rising tables) (content_in rows row.Expiry) (c.content_is_a_map.ensures.values tables) c.args.at in
    let less = one_less_left (due_pairs c.args.at all) rising c.loop-count.from c.in-Some.key (sym c.first_due.ensures.first ∙ c.in-Some.is) in
    let before = c.loop-count.invariant in
    omega (arith, less, before)

pub returns-in_default : goal.returns-in_default
returns-in_default g c =
    let rows = g.S.RowSet.parts c.args.rows.now in
    let pairs = due_pairs c.args.at (pairs_in rows row.Expiry) in
    let many = count_read (content_in rows) pairs (due (journal_in rows) c.args.at)
    (c.rows_tell_what_is_due.ensures.due rows (journal_in rows) c.requires.shows.sound c.requires.shows.shows c.args.at) in
    let none = none_left pairs c.loop-count.from (sym c.first_due.ensures.first ∙ c.in_default.is) in
    let before = c.loop-count.invariant in
    let turn = c.loop-count-test.true in
    omega (arith, many, none, before, turn)

pub returns : goal.returns
returns g c =
    let rows = g.S.RowSet.parts c.args.rows.now in
    let pairs = due_pairs c.args.at (pairs_in rows row.Expiry) in
    let many = count_read (content_in rows) pairs (due (journal_in rows) c.args.at)
    (c.rows_tell_what_is_due.ensures.due rows (journal_in rows) c.requires.shows.sound c.requires.shows.shows c.args.at) in
    let before = c.loop-count.invariant in
    omega (arith, many, before)
