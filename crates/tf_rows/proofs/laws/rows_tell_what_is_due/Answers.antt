use Rattle.std.proofs.Common.{◌∷◌}
use Rattle.tf_manifest.specs.declared.row.Row.TheVariants as row
use Rattle.tf_rows.specs.Spelled.{pairs_in}
use Rattle.tf_rows.specs.Next.{content_in}
use Rattle.tf_rows.proofs.DueRows.{due_is_read, keys_in_range}
use Rattle.tf_rows.proofs.laws.rows_tell_what_is_due.Goals as goal

pub returns-clause-due : goal.returns-clause-due
returns-clause-due c rows journal sound shows moment =
    let tables = (rows row.Expiry).fresh ∷ (rows row.Expiry).below in
    due_is_read c.rows_are_maps.ensures journal sound moment (content_in rows) shows (pairs_in rows row.Expiry)
    (c.content_is_a_map.ensures.rising tables) (c.content_is_a_map.ensures.values tables)

pub returns-clause-in_range : goal.returns-clause-in_range
returns-clause-in_range c content journal sound shows = keys_in_range c.rows_are_maps.ensures journal sound content shows
