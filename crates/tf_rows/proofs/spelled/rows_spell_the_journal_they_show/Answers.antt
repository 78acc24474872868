use Rattle.std.proofs.Common.{◌∷◌}
use Rattle.tf_manifest.specs.declared.row.Row.{Row}
use Rattle.tf_manifest.specs.declared.row.Row.TheVariants as row
use Rattle.tf_manifest.specs.Shows.{ListsRow}
use Rattle.tf_rows.specs.Spelled.{pairs_in}
use Rattle.tf_rows.specs.Next.{content_in}
use Rattle.tf_rows.proofs.spelled.rows_spell_the_journal_they_show.Goals as goal

pub returns : goal.returns
returns c rows journal sound shows =
    c.rows_spell_their_journal.ensures (content_in rows) (pairs_in rows) journal sound shows record {
      accounts = lists row.AccountObjects;
      transfers = lists row.TransferObjects;
      ids = lists row.TransferIds;
      expiries = lists row.ExpiryEntries;
    } where
      lists : (r : Row) → ListsRow (pairs_in rows) (content_in rows) r
      lists r = record {
        rising = c.content_is_a_map.ensures.rising ((rows r).fresh ∷ (rows r).below);
        values = c.content_is_a_map.ensures.values ((rows r).fresh ∷ (rows r).below);
      }
