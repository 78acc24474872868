use Rattle.tf_query.proofs.Summed.{history_asked, sums_held}
use Rattle.tf_query.proofs.laws.sums_date_history.Goals as goal

pub returns-clause-sides : goal.returns-clause-sides
returns-clause-sides c = λ view journal sound shows id history.
    sums_held journal id history view shows (c.records_are_dated.ensures.transfers journal sound)

pub returns-clause-asked : goal.returns-clause-asked
returns-clause-asked c = λ view journal sound shows.
    history_asked view journal shows (c.records_are_dated.ensures.transfers journal sound) (c.rows_index_records.ensures.transfers view journal sound shows)
