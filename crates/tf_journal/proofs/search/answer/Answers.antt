use Rattle.std.proofs.Common.{rules}
use Rattle.tf_journal.proofs.Answered.{answer_forwards, answer_backwards}
use Rattle.tf_journal.proofs.search.answer.Goals as goal

pub returns-in_ok-last_rows-clause-ok : goal.returns-in_ok-last_rows-clause-ok
returns-in_ok-last_rows-clause-ok g c =
    answer_backwards (g.Q.Query.asks c.args.query.now) (g.Q.Query.row_of c.args.query.now c.args.entries.now) g.Q.Query.found_in c.args.entries.now _ _
    (search rules) (search rules) (search rules) c.in_ok-last_rows.ensures

pub returns-in_ok-first_rows-clause-ok : goal.returns-in_ok-first_rows-clause-ok
returns-in_ok-first_rows-clause-ok g c =
    answer_forwards (g.Q.Query.asks c.args.query.now) (g.Q.Query.row_of c.args.query.now c.args.entries.now) g.Q.Query.found_in c.args.entries.now _ _
    (search rules) (search rules) (search rules) c.in_ok-first_rows.ensures
