use Rattle.std.proofs.Common.{◌≡◌, ◌∙◌, refl, sym, ap, length, subst}
use Rattle.std.specs.List.{zip}
use Rattle.tf_table.specs.Column.{column_of}
use Rattle.tf_query.specs.Walk.{AreEntries, AreTableRows}
use Rattle.tf_query.proofs.Walking.{entries_behind, table_rows_left}
use Rattle.tf_query.proofs.walk.Coming.behind.Goals as goal

pub returns : goal.returns
returns g c =
    let table = c.args.table.now in
    let key = c.args.key.now in
    let keys = c.runs.result.0.now in
    let entries = c.in-Each.own_entries.now in
    let all : AreEntries table c.rows_from-rows.result = subst (AreEntries table) (sym c.rows_from-rows.ensures) (entries_behind c.args.direction key table c.len-length.ensures.rising) in
    let together : zip keys entries ≡ c.rows_from-rows.result = ap (λ es. zip keys (column_of (length keys) es)) (sym c.in-Each.is) ∙ c.runs.ensures.rows.together in
    let paired : length keys ≡ length entries = c.runs.ensures.rows.as_many_keys ∙ sym c.runs.ensures.rows.as_many_entries ∙ ap (λ es. length (column_of (length keys) es)) c.in-Each.is in
    let rows : AreTableRows table keys entries = record { paired = paired; entries_are = subst (AreEntries table) (sym together) all } in
    (refl, table_rows_left table c.args.direction c.in-Some._own_key.now c.in-Some-split_first._own_entry.now keys c.in-Some.keys.now entries c.in-Some-split_first.entries.now rows c.in-Some.ensures c.in-Some-split_first.ensures)
