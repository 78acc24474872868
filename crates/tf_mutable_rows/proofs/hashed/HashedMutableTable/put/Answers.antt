use Rattle.std.proofs.Common.{◌∙◌, ap, sym}
use Rattle.tf_sorted.specs.Rows.{with_row}
use Rattle.tf_table.specs.Content.{entry_at}
use Rattle.tf_table.specs.Key.{key_cmp}
use Rattle.tf_mutable.specs.Mutable.{in_order}
use Rattle.tf_mutable_rows.specs.Hashed.{keyed}
use Rattle.tf_mutable_rows.proofs.Hashing.{equal_keys, found_in_order, hashed_eq, put_in_order}
use Rattle.tf_mutable_rows.proofs.hashed.HashedMutableTable.put.Goals as goal

pub returns-clause-rows : goal.returns-clause-rows
returns-clause-rows g c =
    put_in_order hashed_eq equal_keys c.new-put.result c.args.key c.args.entry c.self.inside.rows.entries c.insert.new.self.entries c.new-put.ensures c.in-Ok.ensures.updates.0
    ∙ ap (with_row key_cmp c.args.key c.args.entry) c.self.view_is

pub returns-clause-before : goal.returns-clause-before
returns-clause-before g c =
    c.in-Ok.ensures.old
    ∙ found_in_order hashed_eq equal_keys c.new-put.result c.args.key c.self.inside.rows.entries c.new-put.ensures
    ∙ ap (entry_at c.args.key) c.self.view_is

pub returns-in-Err-clause-err : goal.returns-in-Err-clause-err
returns-in-Err-clause-err g c = ap (λ rows. in_order (keyed rows)) c.in-Err.ensures.err ∙ c.self.view_is

pub returns-in-Err-clause-absent : goal.returns-in-Err-clause-absent
returns-in-Err-clause-absent g c =
    sym (found_in_order hashed_eq equal_keys c.new-put.result c.args.key c.self.inside.rows.entries c.new-put.ensures ∙ ap (entry_at c.args.key) c.self.view_is) ∙ c.in-Err.ensures.absent
