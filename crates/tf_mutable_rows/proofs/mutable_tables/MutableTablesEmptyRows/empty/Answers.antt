use Rattle.std.proofs.Common.{[], ◌∷◌}
use Rattle.tf_mutable_rows.proofs.Fresh.{none_at, none_in_any}
use Rattle.tf_mutable_rows.proofs.mutable_tables.MutableTablesEmptyRows.empty.Goals as goal

pub returns : goal.returns
returns g c =
    let indexes = c.new_in-6.result ∷ c.new_in-7.result ∷ c.new_in-8.result ∷ c.new_in-9.result ∷ c.new_in-10.result ∷ [] in
    none_in_any indexes c.new_in.ensures c.new_in-2.ensures c.new_in-3.ensures c.new_in-4.ensures c.new_in-5.ensures
    (none_at indexes (c.new_in-6.ensures, (c.new_in-7.ensures, (c.new_in-8.ensures, (c.new_in-9.ensures, (c.new_in-10.ensures, tt))))))
    c.new_in-11.ensures c.new_in-12.ensures c.new_in-13.ensures c.new_in-14.ensures
