use Rattle.tf_registry.proofs.Rows.{row_with}
use Rattle.tf_registry.proofs.tables.Tables.add.Goals as goal

pub invariant_of-self : goal.invariant_of-self
invariant_of-self g c =
    let done =
    row_with c.args.table c.self.inside.references.items c.put_first.new.references.items c.args.self.now
    c.self.view_is c.put_first.ensures.items c.requires.level c.requires.oldest c.requires.light c.requires.room c.self.invariant.0 in
    (done.0, done.1, c.put_first.ensures.capacity)
