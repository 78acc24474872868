use Rattle.std.proofs.Common.{length, ap, sym, ◌∙◌}
use Rattle.tf_table.proofs.LaidOut.{length-rows_of}
use Rattle.tf_table.proofs.sealed.Sealed.capacity.Goals as goal

pub returns : goal.returns
returns g c =
    let t = c.self.inside in
    c.capacity.ensures ∙ c.self.invariant.fitted.0 ∙ sym (length-rows_of t.keys.items t.entries c.self.invariant.laid.paired) ∙ ap length c.self.view_is
