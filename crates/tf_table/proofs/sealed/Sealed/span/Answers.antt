use Rattle.std.proofs.Common.{◌∙◌, ap, subst}
use Rattle.tf_table.specs.Span.{HasSpan, timestamps}
use Rattle.tf_table.proofs.Times.{times-rows_of}
use Rattle.tf_table.proofs.sealed.Sealed.span.Goals as goal

pub returns : goal.returns
returns g c =
    let t = c.self.inside in
    subst (HasSpan t.span) (times-rows_of t.keys.items t.entries c.self.invariant.laid.paired ∙ ap timestamps c.self.view_is) c.self.invariant.laid.times
