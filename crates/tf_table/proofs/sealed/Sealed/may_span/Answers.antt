use Rattle.std.proofs.Common.{◌∙◌, ap, map, sym, subst}
use Rattle.tf_table.specs.Content.{entry_at}
use Rattle.tf_table.specs.Span.{HasSpan}
use Rattle.tf_table.proofs.Found.{entry_at-no_span, entry_at-outside}
use Rattle.tf_table.proofs.sealed.Sealed.may_span.Goals as goal

pub returns-in-Some : goal.returns-in-Some
returns-in-Some g c outside =
    let t = c.self.inside in
    let times = subst (λ s. HasSpan s (map (λ k. k.timestamp) t.keys.items)) c.in-Some.is c.self.invariant.laid.times in
    sym (ap (entry_at c.args.key.now) c.self.view_is)
    ∙ entry_at-outside c.in-Some.span c.args.key.now t.keys.items t.entries times outside

pub returns-in-None : goal.returns-in-None
returns-in-None g c _ =
    let t = c.self.inside in
    let times = subst (λ s. HasSpan s (map (λ k. k.timestamp) t.keys.items)) c.in-None.is c.self.invariant.laid.times in
    sym (ap (entry_at c.args.key.now) c.self.view_is)
    ∙ entry_at-no_span c.args.key.now t.keys.items t.entries times
