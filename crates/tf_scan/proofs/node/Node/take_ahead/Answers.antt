use Rattle.std.proofs.Common.{ap, sym, ◌∙◌, arith}
use Rattle.tf_scan.specs.Place.{is_past}
use Rattle.tf_scan.proofs.Unions.{part-more}
use Rattle.tf_scan.proofs.node.Node.take_ahead.Goals as goal

pub loop-to-preserved : goal.loop-to-preserved
loop-to-preserved g c =
    part-more c.args.until c.args.from c.loop-to.to c.args.self.now c.loop-to.self c.args.out.now c.loop-to.out c.loop-to.invariant c.peek.new.self c.peek.ensures.same c.next.new.self c.in-Some.timestamp
    c.in-Some.ensures.first c.next.ensures.others c.next.ensures.kept (ap (λ d. is_past d c.in-Some.timestamp c.args.until) (sym c.direction.ensures) ∙ sym c.is_past.ensures ∙ c.if-not-is_past.false) (omega arith)
