use Rattle.std.proofs.Common.{ap, arith, ◌∙◌}
use Rattle.tf_scan.specs.Order.{those_from}
use Rattle.tf_scan.proofs.Buffers.{range-rest}
use Rattle.tf_scan.proofs.buffer.Buffer.seek.Goals as goal

pub returns : goal.returns
returns c =
    range-rest c.self.inside.timestamps c.self.inside.from c.self.inside.to c.count_before-passed.result (omega arith)
    ∙ c.count_before-passed.ensures.others
    ∙ ap (those_from c.args.direction c.args.timestamp) c.self.view_is
