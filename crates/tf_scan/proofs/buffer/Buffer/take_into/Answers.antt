use Rattle.std.proofs.Common.{ap, drop, arith, ◌∙◌}
use Rattle.tf_scan.proofs.Buffers.{range-rest}
use Rattle.tf_scan.proofs.buffer.Buffer.take_into.Goals as goal

pub returns-clause-others : goal.returns-clause-others
returns-clause-others c =
    range-rest c.self.inside.timestamps c.self.inside.from c.self.inside.to c.min-count.result (omega arith) ∙ ap (drop c.min-count.result) c.self.view_is
