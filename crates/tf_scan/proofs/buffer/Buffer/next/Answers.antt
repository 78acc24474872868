use Rattle.std.proofs.Common.{ap, drop, arith, ◌∙◌}
use Rattle.tf_scan.proofs.Buffers.{range-rest}
use Rattle.tf_scan.proofs.buffer.Buffer.next.Goals as goal

pub returns-clause-others : goal.returns-clause-others
returns-clause-others c = range-rest c.self.inside.timestamps c.self.inside.from c.self.inside.to 1 (omega arith) ∙ ap (drop 1) c.self.view_is
