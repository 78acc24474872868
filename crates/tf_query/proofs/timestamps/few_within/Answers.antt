use Rattle.std.proofs.Common.{arith}
use Rattle.tf_query.proofs.Reading.{whole-part}
use Rattle.tf_query.proofs.timestamps.few_within.Goals as goal

pub returns-clause-inside : goal.returns-clause-inside
returns-clause-inside g c = omega (arith, c.read_part.ensures.part.inside, c.read_part.auto.part, c.told-part)

pub returns-clause-first : goal.returns-clause-first
returns-clause-first g c =
    whole-part _ c.args.window.now c.read_part.result c.read_part.new.part c.seek_first.new.scan.left c.read_part.new.scan.left c.args.scan.left c.read_part.ensures.part
    (omega (arith, c.requires, c.read_part.auto.part, c.told-part)) c.seek_first.ensures.same
