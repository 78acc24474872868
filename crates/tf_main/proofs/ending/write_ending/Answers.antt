use Rattle.std.proofs.Common.{subst, sym}
use Rattle.tf_main.specs.Ending.{ending_line}
use Rattle.tf_main.specs.Output.{Writes}
use Rattle.tf_main.specs.declared.ending.Ending.{Ending}
use Rattle.tf_main.proofs.ending.write_ending.Goals as goal

pub returns-in-NoThread : goal.returns-in-NoThread
returns-in-NoThread g c =
    subst (λ (e : Ending). Writes (g.W.Write.contents c.args.err.now) (g.W.Write.contents c.write_pieces-in-NoThread.new.out) c.write_pieces-in-NoThread.result (ending_line e))
    (sym c.in-NoThread.is) c.write_pieces-in-NoThread.ensures
