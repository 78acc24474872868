use Rattle.std.proofs.Common.{length, List, ap, arith}
use Rattle.tf_registry.specs.Table.{Shown}
use Rattle.tf_registry.proofs.Installs.{Installed, installed}
use Rattle.tf_registry.proofs.tables.Tables.replace_at.Given as given
use Rattle.tf_registry.proofs.tables.Tables.replace_at.Goals as goal

there : (g : given.Over) (c : goal.After-replace g) → Installed c.args.self.now c.args.job.now c.args.out.table c.replace.new.references.items
there g c =
    installed c.args.self.now c.self.inside.references.items c.as_slice.result.now c.replace.new.references.items
    record { newer = c.job.inside.newer; older = c.job.inside.older } c.args.job.now c.args.at c.args.out
    c.self.view_is c.as_slice.ensures.value c.self.invariant.0 c.job.view_is c.job.invariant c.requires.merges
    c.requires.stands c.confirm.ensures.first c.confirm.ensures.second c.replace.ensures.items

pub invariant_of-self : goal.invariant_of-self
invariant_of-self g c =
    let done = there g c in
    let installs = done.installs in
    let before = ap (λ (ts : List (Shown g.row.V.Denot)). length ts) c.self.view_is in
    (done.row, omega (arith, installs.one_less, before, c.self.invariant.1), omega (arith, c.replace.ensures.capacity, c.self.invariant.2))

pub returns : goal.returns
returns g c = (there g c).installs
