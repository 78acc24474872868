use Rattle.tf_registry.proofs.Maps.{replaced}
use Rattle.tf_registry.proofs.place.replace.Goals as goal

pub returns-clause-items : goal.returns-clause-items
returns-clause-items g c = replaced c.args.references.now.items c.remove.new.self.items c.args.at c.args.out c.requires c.remove.ensures.items
