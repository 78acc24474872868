use Rattle.tf_serving.proofs.Needed.{forest_needs_few}
use Rattle.tf_serving.proofs.served.Served+Forest+R+A+A+S+C+W.needs_few.Goals as goal

pub returns : goal.returns
returns g c = forest_needs_few c.forest.result.now c.args.self.now.store.now.forest c.forest.ensures.forest c.facts.ensures.waits
