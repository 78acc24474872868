use Rattle.tf_serving.proofs.served.Served+Forest+Rows+T+A+S+A+A+S+C+W.facts.Goals as goal

pub returns-clause-few : goal.returns-clause-few
returns-clause-few g c = c.needs_few.ensures

pub returns-clause-bounded : goal.returns-clause-bounded
returns-clause-bounded g c = c.facts-book.ensures.bounded

pub returns-clause-roomy : goal.returns-clause-roomy
returns-clause-roomy g c = c.args.self.now.roomy
