use Rattle.tf_serving.proofs.Serving.{read_of_take}
use Rattle.tf_serving.proofs.served.Served+Forest+Rows+T+A+S+A+A+S+C+W.version.Goals as goal

pub returns-clause-version : goal.returns-clause-version
returns-clause-version g c = c.take_version.ensures.version

pub returns-clause-read : goal.returns-clause-read
returns-clause-read g c = read_of_take _ _ _ c.facts.ensures.bounded c.facts.ensures.few c.facts.ensures.roomy c.take_version.ensures.publish
