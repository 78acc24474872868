use Rattle.tf_serving.proofs.Serving.{none_waits, read_of_publish}
use Rattle.tf_serving.proofs.served.Served+Forest+Rows+T+A+S+A+A+S+C+W.receipts.Goals as goal

pub returns-clause-all : goal.returns-clause-all
returns-clause-all g c = none_waits _ _ _ c.publish.ensures.publish

pub returns-clause-read : goal.returns-clause-read
returns-clause-read g c = read_of_publish _ _ _ c.facts.ensures.bounded c.facts.ensures.few c.facts.ensures.roomy c.publish.ensures.publish
