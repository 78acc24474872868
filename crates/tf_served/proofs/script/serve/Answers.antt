use Rattle.tf_served.proofs.Ending.{stops_serving}
use Rattle.tf_served.proofs.script.serve.Goals as goal

pub returns-clause-fault : goal.returns-clause-fault
returns-clause-fault g c = stops_serving _ _ _ c.run_commands-ended.result c.run_commands-ended.ensures.fault
