use Rattle.tf_crew.proofs.crew.run_crew.Goals as goal

pub run_workers-requires-clause-seats : goal.run_workers-requires-clause-seats
run_workers-requires-clause-seats g c κs within k d here = (c.in_ok-queue.ensures.seats k d here).0
