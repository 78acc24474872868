use Rattle.tf_served.proofs.script.serve_opened.Goals as goal

pub serve-ended-requires-clause-shares : goal.serve-ended-requires-clause-shares
serve-ended-requires-clause-shares g c = rw c.in-Ok.is at c.requires.shares

pub serve-ended-requires-clause-limit : goal.serve-ended-requires-clause-limit
serve-ended-requires-clause-limit g c = rw c.in-Ok.is at c.requires.limit

pub serve-ended-requires-clause-journal : goal.serve-ended-requires-clause-journal
serve-ended-requires-clause-journal g c = rw c.in-Ok.is at c.requires.journal

pub serve-ended-requires-clause-clock : goal.serve-ended-requires-clause-clock
serve-ended-requires-clause-clock g c = rw c.in-Ok.is at c.requires.clock

pub serve-ended-requires-clause-published : goal.serve-ended-requires-clause-published
serve-ended-requires-clause-published g c = rw c.in-Ok.is at c.requires.published

pub returns-in-Ok-clause-answered : goal.returns-in-Ok-clause-answered
returns-in-Ok-clause-answered g c = c.serve-ended.ensures.answered

pub returns-in-Ok-clause-fault : goal.returns-in-Ok-clause-fault
returns-in-Ok-clause-fault g c = c.serve-ended.ensures.fault
