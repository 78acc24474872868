use Rattle.std.proofs.Common.{sym}
use Rattle.tf_look_ups.proofs.at_once.entry_at.Goals as goal

pub returns-then-not-may_have : goal.returns-then-not-may_have
returns-then-not-may_have g c = sym (c.may_have.ensures c.if-not-may_have.true)
