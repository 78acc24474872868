use Rattle.std.proofs.Common.{sym, ◌∙◌}
use Rattle.tf_scan.proofs.Taking.{row-past}
use Rattle.tf_scan.proofs.run.next_in_turn.Goals as goal

pub returns : goal.returns
returns g c = row-past c.args.direction c.args.turn.until c.in_ok-timestamp.timestamp c.args.rows.now c.first.new.rows c.first.result (sym c.in_ok-timestamp.ensures) (sym c.has.ensures ∙ c.if-not-has.false) c.first.ensures
