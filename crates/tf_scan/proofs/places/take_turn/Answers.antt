use Rattle.std.proofs.Common.{[], ◌∙◌, refl, sym, subst, arith}
use Rattle.tf_scan.specs.Run.{WritesRun}
use Rattle.tf_scan.proofs.Turns.{others-stay}
use Rattle.tf_scan.proofs.Moves.{written-none}
use Rattle.tf_scan.proofs.Runs.{run-writes}
use Rattle.tf_scan.proofs.places.take_turn.Goals as goal

pub returns-then-turn-places-clause-moved : goal.returns-then-turn-places-clause-moved
returns-then-turn-places-clause-moved g c = λ v h. record { ts = []; right = h; front = refl; written = written-none c.args.from c.args.out.now c.requires.room }

pub returns-clause-moved : goal.returns-clause-moved
returns-clause-moved g c = λ v h.
    run-writes c.args.direction v c.args.turn.place c.args.turn.until c.args.places.now c.index-places-turn.result c.take_run.new.self c.args.from c.take_run.result c.args.out.now c.take_run.new.out h c.requires.turn (omega arith) (sym c.index-places-turn.is)
    (subst (λ p. WritesRun c.args.direction c.args.turn.until c.args.from c.take_run.result p c.take_run.new.self c.args.out.now c.take_run.new.out) (sym c.index-places-turn.is) c.take_run.ensures)

pub returns-clause-turn : goal.returns-clause-turn
returns-clause-turn g c = c.requires.turn ∙ sym (others-stay c.args.direction c.args.turn.place c.args.places.now c.take_run.new.self)
