use Rattle.std.proofs.Common.{◌≡◌, ◌∙◌, sym, subst, arith, true}
use Rattle.tf_scan.specs.Place.{is_past, Seeks}
use Rattle.tf_scan.proofs.Turns.{others-stay, seeks-one}
use Rattle.tf_scan.proofs.places.seek.Goals as goal

pub returns-then-turn-places-clause-sought : goal.returns-then-turn-places-clause-sought
returns-then-turn-places-clause-sought g c =
    let past = subst (λ n. is_past c.args.direction c.args.timestamp n ≡ true) c.requires.turn (sym c.has.ensures ∙ c.if-has.true) in
    seeks-one c.args.direction c.args.value c.args.timestamp c.args.turn.now.place c.args.places.now c.index-places-turn.result c.seek.new.self c.requires.right past (omega arith) (sym c.index-places-turn.is)
    (subst (λ p. Seeks c.args.direction c.args.value c.args.timestamp p c.seek.new.self) (sym c.index-places-turn.is) c.seek.ensures)

pub returns-then-turn-places-clause-turn : goal.returns-then-turn-places-clause-turn
returns-then-turn-places-clause-turn g c = c.requires.turn ∙ sym (others-stay c.args.direction c.args.turn.now.place c.args.places.now c.seek.new.self)
