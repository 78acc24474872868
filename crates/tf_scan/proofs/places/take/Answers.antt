use Rattle.std.proofs.Common.{◌≡◌, ◌∙◌, ap, sym, subst, arith, true}
use Rattle.tf_table.specs.Content.{entry_at}
use Rattle.tf_manifest.specs.Rows.{key_of}
use Rattle.tf_scan.specs.Place.{rows_left, nearest_in, is_past, IsFrom, Takes}
use Rattle.tf_scan.proofs.Across.{each-at, from-all}
use Rattle.tf_scan.proofs.Turns.{others-stay, takes-one, entry-one}
use Rattle.tf_scan.proofs.places.take.Goals as goal

pub take-requires-clause-nearest : goal.take-requires-clause-nearest
take-requires-clause-nearest g c =
    let all = from-all c.args.direction c.args.value c.args.timestamp c.args.places.now c.requires.nearest in
    subst (λ p. IsFrom c.args.direction c.args.timestamp (nearest_in c.args.direction p)) c.index-places-turn.is
    (each-at (λ p. IsFrom c.args.direction c.args.timestamp (nearest_in c.args.direction p)) c.args.places.now c.turn_at.result.place c.index-places-turn.result all (omega arith) (sym c.index-places-turn.is))

pub returns-then-turn-places-clause-entry : goal.returns-then-turn-places-clause-entry
returns-then-turn-places-clause-entry g c =
    let past = subst (λ n. is_past c.args.direction c.args.timestamp n ≡ true) c.turn_at.ensures (sym c.has.ensures ∙ c.if-has.true) in
    c.take.ensures.entry
    ∙ ap (λ p. entry_at (key_of c.args.value c.args.timestamp) (rows_left c.args.direction c.args.value p)) (sym c.index-places-turn.is)
    ∙ sym (entry-one c.args.direction c.args.value c.args.timestamp c.turn_at.result.place c.args.places.now c.index-places-turn.result c.requires.right past (omega arith) (sym c.index-places-turn.is))

pub returns-then-turn-places-clause-taken : goal.returns-then-turn-places-clause-taken
returns-then-turn-places-clause-taken g c =
    let past = subst (λ n. is_past c.args.direction c.args.timestamp n ≡ true) c.turn_at.ensures (sym c.has.ensures ∙ c.if-has.true) in
    takes-one c.args.direction c.args.value c.args.timestamp c.turn_at.result.place c.args.places.now c.index-places-turn.result c.take.new.self c.requires.right past (omega arith) (sym c.index-places-turn.is)
    (subst (λ p. Takes c.args.direction c.args.value c.args.timestamp p c.take.new.self) (sym c.index-places-turn.is) c.take.ensures.taken)

pub returns-then-turn-places-clause-turn : goal.returns-then-turn-places-clause-turn
returns-then-turn-places-clause-turn g c = c.turn_at.ensures ∙ sym (others-stay c.args.direction c.turn_at.result.place c.args.places.now c.take.new.self)

pub take_all-entry-requires-clause-nearest : goal.take_all-entry-requires-clause-nearest
take_all-entry-requires-clause-nearest g c = from-all c.args.direction c.args.value c.args.timestamp c.args.places.now c.requires.nearest
