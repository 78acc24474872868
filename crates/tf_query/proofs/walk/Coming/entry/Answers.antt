use Rattle.std.proofs.Common.{Some, sym, ap, ◌∙◌}
use Rattle.tf_query.proofs.Walking.{coming_taken, known_key, one_key}
use Rattle.tf_query.proofs.walk.Coming.entry.Goals as goal

pub returns-then-other-key-2-clause-known : goal.returns-then-other-key-2-clause-known
returns-then-other-key-2-clause-known g c = λ lists coming.
    (coming_taken lists c.args.self.now.part c.args.direction c.in-Some.other.now c.in-Some-split_first.entry.now c.args.self.now.keys.now c.in-Some.keys.now c.args.self.now.entries.now c.in-Some-split_first.entries.now coming c.in-Some.ensures c.in-Some-split_first.ensures).0

pub returns-then-other-key-2-clause-found : goal.returns-then-other-key-2-clause-found
returns-then-other-key-2-clause-found g c = λ lists coming.
    known_key lists c.args.self.now.part (c.in-Some.other.now, c.in-Some-split_first.entry.now) c.args.key.now
    (coming_taken lists c.args.self.now.part c.args.direction c.in-Some.other.now c.in-Some-split_first.entry.now c.args.self.now.keys.now c.in-Some.keys.now c.args.self.now.entries.now c.in-Some-split_first.entries.now coming c.in-Some.ensures c.in-Some-split_first.ensures).1
    (one_key c.in-Some.other.now c.args.key.now c.if-other-key.true c.if-other-key-2.true)
    (c.has.ensures c.if-not-has.false)
    ∙ ap Some (sym c.as_ref.ensures.value)

pub returns-else-other-key-clause-known : goal.returns-else-other-key-clause-known
returns-else-other-key-clause-known g c = λ lists coming.
    (coming_taken lists c.args.self.now.part c.args.direction c.in-Some.other.now c.in-Some-split_first.entry.now c.args.self.now.keys.now c.in-Some.keys.now c.args.self.now.entries.now c.in-Some-split_first.entries.now coming c.in-Some.ensures c.in-Some-split_first.ensures).0
