use Rattle.tf_btree.proofs.Words.{refl}
use Rattle.tf_btree.proofs.Mended.{fuller, fuller_room, fuller_half, fuller_half_first, even_halves, more_half, both_filled}
use Rattle.tf_btree.proofs.node.Node.even_out.Goals as goal

pub take_first-requires-clause-kind : goal.take_first-requires-clause-kind
take_first-requires-clause-kind g c = c.requires.kind

pub take_first-requires-clause-level : goal.take_first-requires-clause-level
take_first-requires-clause-level g c = c.requires.level

pub take_first-requires-clause-some : goal.take_first-requires-clause-some
take_first-requires-clause-some g c = c.requires.some

pub take_first-requires-clause-more : goal.take_first-requires-clause-more
take_first-requires-clause-more g c = fuller _ _ _ _ c.len-len.ensures.value c.len-second_len.ensures.value c.if-len-second_len.true c.requires.some

pub take_first-requires-clause-room : goal.take_first-requires-clause-room
take_first-requires-clause-room g c = fuller_room _ _ _ c.len-len.ensures.value c.if-len-second_len.true c.len-second_len.ensures.fits

pub give_last-requires-clause-kind : goal.give_last-requires-clause-kind
give_last-requires-clause-kind g c = c.requires.kind

pub give_last-requires-clause-level : goal.give_last-requires-clause-level
give_last-requires-clause-level g c = c.requires.level

pub give_last-requires-clause-some : goal.give_last-requires-clause-some
give_last-requires-clause-some g c = c.requires.second_some

pub give_last-requires-clause-more : goal.give_last-requires-clause-more
give_last-requires-clause-more g c = fuller _ _ _ _ c.len-second_len.ensures.value c.len-len.ensures.value c.if-second_len-len.true c.requires.second_some

pub give_last-requires-clause-room : goal.give_last-requires-clause-room
give_last-requires-clause-room g c = fuller_room _ _ _ c.len-second_len.ensures.value c.if-second_len-len.true c.len-len.ensures.fits

pub returns-then-len-second_len-clause-all : goal.returns-then-len-second_len-clause-all
returns-then-len-second_len-clause-all g c = c.take_first.ensures.all

pub returns-then-len-second_len-clause-level : goal.returns-then-len-second_len-clause-level
returns-then-len-second_len-clause-level g c = c.take_first.ensures.level

pub returns-then-len-second_len-clause-second_level : goal.returns-then-len-second_len-clause-second_level
returns-then-len-second_len-clause-second_level g c = c.take_first.ensures.second_level

pub returns-then-second_len-len-clause-all : goal.returns-then-second_len-len-clause-all
returns-then-second_len-len-clause-all g c = c.give_last.ensures.all

pub returns-then-second_len-len-clause-level : goal.returns-then-second_len-len-clause-level
returns-then-second_len-len-clause-level g c = c.give_last.ensures.level

pub returns-then-second_len-len-clause-second_level : goal.returns-then-second_len-len-clause-second_level
returns-then-second_len-len-clause-second_level g c = c.give_last.ensures.second_level

pub returns-then-len-second_len-clause-filled : goal.returns-then-len-second_len-clause-filled
returns-then-len-second_len-clause-filled g c = λ edge f h.
    both_filled edge c.take_first.new.self c.take_first.new.second (c.take_first.ensures.filled edge f.below h.below) (more_half _ _ (f.half refl) c.take_first.ensures.more)
    (λ off. fuller_half _ _ _ _ _ c.len-len.ensures.value c.len-second_len.ensures.value c.if-len-second_len.true c.requires.many c.take_first.ensures.second_fewer)

pub returns-then-second_len-len-clause-filled : goal.returns-then-second_len-len-clause-filled
returns-then-second_len-len-clause-filled g c = λ edge f h.
    both_filled edge c.give_last.new.self c.give_last.new.second (c.give_last.ensures.filled edge f.below h.below) (fuller_half_first _ _ _ _ _ c.len-len.ensures.value c.len-second_len.ensures.value c.if-second_len-len.true c.requires.many c.give_last.ensures.fewer)
    (λ off. more_half _ _ (h.half off) c.give_last.ensures.second_more)

pub returns-else-second_len-len-clause-all : goal.returns-else-second_len-len-clause-all
returns-else-second_len-len-clause-all g c = refl

pub returns-else-second_len-len-clause-level : goal.returns-else-second_len-len-clause-level
returns-else-second_len-len-clause-level g c = record { kind = refl; height = refl; some = c.requires.some }

pub returns-else-second_len-len-clause-second_level : goal.returns-else-second_len-len-clause-second_level
returns-else-second_len-len-clause-second_level g c = record { kind = refl; height = refl; some = c.requires.second_some }

pub returns-else-second_len-len-clause-filled : goal.returns-else-second_len-len-clause-filled
returns-else-second_len-len-clause-filled g c = λ edge f h.
    let halves = even_halves _ _ _ _ c.len-len.ensures.value c.len-second_len.ensures.value c.if-len-second_len.false c.if-second_len-len.false c.requires.many in
    both_filled edge c.args.self.now c.args.second.now (f.below, h.below) halves.0 (λ off. halves.1)
