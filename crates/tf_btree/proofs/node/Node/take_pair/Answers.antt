use Rattle.tf_btree.proofs.Pair.{taken_pair}
use Rattle.tf_btree.proofs.Words.{◌+◌, arith, remove, length-remove}
use Rattle.tf_btree.proofs.node.Node.take_pair.Goals as goal

pub returns-clause-parts : goal.returns-clause-parts
returns-clause-parts g c =
    let first = c.remove_child-first.ensures in
    let second = c.remove_child-second.ensures in
    rw (first.rest, second.rest) (taken_pair c.args.self.now.parts c.args.left _ _ _ _ c.requires.in_range second.taken.entry (rw second.rest at first.taken.entry))

pub returns-clause-fills : goal.returns-clause-fills
returns-clause-fills g c =
    let first = c.remove_child-first.ensures in
    let second = c.remove_child-second.ensures in
    rw (first.rest_fills, second.rest_fills) (taken_pair c.args.self.now.fills c.args.left _ _ _ _ (omega (arith, c.requires.in_range, second.taken.fills)) second.taken.fill (rw second.rest_fills at first.taken.fill))

pub returns-clause-fewer : goal.returns-clause-fewer
returns-clause-fewer g c =
    let once = length-remove c.args.self.now.parts (c.args.left + 1) c.requires.in_range in
    let twice = length-remove (remove c.args.self.now.parts (c.args.left + 1)) c.args.left (omega arith) in
    rw (c.remove_child-first.ensures.rest, c.remove_child-second.ensures.rest) (omega arith)
