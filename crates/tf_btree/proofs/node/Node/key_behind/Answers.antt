use Rattle.tf_btree.proofs.Words.{◌+◌, ◌<◌, ◌≤◌, length, arith}
use Rattle.tf_btree.proofs.Entries.{length-seen}
use Rattle.tf_btree.proofs.Placed.{behind_some, behind_none}
use Rattle.tf_btree.proofs.node.Node.key_behind.Goals as goal

pub returns-then-at-len : goal.returns-then-at-len
returns-then-at-len g c =
    let long = length-seen _ _ _ _ _ c.self.invariant.0 c.self.view_is in
    let lt : c.args.at + 1 < length c.self.inside.keys.items = omega (arith, c.if-at-len.true, c.len-len.ensures.value) in
    behind_some _ _ _ _ _ _ _ c.self.invariant.0 c.self.view_is lt c.index.ensures

pub returns-else-at-len : goal.returns-else-at-len
returns-else-at-len g c =
    let long = length-seen _ _ _ _ _ c.self.invariant.0 c.self.view_is in
    let le : length c.self.inside.keys.items ≤ c.args.at + 1 = omega (arith, c.if-at-len.false, c.len-len.ensures.value) in
    behind_none _ _ _ _ _ _ c.self.invariant.0 c.self.view_is le
