use Rattle.tf_btree.proofs.Words.{refl, sym, ◌∙◌, arith}
use Rattle.tf_btree.proofs.Filled.{edge_at_on}
use Rattle.tf_btree.proofs.node.Node.is_child_at_edge.Goals as goal

pub returns-then-at_edge : goal.returns-then-at_edge
returns-then-at_edge g c =
    let many = c.len-len.ensures.value ∙ sym (c.len-len.ensures.branch_fills c.requires.branch) in
    edge_at_on c.args.at_edge _ c.args.self.now.fills c.args.at c.len-len.result c.if-at_edge.true refl many (omega arith)
