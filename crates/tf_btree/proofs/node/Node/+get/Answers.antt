use Rattle.tf_btree.proofs.Words.{rules, sym, ◌∙◌, ap, value_at}
use Rattle.tf_btree.proofs.Placed.{value_below, node_value, value_gap}
use Rattle.tf_btree.proofs.node.Node.+get.Goals as goal

pub get-requires : goal.get-requires
get-requires g t c κs within = let rising = c.child.ensures.rising g.K.Ord.cmp c.requires.rising in search rules

pub returns-then-self : goal.returns-then-self
returns-then-self g t c = c.get.ensures ∙ sym (value_below _ _ _ _ c.find_child-at.ensures ∙ ap (λ r. value_at g.K.Ord.cmp c.args.key.now r) c.child.ensures.entry)

pub returns-in-Ok : goal.returns-in-Ok
returns-in-Ok g t c = sym (node_value _ g.met.K.Ord.total _ _ _ _ _ _ c.self.invariant.0 c.self.view_is c.requires.rising _ _ c.if-self.false c.in-Ok.ensures.found c.index.ensures)

pub returns-in-Err : goal.returns-in-Err
returns-in-Err g t c = sym (value_gap _ _ _ _ c.in-Err.ensures.absent)
