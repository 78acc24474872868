use Rattle.tf_btree.proofs.Words.{◌≡◌, ◌+◌, [], drop, suc, ◌∙◌, ap, subst, arith, drop_all, get_or_default, Fill, AllFilled, one_more_at, no_entries, fill_of}
use Rattle.tf_btree.proofs.Filled.{filled_less, pair_from_first, filled_more}
use Rattle.tf_btree.proofs.node.Node.mend.Goals as goal
use Rattle.tf_btree.proofs.node.Node.mend.Goals.{then-at-len-via-then-at-len, then-at-len-via-else-at-len+then-len-lt2, then-at-len-via-else-at-len+else-len-lt2+then-len-ge-HALF, then-at-eq0, else-at-eq0}

pub returns-then-at-len-clause-filled : goal.returns-then-at-len-clause-filled
returns-then-at-len-clause-filled g c = λ edge more h.
    let len = c.len-len.ensures.value in
    let many = c.len-len.ensures.branch_fills c.requires.branch in
    filled_less edge c.args.at c.args.self.now.fills (λ lt off. elim c.then-at-len.branch [
      | then-at-len-via-then-at-len w ↦ absurd (omega (arith, w.if-at-len.true))
      | then-at-len-via-else-at-len+then-len-lt2 w ↦
          let last : drop (suc c.args.at) c.args.self.now.fills ≡ [] = drop_all (suc c.args.at) c.args.self.now.fills (omega (arith, w.if-len-lt2.true)) in
          absurd (let n = more (rw last at off) in omega (arith, w.if-len-lt2.true))
      | then-at-len-via-else-at-len+else-len-lt2+then-len-ge-HALF w ↦
          let half = w.if-len-ge-HALF.true in
          let own = w.len.ensures.value in
          let fill = ap (λ (f : Fill). f.entries) (get_or_default c.args.self.now.fills c.args.at no_entries (fill_of w.child.result.now) lt ∙ w.child.ensures.fill) in
          omega arith
    ]) h

pub returns-clause-filled : goal.returns-clause-filled
returns-clause-filled g c = λ edge more h.
    c.mend_pair.ensures.filled edge (elim c.if-at-eq0.branch [
      | then-at-eq0 w ↦
          let zero-at = w.if-at-eq0.true in
          let at : c.args.at ≡ c.if-at-eq0.left = omega (arith, w.left-is) in
          pair_from_first edge c.if-at-eq0.left c.args.self.now.fills (subst (λ i. AllFilled edge (one_more_at i c.args.self.now.fills)) at h)
      | else-at-eq0 w ↦
          let some = w.if-at-eq0.false in
          let at : c.args.at ≡ c.if-at-eq0.left + 1 = omega (arith, w.left-is) in
          filled_more edge c.if-at-eq0.left (one_more_at (c.if-at-eq0.left + 1) c.args.self.now.fills) (subst (λ i. AllFilled edge (one_more_at i c.args.self.now.fills)) at h)
    ])
