use Rattle.tf_btree.proofs.Words.{capacity, rules, ◌≡◌, ◌≤◌, None, OnErr, IfOk, length, sym, ◌∙◌, ap, subst, arith, length-set, with_value, Fill, rows, fill_of, value_at, rows_behind}
use Rattle.tf_btree.proofs.Entries.{child_at, same_kind}
use Rattle.tf_btree.proofs.Placed.{value_below}
use Rattle.tf_btree.proofs.Edited.{joined-set-insert, with_row_child}
use Rattle.tf_btree.proofs.Children.{if_some, on_ok, on_err, child_put, child_same, room_set, beside_level, parted_as, child_filled, edited_filled}
use Rattle.tf_btree.proofs.Grown.{set_within, set_fits}
use Rattle.tf_btree.proofs.node.Node.+insert.Goals as goal

pub insert_into_leaf-requires-clause-leaf : goal.insert_into_leaf-requires-clause-leaf
insert_into_leaf-requires-clause-leaf g t c = sym c.is_branch.ensures ∙ c.if-not-is_branch.true

pub insert_into_leaf-requires-clause-rising : goal.insert_into_leaf-requires-clause-rising
insert_into_leaf-requires-clause-rising g t c = c.requires.rising

pub insert_into_leaf-requires-clause-some : goal.insert_into_leaf-requires-clause-some
insert_into_leaf-requires-clause-some g t c = c.requires.some

pub returns-then-not-is_branch-clause-rows : goal.returns-then-not-is_branch-clause-rows
returns-then-not-is_branch-clause-rows g t c = c.insert_into_leaf.ensures.rows

pub returns-then-not-is_branch-clause-kept : goal.returns-then-not-is_branch-clause-kept
returns-then-not-is_branch-clause-kept g t c = c.insert_into_leaf.ensures.kept

pub returns-then-not-is_branch-clause-may : goal.returns-then-not-is_branch-clause-may
returns-then-not-is_branch-clause-may g t c = c.insert_into_leaf.ensures.may

pub returns-then-not-is_branch-clause-parted : goal.returns-then-not-is_branch-clause-parted
returns-then-not-is_branch-clause-parted g t c = c.insert_into_leaf.ensures.parted

pub returns-then-not-is_branch-clause-filled : goal.returns-then-not-is_branch-clause-filled
returns-then-not-is_branch-clause-filled g t c = c.insert_into_leaf.ensures.filled

pub find_child-at-requires-clause-branch : goal.find_child-at-requires-clause-branch
find_child-at-requires-clause-branch g t c = sym c.is_branch.ensures ∙ c.if-not-is_branch.false

pub find_child-at-requires-clause-rising : goal.find_child-at-requires-clause-rising
find_child-at-requires-clause-rising g t c = c.requires.rising

pub find_child-at-requires-clause-some : goal.find_child-at-requires-clause-some
find_child-at-requires-clause-some g t c = c.requires.some

pub room_for_split-spare-requires-clause-branch : goal.room_for_split-spare-requires-clause-branch
room_for_split-spare-requires-clause-branch g t c = sym c.is_branch.ensures ∙ c.if-not-is_branch.false

pub room_for_split-spare-requires-clause-in_range : goal.room_for_split-spare-requires-clause-in_range
room_for_split-spare-requires-clause-in_range g t c = c.find_child-at.ensures.in_range

pub settle-requires-clause-branch : goal.settle-requires-clause-branch
settle-requires-clause-branch g t c = same_kind c.self.view_is ∙ sym c.is_branch.ensures ∙ c.if-not-is_branch.false

pub settle-requires-clause-in_range : goal.settle-requires-clause-in_range
settle-requires-clause-in_range g t c = set_within c.self.inside.is_branch c.self.inside.keys.items c.self.inside.values.items c.self.inside.children.items c.args.self.now c.find_child-at.result c.first.result (with_value c.index_mut.result.now c.insert-done.new.self) (sym c.is_branch.ensures ∙ c.if-not-is_branch.false) c.self.invariant.0 c.self.view_is c.find_child-at.ensures.in_range

pub settle-requires-clause-fits : goal.settle-requires-clause-fits
settle-requires-clause-fits g t c = set_fits c.self.inside.is_branch c.self.inside.keys.items c.self.inside.values.items c.self.inside.children.items c.args.self.now c.find_child-at.result c.first.result (with_value c.index_mut.result.now c.insert-done.new.self) (sym c.is_branch.ensures ∙ c.if-not-is_branch.false) c.self.invariant.0 c.self.view_is c.self.invariant.1.entries_fit

pub settle-requires-clause-some : goal.settle-requires-clause-some
settle-requires-clause-some g t c = if_some c.insert-done.result.1 _ _ (λ b h. h.some) c.insert-done.ensures.parted.behind

pub settle-requires-clause-empty : goal.settle-requires-clause-empty
settle-requires-clause-empty g t c = c.room_for_split-spare.ensures.empty

pub insert-done-requires : goal.insert-done-requires
insert-done-requires g t c κs within =
    let branch = sym c.is_branch.ensures ∙ c.if-not-is_branch.false in
    let child = child_at _ _ _ _ _ _ _ _ branch c.self.invariant.0 c.self.view_is c.find_child-at.ensures.in_range c.index_mut.ensures.value c.deref_mut-child.ensures.value in
    let level = child.level in
    let rising = child.rising g.K.Ord.cmp c.requires.rising in
    let some = child.some in
    search rules

pub invariant_of-self : goal.invariant_of-self
invariant_of-self g t c =
    let branch = sym c.is_branch.ensures ∙ c.if-not-is_branch.false in
    let child = child_at _ _ _ _ _ _ _ _ branch c.self.invariant.0 c.self.view_is c.find_child-at.ensures.in_range c.index_mut.ensures.value c.deref_mut-child.ensures.value in
    let put = child_put _ _ _ _ _ _ _ _ _ branch c.self.invariant.0 c.self.view_is c.find_child-at.ensures.in_range child c.first.ensures.key c.insert-done.ensures.parted.level.height c.first.ensures.counted in
    (put.node, room_set _ _ _ _ _ _ _ _ c.self.invariant.1)

pub settle-requires-clause-room : goal.settle-requires-clause-room
settle-requires-clause-room g t c = λ split full.
    let branch = sym c.is_branch.ensures ∙ c.if-not-is_branch.false in
    let child = child_at _ _ _ _ _ _ _ _ branch c.self.invariant.0 c.self.view_is c.find_child-at.ensures.in_range c.index_mut.ensures.value c.deref_mut-child.ensures.value in
    let put = child_put _ _ _ _ _ _ _ (with_value c.index_mut.result.now c.insert-done.new.self) _ branch c.self.invariant.0 c.self.view_is c.find_child-at.ensures.in_range child c.first.ensures.key c.insert-done.ensures.parted.level.height c.first.ensures.counted in
    let many = subst (λ (f : Fill). capacity ≤ f.entries) (sym child.fill) (c.insert-done.ensures.parted.full split) in
    let same = length-set c.args.self.now.parts c.find_child-at.result (rows c.insert-done.new.self) in
    let full' = rw put.parts at full in
    c.room_for_split-spare.ensures.room (fill_of c.deref_mut-child.result.now) (c.insert-done.ensures.may split) many (sym same ∙ full')

pub settle-requires-clause-level : goal.settle-requires-clause-level
settle-requires-clause-level g t c =
    let branch = sym c.is_branch.ensures ∙ c.if-not-is_branch.false in
    let child = child_at _ _ _ _ _ _ _ _ branch c.self.invariant.0 c.self.view_is c.find_child-at.ensures.in_range c.index_mut.ensures.value c.deref_mut-child.ensures.value in
    let put = child_put _ _ _ _ _ _ _ _ _ branch c.self.invariant.0 c.self.view_is c.find_child-at.ensures.in_range child c.first.ensures.key c.insert-done.ensures.parted.level.height c.first.ensures.counted in
    beside_level c.insert-done.result.1 _ _ c.insert-done.ensures.parted.behind (put.height ∙ child.level)

pub returns : goal.returns
returns g t c =
    let branch = sym c.is_branch.ensures ∙ c.if-not-is_branch.false in
    let child = child_at _ _ _ _ _ _ _ _ branch c.self.invariant.0 c.self.view_is c.find_child-at.ensures.in_range c.index_mut.ensures.value c.deref_mut-child.ensures.value in
    let put = child_put _ _ _ _ _ _ _ (with_value c.index_mut.result.now c.insert-done.new.self) _ branch c.self.invariant.0 c.self.view_is c.find_child-at.ensures.in_range child c.first.ensures.key c.insert-done.ensures.parted.level.height c.first.ensures.counted in
    let at = c.find_child-at.ensures in
    let all = rw put.parts at c.settle.ensures.all in
    let value = value_below _ _ _ _ at ∙ ap (λ r. value_at g.K.Ord.cmp c.args.key r) child.entry in
    let many = length-set c.args.self.now.parts c.find_child-at.result (rows c.insert-done.new.self) in
    let place = c.room_for_split-spare.ensures.edge in
    record {
      rows = record {
        all = on_ok c.insert-done.result.0 _ _ (λ new.
            all ∙ joined-set-insert c.args.self.now.parts c.find_child-at.result (rows c.insert-done.new.self) (rows_behind c.insert-done.result.1) at.in_range
            ∙ with_row_child _ _ _ _ _ _ _ at child.entry new) c.insert-done.ensures.rows.all;
        value = subst (λ v. IfOk c.insert-done.result.0 (λ old. old ≡ v)) (sym value) c.insert-done.ensures.rows.value;
        absent = subst (λ v. OnErr c.insert-done.result.0 (v ≡ None)) (sym value) c.insert-done.ensures.rows.absent;
      };
      kept = on_err c.insert-done.result.0 _ _ (λ same. let kept = c.settle.ensures.kept same.1 in (kept.0 ∙ child_same _ _ _ _ _ _ _ _ put child same.0, kept.1)) c.insert-done.ensures.kept;
      may = λ some. c.room_for_split-spare.ensures.may (c.insert-done.ensures.may (c.settle.ensures.only_split some));
      parted = parted_as _ _ _ _ put.kind put.height (ap length put.parts ∙ many) c.settle.ensures.parted;
      filled = λ old.
          let done = c.insert-done.ensures.filled (child_filled c.args.standing.at_edge c.room_for_split-spare.result.0.at_edge c.args.self.now c.find_child-at.result c.deref_mut-child.result.now child at.in_range place old.below) in
          let full = rw (put.fills, put.parts) at c.settle.ensures.filled in
          full (λ off. let n = old.half off in omega arith)
          (edited_filled c.args.standing.at_edge c.room_for_split-spare.result.0.at_edge c.args.self.now.fills c.find_child-at.result c.insert-done.new.self c.insert-done.result.1 (omega (arith, child.fills, at.in_range)) place old.below done);
    }
