use Rattle.tf_btree.proofs.Words.{rules, ◌≡◌, IfSome, length, set, sym, ◌∙◌, ap, subst, arith, length-set, with_value, joined, rows, first_key, subtree_of, unboxed, value_at}
use Rattle.tf_btree.proofs.Entries.{child_at}
use Rattle.tf_btree.proofs.Placed.{value_below}
use Rattle.tf_btree.proofs.Parts.{joined-set}
use Rattle.tf_btree.proofs.Edited.{with_row_child}
use Rattle.tf_btree.proofs.Children.{if_some, if_none, child_same}
use Rattle.tf_btree.proofs.InPlace.{first_part, first-set_same, child_kept, kept_filled}
use Rattle.tf_btree.proofs.Height.{is_counted}
use Rattle.tf_btree.proofs.node.Node.+insert_in_place.Goals as goal

pub insert_into_leaf_in_place-requires-clause-leaf : goal.insert_into_leaf_in_place-requires-clause-leaf
insert_into_leaf_in_place-requires-clause-leaf g t c = sym c.is_branch.ensures ∙ c.if-not-is_branch.true

pub insert_into_leaf_in_place-requires-clause-rising : goal.insert_into_leaf_in_place-requires-clause-rising
insert_into_leaf_in_place-requires-clause-rising g t c = c.requires.rising

pub insert_into_leaf_in_place-requires-clause-some : goal.insert_into_leaf_in_place-requires-clause-some
insert_into_leaf_in_place-requires-clause-some g t c = c.requires.some

pub returns-then-not-is_branch-clause-all : goal.returns-then-not-is_branch-clause-all
returns-then-not-is_branch-clause-all g t c = c.insert_into_leaf_in_place.ensures.all

pub returns-then-not-is_branch-clause-value : goal.returns-then-not-is_branch-clause-value
returns-then-not-is_branch-clause-value g t c = c.insert_into_leaf_in_place.ensures.value

pub returns-then-not-is_branch-clause-kept : goal.returns-then-not-is_branch-clause-kept
returns-then-not-is_branch-clause-kept g t c = c.insert_into_leaf_in_place.ensures.kept

pub returns-then-not-is_branch-clause-first : goal.returns-then-not-is_branch-clause-first
returns-then-not-is_branch-clause-first g t c = c.insert_into_leaf_in_place.ensures.first

pub returns-then-not-is_branch-clause-level : goal.returns-then-not-is_branch-clause-level
returns-then-not-is_branch-clause-level g t c = c.insert_into_leaf_in_place.ensures.level

pub returns-then-not-is_branch-clause-entries : goal.returns-then-not-is_branch-clause-entries
returns-then-not-is_branch-clause-entries g t c = c.insert_into_leaf_in_place.ensures.entries

pub returns-then-not-is_branch-clause-filled : goal.returns-then-not-is_branch-clause-filled
returns-then-not-is_branch-clause-filled g t c = c.insert_into_leaf_in_place.ensures.filled

pub find_child-at-requires-clause-branch : goal.find_child-at-requires-clause-branch
find_child-at-requires-clause-branch g t c = sym c.is_branch.ensures ∙ c.if-not-is_branch.false

pub find_child-at-requires-clause-rising : goal.find_child-at-requires-clause-rising
find_child-at-requires-clause-rising g t c = c.requires.rising

pub find_child-at-requires-clause-some : goal.find_child-at-requires-clause-some
find_child-at-requires-clause-some g t c = c.requires.some

pub insert_in_place-replaced-requires : goal.insert_in_place-replaced-requires
insert_in_place-replaced-requires g t c κs within =
    let branch = sym c.is_branch.ensures ∙ c.if-not-is_branch.false in
    let child = child_at _ _ _ _ _ _ _ _ branch c.self.invariant.0 c.self.view_is c.find_child-at.ensures.in_range c.index_mut.ensures.value c.deref_mut-child.ensures.value in
    let level = child.level in
    let rising = child.rising g.K.Ord.cmp c.requires.rising in
    let some = child.some in
    search rules

pub invariant_of-self : goal.invariant_of-self
invariant_of-self g t c =
    let branch = sym c.is_branch.ensures ∙ c.if-not-is_branch.false in
    let child = child_at _ _ _ _ _ _ _ _ branch c.self.invariant.0 c.self.view_is c.find_child-at.ensures.in_range c.index_mut.ensures.value c.deref_mut-child.ensures.value in
    let put = child_kept _ _ _ _ _ _ (with_value c.index_mut.result.now c.insert_in_place-replaced.new.self) _ branch c.self.invariant.0 c.self.view_is c.find_child-at.ensures.in_range child c.insert_in_place-replaced.ensures.first c.insert_in_place-replaced.ensures.level.height (is_counted _ _ _ _ _ c.child.invariant.0 c.child.invariant.1.entries_fit c.child.view_is) in
    (put.node, c.self.invariant.1)

pub returns : goal.returns
returns g t c =
    let branch = sym c.is_branch.ensures ∙ c.if-not-is_branch.false in
    let child = child_at _ _ _ _ _ _ _ _ branch c.self.invariant.0 c.self.view_is c.find_child-at.ensures.in_range c.index_mut.ensures.value c.deref_mut-child.ensures.value in
    let put = child_kept _ _ _ _ _ _ (with_value c.index_mut.result.now c.insert_in_place-replaced.new.self) _ branch c.self.invariant.0 c.self.view_is c.find_child-at.ensures.in_range child c.insert_in_place-replaced.ensures.first c.insert_in_place-replaced.ensures.level.height (is_counted _ _ _ _ _ c.child.invariant.0 c.child.invariant.1.entries_fit c.child.view_is) in
    let at = c.find_child-at.ensures in
    let new = c.insert_in_place-replaced.new.self in
    let boxes = unboxed (set c.self.inside.children.items c.find_child-at.result (with_value c.index_mut.result.now new)) in
    let value = value_below _ _ _ _ at ∙ ap (λ r. value_at g.K.Ord.cmp c.args.key.now r) child.entry in
    let many = length-set c.args.self.now.parts c.find_child-at.result (rows new) in
    let parts = ap length put.parts in
    record {
      all = if_some c.insert_in_place-replaced.result _ _
          (λ _ edited. ap joined put.parts ∙ joined-set c.args.self.now.parts c.find_child-at.result (rows new) at.in_range ∙ with_row_child _ _ _ _ _ _ _ at child.entry edited)
          c.insert_in_place-replaced.ensures.all;
      value = subst (λ v. IfSome c.insert_in_place-replaced.result (λ old. old ≡ v)) (sym value) c.insert_in_place-replaced.ensures.value;
      kept = if_none c.insert_in_place-replaced.result _ _ (λ same. child_same _ _ _ _ _ _ _ _ put child same) c.insert_in_place-replaced.ensures.kept;
      first = ap (λ p. first_key (joined p)) put.parts
          ∙ first-set_same c.args.self.now.parts c.find_child-at.result (rows new) (c.insert_in_place-replaced.ensures.first ∙ sym (ap first_key child.entry)) at.in_range (first_part _ _ _ _ _ c.self.invariant.0 c.self.view_is c.requires.some);
      level = record { kind = put.kind; height = put.height; some = omega (arith, c.requires.some) };
      entries = omega arith;
      filled = λ edge old. kept_filled edge c.args.self.now (subtree_of c.self.inside.is_branch c.self.inside.keys.items c.self.inside.values.items boxes) c.find_child-at.result _ new child at.in_range put.parts put.fills c.insert_in_place-replaced.ensures.filled old;
    }
