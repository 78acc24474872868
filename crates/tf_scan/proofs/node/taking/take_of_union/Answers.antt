use Rattle.std.proofs.Common.{◌∷◌, [], List, ℕ, Some, None, refl, ap, sym, subst, ◌∙◌, arith, drop}
use Rattle.tf_scan.specs.Part.{Part}
use Rattle.tf_scan.specs.Sets.{union_of}
use Rattle.tf_scan.specs.Node.{KeepsPart}
use Rattle.tf_scan.proofs.Firsts.{union-left-none, union-right-none, union-both}
use Rattle.tf_scan.proofs.Moves.{written-none, written-more}
use Rattle.tf_scan.proofs.Unions.{writes-left, writes-right, stays-none, never-stays}
use Rattle.tf_scan.proofs.node.taking.take_of_union.Goals as goal

pub returns-in_default-clause-moved : goal.returns-in_default-clause-moved
returns-in_default-clause-moved g c =
    writes-right c.args.direction None c.args.from c.take_ahead.result c.args.left.now c.args.right.now c.peek.new.self c.args.right.now c.take_ahead.new.self c.args.out.now c.take_ahead.new.out c.requires.left c.requires.right c.peek.ensures.same refl
    c.in_default.ensures.first c.take_ahead.ensures.moved

pub returns-in_default-clause-none : goal.returns-in_default-clause-none
returns-in_default-clause-none g c = λ none.
    union-left-none c.args.direction c.args.left.now.left c.args.right.now.left (sym c.in_default.ensures.first)
    ∙ stays-none c.args.direction None c.args.from c.take_ahead.result c.args.right.now c.args.right.now c.take_ahead.new.self c.args.out.now c.take_ahead.new.out c.requires.right refl c.take_ahead.ensures.moved c.take_ahead.ensures.last c.requires.room none refl

pub returns-in_default-peek-clause-moved : goal.returns-in_default-peek-clause-moved
returns-in_default-peek-clause-moved g c =
    let run = c.take_ahead-in_default-peek in
    writes-left c.args.direction None c.args.from run.result c.args.left.now c.args.right.now c.peek.new.self c.peek-2.new.self run.new.self c.args.out.now run.new.out c.requires.left c.requires.right c.peek.ensures.same c.peek-2.ensures.same
    c.in_default-peek.ensures.first run.ensures.moved

pub returns-in_default-peek-clause-none : goal.returns-in_default-peek-clause-none
returns-in_default-peek-clause-none g c = λ none.
    let run = c.take_ahead-in_default-peek in
    union-right-none c.args.direction c.args.left.now.left c.args.right.now.left c.requires.left.in_order (sym c.in_default-peek.ensures.first)
    ∙ stays-none c.args.direction None c.args.from run.result c.args.left.now c.peek.new.self run.new.self c.args.out.now run.new.out c.requires.left c.peek.ensures.same run.ensures.moved run.ensures.last c.requires.room none refl

pub returns-then-is_before-clause-moved : goal.returns-then-is_before-clause-moved
returns-then-is_before-clause-moved g c =
    let run = c.take_ahead-then-is_before in
    writes-left c.args.direction (Some c.in-Some-peek.other) c.args.from run.result c.args.left.now c.args.right.now c.peek.new.self c.peek-2.new.self run.new.self c.args.out.now run.new.out c.requires.left c.requires.right c.peek.ensures.same c.peek-2.ensures.same
    c.in-Some-peek.ensures.first run.ensures.moved

pub returns-then-is_before-clause-none : goal.returns-then-is_before-clause-none
returns-then-is_before-clause-none g c = λ none.
    let run = c.take_ahead-then-is_before in
    absurd
    (never-stays c.args.direction (Some c.in-Some-peek.other) c.args.from run.result c.args.left.now c.peek.new.self run.new.self c.args.out.now run.new.out c.requires.left c.peek.ensures.same run.ensures.moved run.ensures.last c.requires.room none
    c.in-Some.first c.in-Some.ensures.first (sym c.is_before.ensures ∙ c.if-is_before.true))

pub returns-then-is_before-2-clause-moved : goal.returns-then-is_before-2-clause-moved
returns-then-is_before-2-clause-moved g c =
    let run = c.take_ahead-then-is_before-2 in
    writes-right c.args.direction (Some c.in-Some.first) c.args.from run.result c.args.left.now c.args.right.now c.peek.new.self c.peek-2.new.self run.new.self c.args.out.now run.new.out c.requires.left c.requires.right c.peek.ensures.same c.peek-2.ensures.same
    c.in-Some.ensures.first run.ensures.moved

pub returns-then-is_before-2-clause-none : goal.returns-then-is_before-2-clause-none
returns-then-is_before-2-clause-none g c = λ none.
    let run = c.take_ahead-then-is_before-2 in
    absurd
    (never-stays c.args.direction (Some c.in-Some.first) c.args.from run.result c.args.right.now c.peek-2.new.self run.new.self c.args.out.now run.new.out c.requires.right c.peek-2.ensures.same run.ensures.moved run.ensures.last c.requires.room none
    c.in-Some-peek.other c.in-Some-peek.ensures.first (sym c.is_before-2.ensures ∙ c.if-is_before-2.true))

pub returns-clause-moved : goal.returns-clause-moved
returns-clause-moved g c =
    let d = c.args.direction in
    let from = c.args.from in
    let other = c.in-Some-peek.other in
    let left = c.args.left.now.left in
    let right = c.args.right.now.left in
    record {
      ts = other ∷ [];
      front =
          union-both d c.in-Some.first other left right c.requires.left.in_order c.requires.right.in_order (sym c.in-Some.ensures.first) (sym c.in-Some-peek.ensures.first)
          (sym c.is_before.ensures ∙ c.if-is_before.false) (sym c.is_before-2.ensures ∙ c.if-is_before-2.false)
          ∙ ap (λ (xs : List ℕ). other ∷ union_of d xs (drop 1 right)) (sym (c.next.ensures.others ∙ ap (λ (p : Part). drop 1 p.left) c.peek.ensures.same))
          ∙ ap (λ (xs : List ℕ). other ∷ union_of d c.next.new.self.left xs) (sym (c.next-2.ensures.others ∙ ap (λ (p : Part). drop 1 p.left) c.peek-2.ensures.same));
      left_kept = subst (λ (p : Part). KeepsPart p c.next.new.self) c.peek.ensures.same c.next.ensures.kept;
      right_kept = subst (λ (p : Part). KeepsPart p c.next-2.new.self) c.peek-2.ensures.same c.next-2.ensures.kept;
      written = written-more [] from from c.args.out.now c.args.out.now (written-none from c.args.out.now (omega arith)) other (omega arith);
    }
