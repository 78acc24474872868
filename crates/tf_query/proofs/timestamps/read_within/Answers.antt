use Rattle.std.proofs.Common.{◌≡◌, ◌-◌, [], ◌∙◌, ◌++◌, ap, arith, subst, sym, take}
use Rattle.std.proofs.lemmas.List.{append-nil}
use Rattle.tf_scan.specs.declared.direction.Direction.{Direction}
use Rattle.tf_query.specs.Reading.{AreFrom, IsPart, all_within}
use Rattle.tf_query.proofs.Reading.{part-in, read-more, read-next}
use Rattle.tf_query.proofs.timestamps.read_within.Goals as goal

pub loop-count-preserved : goal.loop-count-preserved
loop-count-preserved g c =
    let part = part-in _ _ c.args.window.now _ c.read_part-count-in-loop-count.result _ _ _ c.loop-count.invariant.direction c.read_part-count-in-loop-count.ensures.part in
    record {
      direction = c.read_part-count-in-loop-count.ensures.direction ∙ c.loop-count.invariant.direction;
      read = read-next _ c.args.window.now c.loop-count.count _ 256 _ _ _ _ _ _ _ c.loop-count.invariant.read (omega arith) part (omega arith) c.in-Ok-extend_from_slice-2.ensures.items;
    }

pub read_part-count-requires : goal.read_part-count-requires
read_part-count-requires g c = subst (λ (d : Direction). AreFrom d c.args.window.now c.seek_first.new.scan.left) (sym c.seek_first.ensures.direction) c.seek_first.ensures.from

pub read_part-count-requires-in-loop-count : goal.read_part-count-requires-in-loop-count
read_part-count-requires-in-loop-count g c = subst (λ (d : Direction). AreFrom d c.args.window.now c.loop-count.scan.left) (sym c.loop-count.invariant.direction) c.loop-count.invariant.read.left_from

pub returns-clause-ok : goal.returns-clause-ok
returns-clause-ok g c =
    let read = c.loop-count.invariant.read in
    sym (append-nil _) ∙ ap (λ ts. c.loop-count.timestamps.items ++ ts) (sym (read.ends (omega (arith, read.inside, c.loop-count-test.false)))) ∙ read.joined

pub returns-clause-in_order : goal.returns-clause-in_order
returns-clause-in_order g c = c.seek_first.ensures.in_order

pub returns-clause-refusal : goal.returns-clause-refusal
returns-clause-refusal g c = tt

pub loop-count-init : goal.loop-count-init
loop-count-init g c =
    let w = c.args.window.now in
    let was = c.seek_first.new.scan.left in
    let all : w.most ≡ w.most - 0 = omega arith in
    let part = part-in _ _ w _ c.read_part-count.result _ _ _ c.seek_first.ensures.direction c.read_part-count.ensures.part in
    record {
      direction = c.read_part-count.ensures.direction ∙ c.seek_first.ensures.direction;
      read = read-more _ w c.read_part-count.result 256 _ [] _ was _ _ (omega arith) (ap (λ n. take n (all_within w was)) (sym all) ∙ ap (take w.most) c.seek_first.ensures.same)
          (subst (λ n. IsPart c.args.scan.now.direction w n c.read_part-count.result c.read_part-count.new.part was c.read_part-count.new.scan.left) all part)
          (omega arith) (c.in-Ok-extend_from_slice.ensures.items ∙ ap (λ ts. ts ++ take c.read_part-count.result c.read_part-count.new.part) c.in-Ok.ensures.empty);
    }
