use Rattle.std.proofs.Common.{◌∷◌, List, ℕ, [], ◌∙◌, ap, arith, set, ◌+◌}
use Rattle.tf_scan.specs.Place.{lists_left}
use Rattle.tf_scan.specs.Prefix.{prefix_of}
use Rattle.tf_scan.proofs.Moves.{written-none, written-more, written-both, first-split}
use Rattle.tf_scan.proofs.places.take_some.Goals as goal

pub returns-clause-moved : goal.returns-clause-moved
returns-clause-moved g c =
    let d = c.args.direction in
    let v = c.args.value in
    let out = c.args.out.now in
    let from = c.args.from in
    let t = c.in-Some.timestamp in
    let run = c.take_turn.ensures.moved v c.next.ensures.right in
    let one = written-more [] from from out out (written-none from out (omega arith)) t (omega arith) in
    record {
      ts = t ∷ run.ts;
      right = run.right;
      front =
          first-split (prefix_of d v (lists_left d v c.args.places.now)) (prefix_of d v (lists_left d v c.next.new.places)) t c.in-Some.ensures.first c.next.ensures.others
          ∙ ap (λ (ts : List ℕ). t ∷ ts) run.front;
      written = written-both (t ∷ []) from (from + 1) out (set out from t) one run.ts c.take_turn.result c.take_turn.new.out run.written;
    }

pub returns-clause-none : goal.returns-clause-none
returns-clause-none g c =
    let run = c.take_turn.ensures.moved c.args.value c.next.ensures.right in
    λ e. absurd (omega (arith, run.written.count, e))
