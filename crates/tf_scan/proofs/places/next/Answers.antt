use Rattle.std.proofs.Common.{◌≡◌, ◌∷◌, drop, ap, sym, ◌∙◌}
use Rattle.std.specs.Prelude.{slice_get}
use Rattle.tf_scan.specs.Place.{lists_left}
use Rattle.tf_scan.specs.Prefix.{prefix_of}
use Rattle.tf_scan.proofs.Across.{takes-right, takes-fewer, end-prefix, taken-first, taken-pass, has-entry}
use Rattle.tf_scan.proofs.places.next.Given as given
use Rattle.tf_scan.proofs.places.next.Goals as goal

pub returns-then-is_some-clause-right : goal.returns-then-is_some-clause-right
returns-then-is_some-clause-right g c = takes-right c.args.direction c.args.value c.in-Some.timestamp c.loop-timestamp.places c.take-entry.new.places c.take-entry.ensures.taken

-- the timestamp stands before what is left
front : (g : given.Over) (c : goal.Then-is_some g) → prefix_of c.args.direction c.args.value (lists_left c.args.direction c.args.value c.args.places.now) ≡ c.in-Some.timestamp ∷ prefix_of c.args.direction c.args.value (lists_left c.args.direction c.args.value c.take-entry.new.places)
front g c =
    let has = has-entry c.args.direction c.args.value c.in-Some.timestamp c.loop-timestamp.places c.take-entry.result c.flatten.result c.is_some.result c.take-entry.ensures.entry c.flatten.ensures c.is_some.ensures ∙ c.if-is_some.true in
    sym c.loop-timestamp.invariant.same ∙ taken-first c.args.direction c.args.value c.in-Some.timestamp c.loop-timestamp.places c.take-entry.new.places c.take-entry.ensures.taken c.loop-timestamp.invariant.right c.in-Some.ensures has

pub returns-then-is_some-clause-first : goal.returns-then-is_some-clause-first
returns-then-is_some-clause-first g c = sym (ap (λ ts. slice_get ts 0) (front g c))

pub returns-then-is_some-clause-others : goal.returns-then-is_some-clause-others
returns-then-is_some-clause-others g c = sym (ap (drop 1) (front g c))

pub loop-timestamp-smaller : goal.loop-timestamp-smaller
loop-timestamp-smaller g c = takes-fewer c.args.direction c.args.value c.in-Some.timestamp c.loop-timestamp.places c.take-entry.new.places c.take-entry.ensures.taken c.in-Some.ensures

pub loop-timestamp-preserved : goal.loop-timestamp-preserved
loop-timestamp-preserved g c =
    let has = has-entry c.args.direction c.args.value c.in-Some.timestamp c.loop-timestamp.places c.take-entry.result c.flatten.result c.is_some.result c.take-entry.ensures.entry c.flatten.ensures c.is_some.ensures ∙ c.if-is_some.false in
    record {
      right = takes-right c.args.direction c.args.value c.in-Some.timestamp c.loop-timestamp.places c.take-entry.new.places c.take-entry.ensures.taken;
      turn = c.take-entry.ensures.turn;
      same = taken-pass c.args.direction c.args.value c.in-Some.timestamp c.loop-timestamp.places c.take-entry.new.places c.take-entry.ensures.taken has ∙ c.loop-timestamp.invariant.same;
    }

pub returns-clause-first : goal.returns-clause-first
returns-clause-first g c =
    sym (ap (λ ts. slice_get ts 0) (sym c.loop-timestamp.invariant.same ∙ end-prefix c.args.direction c.args.value c.loop-timestamp.places c.loop-timestamp.invariant.right c.in_default.ensures))

pub returns-clause-others : goal.returns-clause-others
returns-clause-others g c =
    let none = end-prefix c.args.direction c.args.value c.loop-timestamp.places c.loop-timestamp.invariant.right c.in_default.ensures in
    none ∙ sym (ap (drop 1) (sym c.loop-timestamp.invariant.same ∙ none))
