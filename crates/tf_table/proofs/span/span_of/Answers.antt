use Rattle.std.proofs.Common.{map, get_or, refl, arith, sym, ◌∙◌, ap}
use Rattle.std.proofs.lemmas.List.{get_or-map, length-map}
use Rattle.tf_table.specs.declared.key.Key.{Key}
use Rattle.tf_table.specs.declared.span.Span.{Span}
use Rattle.tf_table.proofs.Times.{spans_start, spans_more, spans_all}
use Rattle.tf_table.proofs.span.span_of.Goals as goal

pub loop-key-init : goal.loop-key-init
loop-key-init c =
    let keys = c.args.keys.now in
    let f = λ (key : Key). key.timestamp in
    let key = c.in-Some.key.now in
    let span : Span = record { earliest = key.timestamp; latest = key.timestamp } in
    let some = c.in-Some.ensures.item.3.0 in
    spans_start span (map f keys) key.timestamp (omega (arith, length-map keys f)) (ap f c.in-Some.ensures.item.1 ∙ sym (get_or-map f keys 0 key key.timestamp some)) refl refl

pub loop-key-preserved : goal.loop-key-preserved
loop-key-preserved c =
    let keys = c.args.keys.now in
    let f = λ (key : Key). key.timestamp in
    let i = c.loop-key.key-index in
    let least : Key = record { value = 0; timestamp = 0 } in
    let t = (get_or keys i least).timestamp in
    spans_more c.loop-key.span c.with-span.result (map f keys) i t (omega (arith, length-map keys f)) (sym (get_or-map f keys i least t (omega arith))) c.with-span.ensures.earliest c.with-span.ensures.latest c.loop-key.invariant

pub returns : goal.returns
returns c =
    let times = map (λ (key : Key). key.timestamp) c.args.keys.now in
    spans_all c.loop-key.span times c.loop-key.key-index (omega (arith, length-map c.args.keys.now (λ (key : Key). key.timestamp))) c.loop-key.invariant
