use Rattle.std.proofs.Common.{◌≡◌, true, get_or, sym, ap, ◌∙◌}
use Rattle.std.specs.Str.{bytes_eq}
use Rattle.tf_script.proofs.ValueLemmas.{position_from-map, position_from-found, position_from-end}
use Rattle.tf_script.proofs.table.place.Goals as goal

pub returns-then-eq-clause-value : goal.returns-then-eq-clause-value
returns-then-eq-clause-value g c =
    let name_of = g.T.Named.name_of in
    let here : bytes_eq (name_of (get_or c.args.table.now c.loop-place.place c.index-table-place.result)) c.args.name.now ≡ true =
    sym (ap (λ entry. bytes_eq (name_of entry) c.args.name.now) c.index-table-place.is)
    ∙ sym (ap (λ n. bytes_eq n c.args.name.now) c.name.ensures) ∙ sym c.eq.ensures ∙ c.if-eq.true in
    sym (position_from-map (λ n. bytes_eq n c.args.name.now) name_of 0 c.args.table.now ∙ sym c.loop-place.invariant
    ∙ position_from-found _ c.args.table.now c.loop-place.place _ c.loop-place-test.true here)

pub returns-clause-value : goal.returns-clause-value
returns-clause-value g c =
    sym (position_from-map (λ n. bytes_eq n c.args.name.now) g.T.Named.name_of 0 c.args.table.now ∙ sym c.loop-place.invariant
    ∙ position_from-end _ c.args.table.now c.loop-place.place c.loop-place-test.false)
