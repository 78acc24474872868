use Rattle.std.proofs.Common.{◌∙◌, ap, arith}
use Rattle.tf_table.specs.Filter.{place_of, bits_of}
use Rattle.tf_table.proofs.Filters.{value_set, value_kept}
use Rattle.tf_table.proofs.filter.put.Goals as goal

pub returns-then-place-len-clause-value : goal.returns-then-place-len-clause-value
returns-then-place-len-clause-value g c =
    let words = c.args.words.now.items in
    let len = c.len.ensures ∙ c.args.words.now.ok.0 in
    value_set words c.place-place.result c.index_mut.result.now c.bits.result (omega (arith, len)) c.index_mut.ensures.value c.args.count c.args.value
    (c.place-place.ensures ∙ ap (place_of c.args.count) c.hash-hash.ensures) (c.bits.ensures ∙ ap bits_of c.hash-hash.ensures)

pub returns-then-place-len-clause-others : goal.returns-then-place-len-clause-others
returns-then-place-len-clause-others g c = λ other h.
    let len = c.len.ensures ∙ c.args.words.now.ok.0 in
    value_kept c.args.words.now.items c.place-place.result c.index_mut.result.now c.bits.result (omega (arith, len)) c.index_mut.ensures.value c.args.count other h
