use Rattle.std.proofs.Common.{sym, ap, ◌∙◌, bit_or}
use Rattle.std.specs.List.{slice_split}
use Rattle.tf_script.specs.Reader.Tables.{texts_of}
use Rattle.tf_script.specs.Values.{bit_of, bits_with, flags_of}
use Rattle.tf_script.proofs.ValueLemmas.{is_bar, bits_with-unknown, bits_with-more, bits_with-last}
use Rattle.tf_script.proofs.value.flags.Goals as goal

pub returns-in_err-bits : goal.returns-in_err-bits
unfolding flags_of
returns-in_err-bits c =
    let names = texts_of c.args.names.now in
    c.from_residual.ensures
    ∙ sym (bits_with-unknown names c.loop-bits.bits c.loop-bits.rest.now (c.in_err-bits.ensures ∙ ap (bit_of names) c.cut.ensures.front))
    ∙ c.loop-bits.invariant

pub loop-bits-preserved : goal.loop-bits-preserved
loop-bits-preserved c =
    let names = texts_of c.args.names.now in
    let back = rw c.in-Some.is at c.cut.ensures.back in
    ap (λ t. bits_with names (bit_or c.loop-bits.bits c.in_ok-bits.field-0) (slice_split is_bar t)) back.1
    ∙ sym (bits_with-more names c.loop-bits.bits c.in_ok-bits.field-0 c.loop-bits.rest.now (c.in_ok-bits.ensures ∙ ap (bit_of names) c.cut.ensures.front) back.0)
    ∙ c.loop-bits.invariant

pub returns-in-None : goal.returns-in-None
unfolding flags_of
returns-in-None c =
    let names = texts_of c.args.names.now in
    let back = rw c.in-None.is at c.cut.ensures.back in
    sym (bits_with-last names c.loop-bits.bits c.in_ok-bits.field-0 c.loop-bits.rest.now (c.in_ok-bits.ensures ∙ ap (bit_of names) c.cut.ensures.front) back)
    ∙ c.loop-bits.invariant
