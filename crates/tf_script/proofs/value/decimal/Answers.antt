use Rattle.std.proofs.Common.{◌+◌, ◌<◌, drop, fold, get_or, sym, ◌∙◌, arith}
use Rattle.std.proofs.lemmas.List.{at_drop_more}
use Rattle.tf_script.specs.Values.{decimal}
use Rattle.tf_script.proofs.ValueLemmas.{next_digit, fold-next_digit-ge, at_most-above}
use Rattle.tf_script.proofs.value.decimal.Goals as goal

pub returns-in_err-checked_mul-clause-value : goal.returns-in_err-checked_mul-clause-value
returns-in_err-checked_mul-clause-value c =
    let i = c.loop-byte.byte-index in
    let digits = c.args.digits.now in
    let step = at_drop_more (fold next_digit c.loop-byte.number) digits i 0 c.loop-byte-test.true in
    let grows = fold-next_digit-ge (next_digit c.loop-byte.number (get_or digits i 0)) (drop (i + 1) digits) in
    let above : c.args.greatest < decimal digits = omega (arith, step, grows, c.loop-byte.invariant, c.in_err-checked_mul.ensures) in
    c.from_residual.ensures ∙ sym (at_most-above c.args.greatest (decimal digits) above)

pub returns-in_err-number-clause-value : goal.returns-in_err-number-clause-value
returns-in_err-number-clause-value c =
    let i = c.loop-byte.byte-index in
    let digits = c.args.digits.now in
    let step = at_drop_more (fold next_digit c.loop-byte.number) digits i 0 c.loop-byte-test.true in
    let grows = fold-next_digit-ge (next_digit c.loop-byte.number (get_or digits i 0)) (drop (i + 1) digits) in
    let above : c.args.greatest < decimal digits = omega (arith, step, grows, c.loop-byte.invariant, c.in_ok-checked_mul.ensures, c.from.ensures, c.in_err-number.ensures) in
    c.from_residual-in_err-number.ensures ∙ sym (at_most-above c.args.greatest (decimal digits) above)
