use Rattle.std.proofs.Common.{◌<◌, ◌≤◌, ◌∙◌, ap, map, subst, sym}
use Rattle.tf_script.specs.Fields.{names_of}
use Rattle.tf_script.specs.Values.{place_of}
use Rattle.tf_script.specs.Reader.Tables.{field_of}
use Rattle.tf_script.proofs.FieldLemmas.{assignment-taken, assignment-unknown, assignment-unparted, assignment-unvalued, greatest_at-map}
use Rattle.tf_script.proofs.field.read_assignment.Goals as goal

pub returns-clause-fits : goal.returns-clause-fits
returns-clause-fits c =
    subst (λ greatest. c.in_ok-value.value ≤ greatest)
    (sym (greatest_at-map c.args.table.now c.in_ok-place.place _ c.in_ok-place.ensures.within))
    c.in_ok-value.ensures.fits

pub returns-in_err-text-clause-value : goal.returns-in_err-text-clause-value
returns-in_err-text-clause-value c =
    let back = rw c.in_err-text.was at c.cut.ensures.back in
    c.from_residual.ensures ∙ sym (assignment-unparted (map field_of c.args.table.now) c.args.values.now c.args.text.now back)

pub returns-in_err-place-clause-value : goal.returns-in_err-place-clause-value
returns-in_err-place-clause-value c =
    let fields = map field_of c.args.table.now in
    let back = rw c.in_ok-text.was at c.cut.ensures.back in
    c.from_residual-in_err-place.ensures
    ∙ sym (assignment-unknown fields c.args.values.now c.args.text.now back.0 (c.in_err-place.ensures.value ∙ ap (place_of (names_of fields)) c.cut.ensures.front))

pub returns-then-is_some-clause-value : goal.returns-then-is_some-clause-value
returns-then-is_some-clause-value c =
    let fields = map field_of c.args.table.now in
    let back = rw c.in_ok-text.was at c.cut.ensures.back in
    sym (assignment-taken fields c.args.values.now c.args.text.now c.in_ok-place.place back.0
    (c.in_ok-place.ensures.value ∙ ap (place_of (names_of fields)) c.cut.ensures.front)
    (subst (λ n. c.in_ok-place.place < n) (sym c.requires.values) c.in_ok-place.ensures.within) (sym c.if-is_some.ensures))

pub returns-in_err-value-clause-value : goal.returns-in_err-value-clause-value
returns-in_err-value-clause-value c =
    let back = rw c.in_ok-text.was at c.cut.ensures.back in
    c.from_residual-in_err-value.ensures
    ∙ sym (assignment-unvalued c.args.table.now c.args.values.now c.args.text.now c.in_ok-text.text.now c.in_ok-place.place _ back.0 back.1
    (c.in_ok-place.ensures.value ∙ ap (place_of (names_of (map field_of c.args.table.now))) c.cut.ensures.front)
    c.in_ok-place.ensures.within c.in_err-value.ensures.value)
