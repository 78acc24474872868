use Rattle.std.proofs.Common.{rules, ◌≡◌, Ok, Err, sym, ap, ◌∙◌}
use Rattle.tf_script.specs.Fields.{values_of}
use Rattle.tf_script.specs.Statements.{◌<&>◌}
use Rattle.tf_script.specs.Reader.WordViews.{words_of}
use Rattle.tf_script.proofs.FieldLemmas.{values_of-table}
use Rattle.tf_script.proofs.record.by_fields.Goals as goal

pub returns-in_err-assign : goal.returns-in_err-assign
returns-in_err-assign g c =
    let fault : (values_of g.R.Record.format.fields (words_of c.args.words) <&> g.R.Record.format.from_values) ≡ Err c.in_err-assign.field-0.0 =
    ap (λ values. values <&> g.R.Record.format.from_values)
    (sym (values_of-table c.fields-table.result.now _ (words_of c.args.words) c.fields-table.ensures.table c.fields-table.ensures.few) ∙ c.in_err-assign.ensures.value) in
    rw fault (search rules)

pub returns : goal.returns
returns g c =
    ap Ok c.from_values.ensures
    ∙ sym (ap (λ values. values <&> g.R.Record.format.from_values)
    (sym (values_of-table c.fields-table.result.now _ (words_of c.args.words) c.fields-table.ensures.table c.fields-table.ensures.few) ∙ c.in_ok-assign.ensures.value))
