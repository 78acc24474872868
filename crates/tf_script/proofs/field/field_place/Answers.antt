use Rattle.std.proofs.Common.{map, sym, ◌∙◌}
use Rattle.std.specs.Str.{bytes_eq}
use Rattle.tf_script.specs.Fields.{Field}
use Rattle.tf_script.specs.Reader.Tables.{field_of}
use Rattle.tf_script.specs.declared.field.FieldEntry.{FieldEntry}
use Rattle.tf_script.proofs.ValueLemmas.{position_from-map}
use Rattle.tf_script.proofs.field.field_place.Goals as goal

pub returns-clause-value : goal.returns-clause-value
returns-clause-value c =
    let name = c.args.name.now in
    let table = c.args.table.now in
    c.place.ensures.value
    ∙ position_from-map (λ n. bytes_eq n name) (λ (entry : FieldEntry). entry.name.now) 0 table
    ∙ sym (position_from-map (λ n. bytes_eq n name) (λ (field : Field). field.name) 0 (map field_of table)
    ∙ position_from-map (λ (field : Field). bytes_eq field.name name) field_of 0 table)
