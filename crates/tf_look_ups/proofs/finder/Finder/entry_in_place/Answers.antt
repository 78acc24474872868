use Rattle.std.proofs.Common.{◌≡◌, ◌-◌, List, length, Some, refl, slice_get, sym, ◌∙◌, ap, arith}
use Rattle.std.specs.Option.{option_copied}
use Rattle.tf_registry.specs.Table.{Shown}
use Rattle.tf_registry.specs.Row.{lists_of}
use Rattle.tf_manifest.specs.Rows.{key_of}
use Rattle.tf_table.specs.Content.{entry_of}
use Rattle.std.proofs.lemmas.Option.{slice_get_read}
use Rattle.tf_look_ups.proofs.Finding.{entry_in_its_place}
use Rattle.tf_look_ups.proofs.finder.Finder.entry_in_place.Goals as goal

pub returns-in-Some : goal.returns-in-Some
returns-in-Some g c =
    let f = c.self.inside in
    let found = c.in-Some.ensures.lookup in
    let there : slice_get f.entries.now (c.args.timestamp - f.from) ≡ Some (option_copied c.as_ref.result) =
    slice_get_read f.entries.now (length f.entries.now) (c.args.timestamp - f.from) c.in-Some.entry.now refl found.3.0 found.1
    ∙ ap Some (sym c.as_ref.ensures.value) in
    ap (λ (tables : List (Shown g.row.V.Denot)). entry_of (key_of 0 c.args.timestamp) (lists_of tables)) (sym c.self.view_is)
    ∙ entry_in_its_place c.args.timestamp f.place f.from f.part f.entries.now (option_copied c.as_ref.result) (lists_of f.references.now)
    c.self.invariant.1 c.self.invariant.0 (c.has.ensures c.if-not-has.false) (omega arith) there
