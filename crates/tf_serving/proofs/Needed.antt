-- A publish needs 42 tables at most: two for each row.
use Rattle.std.proofs.Common.{arith, ◌≤◌, ◌*◌, ◌==◌, ◌≡◌, ℕ, List, [], ◌∷◌, Bool, true, false, Option, length, subst, sym}
use Rattle.std.specs.Prelude.{if◌then◌else◌}
use Rattle.tf_table.specs.declared.key.Key.{Key}
use Rattle.tf_manifest.specs.declared.row.Row.{Row}
use Rattle.tf_manifest.specs.declared.value.Value.{Value}
use Rattle.tf_manifest.specs.RowNames.{rows_in_order}
use Rattle.tf_manifest.specs.View.{View, references_in}
use Rattle.tf_rows.specs.Parts.{Entries}
use Rattle.tf_publish.specs.Tables.{Waits, by_name}
use Rattle.tf_forest.specs.Forest as forest
use Rattle.tf_publish.specs.Publish.{needed_by, needed_for, tables_needed}

one_or_two : (full : Bool) → (if full then 2 else 1) ≤ 2
one_or_two true = omega arith
one_or_two false = omega arith

needed_for_few : (entries : List (Key × Option Value)) (references : ℕ) → needed_for entries references ≤ 2
needed_for_few [] references = omega arith
needed_for_few (entry ∷ entries) references = one_or_two (references == 64)

needed_by_few : (fresh : Entries) (view : View) (rows : List Row) → needed_by fresh view rows ≤ 2 * length rows
needed_by_few fresh view [] = omega arith
needed_by_few fresh view (r ∷ rows) =
    let here : needed_for (fresh r) (references_in view r) ≤ 2 = needed_for_few (fresh r) (references_in view r) in
    let rest : needed_by fresh view rows ≤ 2 * length rows = needed_by_few fresh view rows in
    omega (arith, here, rest)

tables_needed_few : (fresh : Entries) (view : View) → tables_needed fresh view ≤ 42
tables_needed_few fresh view = needed_by_few fresh view rows_in_order

-- so does one of a forest that is seen
pub forest_needs_few : (seen whole : forest.View) → seen ≡ whole → Waits seen.fresh seen.sealed.tables seen.needed seen.waiting → whole.needed ≤ 42
forest_needs_few seen whole is waits =
    let few : tables_needed (by_name seen.fresh) seen.sealed.tables ≤ 42 = tables_needed_few (by_name seen.fresh) seen.sealed.tables in
    subst (λ (v : forest.View). v.needed ≤ 42) is (subst (λ count. count ≤ 42) (sym waits.needed) few)
