-- What an entry changes, as changes of rows one after another.
use Rattle.std.specs.Prelude.{List, map}
use Rattle.std.specs.List.{flat_map}
use Rattle.tf_journal.specs.declared.entry.Entry.{Entry}
use Rattle.tf_manifest.specs.declared.row.Row.{Row}
use Rattle.tf_manifest.specs.RowNames.{rows_in_order}
use Rattle.tf_manifest.specs.Shows.{Content}
use Rattle.tf_rows.specs.declared.change.Change.{Change}
use Rattle.tf_rows.specs.declared.found.Found.{Found}
use Rattle.tf_rows.specs.Edits.{Edit, edits_by, found_for}
use Rattle.tf_rows.specs.Parts.{Parts, value_of_part}

-- what rows have at their keys
abbrev pub content_in : Parts → Content
content_in parts r key = value_of_part (parts r) key

-- an edit of a row
abbrev pub change_of : Row → Edit → Change
change_of r edit = record { row = r; key = edit.0; value = edit.1 }

-- the changes of an entry, row by row, from what was looked up for it
abbrev pub changes_by : Found → Entry → List Change
changes_by found e = flat_map (λ r. map (change_of r) (edits_by found e r)) rows_in_order

-- the changes of a journal's next entry
abbrev pub changes : List Entry → Entry → List Change
changes journal e = changes_by (found_for journal e) e
