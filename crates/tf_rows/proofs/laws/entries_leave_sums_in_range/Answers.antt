use Rattle.std.proofs.Common.{◌≡◌, List, [], ◌∷◌, ◌++◌}
use Rattle.std.specs.Option.{option_map_or}
use Rattle.tf_journal.specs.declared.entry.Entry.TheVariants as entry
use Rattle.tf_journal.specs.declared.side.Side.{Side}
use Rattle.tf_journal.specs.declared.side.Side.TheVariants.{Debit, Credit}
use Rattle.tf_journal.proofs.Sound.{sound_push}
use Rattle.tf_manifest.specs.declared.row.Row.TheVariants as row
use Rattle.tf_manifest.specs.Shows.{value_of}
use Rattle.tf_manifest.proofs.Members.{all_has, has_left, has_right}
use Rattle.tf_rows.specs.Edits.{Edit, found_for, state_after, state_edit}
use Rattle.tf_rows.proofs.InRange.{edit_fits}
use Rattle.tf_rows.proofs.laws.entries_leave_sums_in_range.Goals as goal

pub returns : goal.returns
returns c journal (entry.Account account) sound grows = tt
returns c journal (entry.Expiry timestamp pending) sound grows = tt
returns c journal (entry.Failed timestamp id) sound grows = tt
returns c journal (entry.Transfer t) sound grows =
    let after = journal ++ entry.Transfer t ∷ [] in
    let after_sound = sound_push journal (entry.Transfer t) sound grows in
    let limits = c.journals_are_within_limits.ensures after after_sound in
    let found = found_for journal (entry.Transfer t) in
    let change = λ (side : Side). state_after side t found.settled in
    let debits : List Edit = option_map_or (state_edit (change Debit)) found.debit [] in
    let credits : List Edit = option_map_or (state_edit (change Credit)) found.credit [] in
    let right = all_has (λ (edit : Edit). value_of after row.AccountSums edit.0 ≡ edit.1) (debits ++ credits) in
    let agree = c.rows_change_by_edits.ensures.agree journal (entry.Transfer t) sound grows row.AccountSums in
    record {
      debit = edit_fits c.rows_are_maps.ensures after after_sound limits Debit (change Debit) found.debit
          (λ edit has. right edit agree (has_left debits credits edit has));
      credit = edit_fits c.rows_are_maps.ensures after after_sound limits Credit (change Credit) found.credit
          (λ edit has. right edit agree (has_right debits credits edit has));
    }
