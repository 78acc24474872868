use Rattle.std.proofs.Common.{◌≡◌, [], ◌∷◌, ◌++◌, false, subst}
use Rattle.std.specs.Prelude.{IsSome}
use Rattle.std.specs.List.{All}
use Rattle.tf_journal.proofs.Sound.{sound_push}
use Rattle.tf_manifest.proofs.Members.{Has}
use Rattle.tf_manifest.specs.RowNames.{rows_in_order}
use Rattle.tf_manifest.specs.Shows.{value_of}
use Rattle.tf_rows.specs.declared.change.Change.{Change}
use Rattle.tf_rows.specs.Edits.{Edit, edits, found_for}
use Rattle.tf_rows.specs.Nest.{is_tree}
use Rattle.tf_rows.specs.Next.{changes}
use Rattle.tf_rows.proofs.CanChange.{all_rows_stand, can_rows, value_changes}
use Rattle.tf_rows.proofs.EditsOfRows.{are_new, back_is_gone, edits_of, edits_once, has_of}
use Rattle.tf_rows.proofs.Next.{from_edit}
use Rattle.tf_rows.proofs.additions.next_entry_can_be_added.Goals as goal

pub returns-clause-can : goal.returns-clause-can
returns-clause-can c rows journal e sound grows shows values =
    can_rows (edits journal e) 0 rows_in_order rows all_rows_stand (λ r listed. record {
      of = edits_of (found_for journal e) e r;
      log = λ log. (
        edits_once journal e (c.transfers_have_their_accounts.ensures (journal ++ e ∷ []) (sound_push journal e sound grows)) r log,
        are_new journal r (rows r) (edits journal e r)
            (subst (All (λ (edit : Edit). value_of journal r edit.0 ≡ edit.1)) (back_is_gone journal e r log) (c.rows_go_back_by_edits.ensures.agree journal e sound grows r))
            (shows r) (values r log),
      );
    })

pub returns-clause-values : goal.returns-clause-values
returns-clause-values c rows journal e values =
    value_changes (changes journal e) rows some values where
      some : (change : Change) → Has (changes journal e) change → is_tree change.row ≡ false → IsSome change.value
      some change has log =
          (has_of change.row (edits journal e change.row) (change.key, change.value) (edits_of (found_for journal e) e change.row)
          (from_edit (edits journal e) rows_in_order change has)).1 log
