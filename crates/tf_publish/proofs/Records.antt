-- Transfers' records in mutable tables, and in the rows that these make in front of the sealed tables of a manifest.
use Rattle.std.proofs.Common.{◌≡◌, ◌⊎◌, Option, None, false, IsTrue, refl, sym, ◌∙◌, ap, inl, inr, true≢false}
use Rattle.std.proofs.Math.Path.{fun_ext}
use Rattle.tf_records.specs.declared.transfer.Transfer.{Transfer}
use Rattle.tf_manifest.specs.declared.row.Row.{Row}
use Rattle.tf_manifest.specs.declared.row.Row.TheVariants as row
use Rattle.tf_manifest.specs.View.{View}
use Rattle.tf_rows.specs.Changes.{CanChangeAll, CanTakeRecord, all_changed, without_record}
use Rattle.tf_rows.specs.Nest.{IsTree, fits_row, has_each}
use Rattle.tf_rows.specs.Parts.{Entries, Parts, parts_of}
use Rattle.tf_rows.specs.Record.{IsFree, PutsTransfer, record_changes, record_edit, with_edit, without_edit}
use Rattle.tf_publish.proofs.Sealed.{with_fresh}

-- a log takes an entry for a key that has none
free_in_log : {E : Type 0} (entry : Option E) → (entry ≡ None) ⊎ IsTrue false → entry ≡ None
free_in_log entry (inl none) = none
free_in_log entry (inr tree) = absurd (true≢false (sym tree))

module _ (t : Transfer) where
  -- each row after the changes of a record
  changed_by_record : (parts : Parts) (r : Row) → all_changed (record_changes t) parts r ≡ record (parts r) { fresh = with_edit (record_edit t r) (parts r).fresh }
  changed_by_record parts row.TransferObjects = refl
  changed_by_record parts _ = refl

  module _ (view : View) where
    -- rows in which the changes of a record can be made have none of its keys
    pub free_for_record : (fresh : Entries) → CanChangeAll has_each fits_row IsTree (record_changes t) (parts_of fresh view) → (r : Row) → IsFree (record_edit t r) (fresh r)
    free_for_record fresh can row.TransferObjects = free_in_log _ can.0.new
    free_for_record fresh can row.TransferDebit = free_in_log _ can.1.0.new
    free_for_record fresh can row.TransferCredit = free_in_log _ can.1.1.0.new
    free_for_record fresh can row.TransferUserData128 = free_in_log _ can.1.1.1.0.new
    free_for_record fresh can row.TransferUserData64 = free_in_log _ can.1.1.1.1.0.new
    free_for_record fresh can row.TransferUserData32 = free_in_log _ can.1.1.1.1.1.0.new
    free_for_record fresh can row.TransferLedger = free_in_log _ can.1.1.1.1.1.1.0.new
    free_for_record fresh can row.TransferCode = free_in_log _ can.1.1.1.1.1.1.1.0.new
    free_for_record fresh can _ = tt

    -- a record that was put into mutable tables
    module _ (old new : Entries) (puts : PutsTransfer t old new) where
      pub record_put : parts_of new view ≡ all_changed (record_changes t) (parts_of old view)
      record_put = fun_ext (λ (r : Row). ap (with_fresh view r) (puts.puts r) ∙ sym (changed_by_record (parts_of old view) r))

      pub record_there : CanTakeRecord has_each fits_row IsTree t (parts_of new view)
      record_there = record { held = λ r of. refl; there = puts.there }

      pub record_restores : without_record t (parts_of new view) ≡ parts_of old view
      record_restores = fun_ext (λ (r : Row). ap (with_fresh view r) (puts.restores r))

    -- a record that was taken away
    pub record_taken : (old new : Entries) → ((r : Row) → new r ≡ without_edit (record_edit t r) (old r)) → parts_of new view ≡ without_record t (parts_of old view)
    record_taken old new taken = fun_ext (λ (r : Row). ap (with_fresh view r) (taken r))
