use Rattle.std.proofs.Common.{[], refl, sym, ◌∙◌, ap, IfOk, IfSome, IsTrue}
use Rattle.tf_manifest.specs.declared.kind.Kind.TheVariants as kind
use Rattle.tf_manifest.specs.declared.kind.StampRow.TheVariants as stamp
use Rattle.tf_mutable_rows.proofs.Fresh.{expiry_read, expiry_set, index_is_log, index_not_single, index_read, index_set, keeps, objects_not_single, of_kind, of_row, puts, takes_new, units_become, units_many}
use Rattle.tf_mutable_rows.proofs.mutable_tables.MutableTablesMutableRows.put.Goals as goal

pub returns-in-Stamp-AccountIds-clause-put : goal.returns-in-Stamp-AccountIds-clause-put
returns-in-Stamp-AccountIds-clause-put g c = puts _ c.args.self.now c.self.view_is c.args.row (kind.Stamp stamp.AccountIds) (ap kind.Stamp (sym c.in-Stamp-AccountIds.field-0-is) ∙ c.in-Stamp-AccountIds.ensures) _ refl (record { stamps = refl; units = units_many _ c.self.inside.transfers _ c.self.invariant }) _ _ refl c.args.key c.args.entry.now _ c.put_entry.ensures.rows c.put_entry.ensures.there c.put_entry.ensures.restores

pub returns-in-Stamp-AccountIds-clause-err : goal.returns-in-Stamp-AccountIds-clause-err
returns-in-Stamp-AccountIds-clause-err g c = keeps _ c.args.self.now c.self.view_is c.args.row (kind.Stamp stamp.AccountIds) (ap kind.Stamp (sym c.in-Stamp-AccountIds.field-0-is) ∙ c.in-Stamp-AccountIds.ensures) _ refl (record { stamps = refl; units = units_many _ c.self.inside.transfers _ c.self.invariant }) _ _ refl _ c.put_entry.ensures.err

pub put_entry-requires-in-Stamp-ExpiryEntries-clause-takes : goal.put_entry-requires-in-Stamp-ExpiryEntries-clause-takes
put_entry-requires-in-Stamp-ExpiryEntries-clause-takes g c = takes_new _ c.args.self.now c.self.view_is c.args.row (kind.Stamp stamp.ExpiryEntries) (ap kind.Stamp (sym c.in-Stamp-ExpiryEntries.field-0-is) ∙ c.in-Stamp-ExpiryEntries.ensures) _ refl c.args.key refl c.requires.new

pub returns-in-Stamp-ExpiryEntries-clause-put : goal.returns-in-Stamp-ExpiryEntries-clause-put
returns-in-Stamp-ExpiryEntries-clause-put g c = puts _ c.args.self.now c.self.view_is c.args.row (kind.Stamp stamp.ExpiryEntries) (ap kind.Stamp (sym c.in-Stamp-ExpiryEntries.field-0-is) ∙ c.in-Stamp-ExpiryEntries.ensures) _ refl (record { stamps = refl; units = units_many _ c.self.inside.transfers _ c.self.invariant }) _ _ refl c.args.key c.args.entry.now _ c.put_entry-in-Stamp-ExpiryEntries.ensures.rows c.put_entry-in-Stamp-ExpiryEntries.ensures.there c.put_entry-in-Stamp-ExpiryEntries.ensures.restores

pub returns-in-Stamp-ExpiryEntries-clause-err : goal.returns-in-Stamp-ExpiryEntries-clause-err
returns-in-Stamp-ExpiryEntries-clause-err g c = keeps _ c.args.self.now c.self.view_is c.args.row (kind.Stamp stamp.ExpiryEntries) (ap kind.Stamp (sym c.in-Stamp-ExpiryEntries.field-0-is) ∙ c.in-Stamp-ExpiryEntries.ensures) _ refl (record { stamps = refl; units = units_many _ c.self.inside.transfers _ c.self.invariant }) _ _ refl _ c.put_entry-in-Stamp-ExpiryEntries.ensures.err

pub put_entry-requires-in-Account-clause-takes : goal.put_entry-requires-in-Account-clause-takes
put_entry-requires-in-Account-clause-takes g c = takes_new _ c.args.self.now c.self.view_is c.args.row kind.Account c.in-Account.ensures _ refl c.args.key refl c.requires.new

pub returns-in-Account-clause-put : goal.returns-in-Account-clause-put
returns-in-Account-clause-put g c = puts _ c.args.self.now c.self.view_is c.args.row kind.Account c.in-Account.ensures _ refl (record { stamps = refl; units = units_many _ c.self.inside.transfers _ c.self.invariant }) _ _ refl c.args.key c.args.entry.now _ c.put_entry-in-Account.ensures.rows c.put_entry-in-Account.ensures.there c.put_entry-in-Account.ensures.restores

pub returns-in-Account-clause-err : goal.returns-in-Account-clause-err
returns-in-Account-clause-err g c = keeps _ c.args.self.now c.self.view_is c.args.row kind.Account c.in-Account.ensures _ refl (record { stamps = refl; units = units_many _ c.self.inside.transfers _ c.self.invariant }) _ _ refl _ c.put_entry-in-Account.ensures.err

pub returns-in-Id-clause-put : goal.returns-in-Id-clause-put
returns-in-Id-clause-put g c = puts _ c.args.self.now c.self.view_is c.args.row kind.Id c.in-Id.ensures _ refl (record { stamps = refl; units = units_many _ c.self.inside.transfers _ c.self.invariant }) _ _ refl c.args.key c.args.entry.now _ c.put_entry-in-Id.ensures.rows c.put_entry-in-Id.ensures.there c.put_entry-in-Id.ensures.restores

pub returns-in-Id-clause-err : goal.returns-in-Id-clause-err
returns-in-Id-clause-err g c = keeps _ c.args.self.now c.self.view_is c.args.row kind.Id c.in-Id.ensures _ refl (record { stamps = refl; units = units_many _ c.self.inside.transfers _ c.self.invariant }) _ _ refl _ c.put_entry-in-Id.ensures.err

pub put_in_one-requires-clause-takes : goal.put_in_one-requires-clause-takes
put_in_one-requires-clause-takes g c = takes_new _ c.args.self.now c.self.view_is c.args.row (kind.Unit c.in-Unit.row) c.in-Unit.ensures _ (index_read _ _ _ c.in-Unit.row c.in-OfAccounts.at [] _ c.in-OfAccounts.ensures.0 c.in-OfAccounts.ensures.1 c.self.invariant c.as_mut_slice.ensures.value refl) c.args.key (index_is_log c.in-Unit.row c.in-OfAccounts.at c.in-OfAccounts.ensures.0 c.in-OfAccounts.ensures.1) c.requires.new

pub put_in_one-requires-clause-fits : goal.put_in_one-requires-clause-fits
put_in_one-requires-clause-fits g c = of_kind _ c.args.self.now c.self.view_is c.args.row (kind.Unit c.in-Unit.row) c.in-Unit.ensures _ (index_read _ _ _ c.in-Unit.row c.in-OfAccounts.at [] _ c.in-OfAccounts.ensures.0 c.in-OfAccounts.ensures.1 c.self.invariant c.as_mut_slice.ensures.value refl) (λ holds. IfSome c.args.entry.now (λ value. IsTrue (holds value))) c.requires.fits

pub returns-in-OfAccounts-clause-put : goal.returns-in-OfAccounts-clause-put
returns-in-OfAccounts-clause-put g c = puts _ c.args.self.now c.self.view_is c.args.row (kind.Unit c.in-Unit.row) c.in-Unit.ensures _ (index_read _ _ _ c.in-Unit.row c.in-OfAccounts.at [] _ c.in-OfAccounts.ensures.0 c.in-OfAccounts.ensures.1 c.self.invariant c.as_mut_slice.ensures.value refl) (record { stamps = refl; units = units_many _ c.self.inside.transfers _ c.self.invariant }) _ _ (units_become _ c.in-Unit.row _ _ (index_set _ _ _ _ c.in-Unit.row c.in-OfAccounts.at _ c.in-OfAccounts.ensures.0 c.in-OfAccounts.ensures.1 c.self.invariant c.as_mut_slice.ensures.value c.put_in_one.ensures.others)) c.args.key c.args.entry.now _ c.put_in_one.ensures.rows c.put_in_one.ensures.there c.put_in_one.ensures.restores

pub returns-in-OfAccounts-clause-kind : goal.returns-in-OfAccounts-clause-kind
returns-in-OfAccounts-clause-kind g c = of_row _ c.args.self.now c.self.view_is c.args.row (kind.Unit c.in-Unit.row) c.in-Unit.ensures _ (index_read _ _ _ c.in-Unit.row c.in-OfAccounts.at [] _ c.in-OfAccounts.ensures.0 c.in-OfAccounts.ensures.1 c.self.invariant c.as_mut_slice.ensures.value refl) (λ holds. IfOk c.put_in_one.result (λ before. IfSome before (λ entry. IfSome entry (λ value. IsTrue (holds value))))) c.put_in_one.ensures.held

pub returns-in-OfAccounts-clause-err : goal.returns-in-OfAccounts-clause-err
returns-in-OfAccounts-clause-err g c = keeps _ c.args.self.now c.self.view_is c.args.row (kind.Unit c.in-Unit.row) c.in-Unit.ensures _ (index_read _ _ _ c.in-Unit.row c.in-OfAccounts.at [] _ c.in-OfAccounts.ensures.0 c.in-OfAccounts.ensures.1 c.self.invariant c.as_mut_slice.ensures.value refl) (record { stamps = refl; units = units_many _ c.self.inside.transfers _ c.self.invariant }) _ _ (units_become _ c.in-Unit.row _ _ (index_set _ _ _ _ c.in-Unit.row c.in-OfAccounts.at _ c.in-OfAccounts.ensures.0 c.in-OfAccounts.ensures.1 c.self.invariant c.as_mut_slice.ensures.value c.put_in_one.ensures.others)) _ c.put_in_one.ensures.err

pub put_entry-requires-in-Expiry-clause-fits : goal.put_entry-requires-in-Expiry-clause-fits
put_entry-requires-in-Expiry-clause-fits g c = of_kind _ c.args.self.now c.self.view_is c.args.row (kind.Unit c.in-Unit.row) c.in-Unit.ensures _ (expiry_read _ c.self.inside.transfers _ c.self.invariant c.in-Unit.row c.in-Expiry.ensures) (λ holds. IfSome c.args.entry.now (λ value. IsTrue (holds value))) c.requires.fits

pub returns-in-Expiry-clause-put : goal.returns-in-Expiry-clause-put
returns-in-Expiry-clause-put g c = puts _ c.args.self.now c.self.view_is c.args.row (kind.Unit c.in-Unit.row) c.in-Unit.ensures _ (expiry_read _ c.self.inside.transfers _ c.self.invariant c.in-Unit.row c.in-Expiry.ensures) (record { stamps = refl; units = units_many _ c.self.inside.transfers _ c.self.invariant }) _ _ (units_become _ c.in-Unit.row _ _ (expiry_set _ c.self.inside.transfers _ c.self.invariant c.in-Unit.row _ c.in-Expiry.ensures)) c.args.key c.args.entry.now _ c.put_entry-in-Expiry.ensures.rows c.put_entry-in-Expiry.ensures.there c.put_entry-in-Expiry.ensures.restores

pub returns-in-Expiry-clause-kind : goal.returns-in-Expiry-clause-kind
returns-in-Expiry-clause-kind g c = of_row _ c.args.self.now c.self.view_is c.args.row (kind.Unit c.in-Unit.row) c.in-Unit.ensures _ (expiry_read _ c.self.inside.transfers _ c.self.invariant c.in-Unit.row c.in-Expiry.ensures) (λ holds. IfOk c.put_entry-in-Expiry.result (λ before. IfSome before (λ entry. IfSome entry (λ value. IsTrue (holds value))))) c.put_entry-in-Expiry.ensures.held

pub returns-in-Expiry-clause-err : goal.returns-in-Expiry-clause-err
returns-in-Expiry-clause-err g c = keeps _ c.args.self.now c.self.view_is c.args.row (kind.Unit c.in-Unit.row) c.in-Unit.ensures _ (expiry_read _ c.self.inside.transfers _ c.self.invariant c.in-Unit.row c.in-Expiry.ensures) (record { stamps = refl; units = units_many _ c.self.inside.transfers _ c.self.invariant }) _ _ (units_become _ c.in-Unit.row _ _ (expiry_set _ c.self.inside.transfers _ c.self.invariant c.in-Unit.row _ c.in-Expiry.ensures)) _ c.put_entry-in-Expiry.ensures.err

pub returns-in-State-clause-put : goal.returns-in-State-clause-put
returns-in-State-clause-put g c = puts _ c.args.self.now c.self.view_is c.args.row kind.State c.in-State.ensures _ refl (record { stamps = refl; units = units_many _ c.self.inside.transfers _ c.self.invariant }) _ _ refl c.args.key c.args.entry.now _ c.put_entry-in-State.ensures.rows c.put_entry-in-State.ensures.there c.put_entry-in-State.ensures.restores

pub returns-in-State-clause-err : goal.returns-in-State-clause-err
returns-in-State-clause-err g c = keeps _ c.args.self.now c.self.view_is c.args.row kind.State c.in-State.ensures _ refl (record { stamps = refl; units = units_many _ c.self.inside.transfers _ c.self.invariant }) _ _ refl _ c.put_entry-in-State.ensures.err

pub put_entry-requires-in-Sums-clause-takes : goal.put_entry-requires-in-Sums-clause-takes
put_entry-requires-in-Sums-clause-takes g c = takes_new _ c.args.self.now c.self.view_is c.args.row kind.Sums c.in-Sums.ensures _ refl c.args.key refl c.requires.new

pub returns-in-Sums-clause-put : goal.returns-in-Sums-clause-put
returns-in-Sums-clause-put g c = puts _ c.args.self.now c.self.view_is c.args.row kind.Sums c.in-Sums.ensures _ refl (record { stamps = refl; units = units_many _ c.self.inside.transfers _ c.self.invariant }) _ _ refl c.args.key c.args.entry.now _ c.put_entry-in-Sums.ensures.rows c.put_entry-in-Sums.ensures.there c.put_entry-in-Sums.ensures.restores

pub returns-in-Sums-clause-err : goal.returns-in-Sums-clause-err
returns-in-Sums-clause-err g c = keeps _ c.args.self.now c.self.view_is c.args.row kind.Sums c.in-Sums.ensures _ refl (record { stamps = refl; units = units_many _ c.self.inside.transfers _ c.self.invariant }) _ _ refl _ c.put_entry-in-Sums.ensures.err

pub returns-in-Status-clause-put : goal.returns-in-Status-clause-put
returns-in-Status-clause-put g c = puts _ c.args.self.now c.self.view_is c.args.row kind.Status c.in-Status.ensures _ refl (record { stamps = refl; units = units_many _ c.self.inside.transfers _ c.self.invariant }) _ _ refl c.args.key c.args.entry.now _ c.put_entry-in-Status.ensures.rows c.put_entry-in-Status.ensures.there c.put_entry-in-Status.ensures.restores

pub returns-in-Status-clause-err : goal.returns-in-Status-clause-err
returns-in-Status-clause-err g c = keeps _ c.args.self.now c.self.view_is c.args.row kind.Status c.in-Status.ensures _ refl (record { stamps = refl; units = units_many _ c.self.inside.transfers _ c.self.invariant }) _ _ refl _ c.put_entry-in-Status.ensures.err

pub put_entry-requires-clause-fits : goal.put_entry-requires-clause-fits
put_entry-requires-clause-fits g c = of_kind _ c.args.self.now c.self.view_is c.args.row (kind.Stamp stamp.AccountIds) (ap kind.Stamp (sym c.in-Stamp-AccountIds.field-0-is) ∙ c.in-Stamp-AccountIds.ensures) _ refl (λ holds. IfSome c.args.entry.now (λ value. IsTrue (holds value))) c.requires.fits

pub returns-in-Stamp-AccountIds-clause-kind : goal.returns-in-Stamp-AccountIds-clause-kind
returns-in-Stamp-AccountIds-clause-kind g c = of_row _ c.args.self.now c.self.view_is c.args.row (kind.Stamp stamp.AccountIds) (ap kind.Stamp (sym c.in-Stamp-AccountIds.field-0-is) ∙ c.in-Stamp-AccountIds.ensures) _ refl (λ holds. IfOk c.put_entry.result (λ before. IfSome before (λ entry. IfSome entry (λ value. IsTrue (holds value))))) c.put_entry.ensures.held

pub put_entry-requires-in-Stamp-ExpiryEntries-clause-fits : goal.put_entry-requires-in-Stamp-ExpiryEntries-clause-fits
put_entry-requires-in-Stamp-ExpiryEntries-clause-fits g c = of_kind _ c.args.self.now c.self.view_is c.args.row (kind.Stamp stamp.ExpiryEntries) (ap kind.Stamp (sym c.in-Stamp-ExpiryEntries.field-0-is) ∙ c.in-Stamp-ExpiryEntries.ensures) _ refl (λ holds. IfSome c.args.entry.now (λ value. IsTrue (holds value))) c.requires.fits

pub returns-in-Stamp-ExpiryEntries-clause-kind : goal.returns-in-Stamp-ExpiryEntries-clause-kind
returns-in-Stamp-ExpiryEntries-clause-kind g c = of_row _ c.args.self.now c.self.view_is c.args.row (kind.Stamp stamp.ExpiryEntries) (ap kind.Stamp (sym c.in-Stamp-ExpiryEntries.field-0-is) ∙ c.in-Stamp-ExpiryEntries.ensures) _ refl (λ holds. IfOk c.put_entry-in-Stamp-ExpiryEntries.result (λ before. IfSome before (λ entry. IfSome entry (λ value. IsTrue (holds value))))) c.put_entry-in-Stamp-ExpiryEntries.ensures.held

pub put_entry-requires-in-Account-clause-fits : goal.put_entry-requires-in-Account-clause-fits
put_entry-requires-in-Account-clause-fits g c = of_kind _ c.args.self.now c.self.view_is c.args.row kind.Account c.in-Account.ensures _ refl (λ holds. IfSome c.args.entry.now (λ value. IsTrue (holds value))) c.requires.fits

pub returns-in-Account-clause-kind : goal.returns-in-Account-clause-kind
returns-in-Account-clause-kind g c = of_row _ c.args.self.now c.self.view_is c.args.row kind.Account c.in-Account.ensures _ refl (λ holds. IfOk c.put_entry-in-Account.result (λ before. IfSome before (λ entry. IfSome entry (λ value. IsTrue (holds value))))) c.put_entry-in-Account.ensures.held

pub put_entry-requires-in-Id-clause-fits : goal.put_entry-requires-in-Id-clause-fits
put_entry-requires-in-Id-clause-fits g c = of_kind _ c.args.self.now c.self.view_is c.args.row kind.Id c.in-Id.ensures _ refl (λ holds. IfSome c.args.entry.now (λ value. IsTrue (holds value))) c.requires.fits

pub returns-in-Id-clause-kind : goal.returns-in-Id-clause-kind
returns-in-Id-clause-kind g c = of_row _ c.args.self.now c.self.view_is c.args.row kind.Id c.in-Id.ensures _ refl (λ holds. IfOk c.put_entry-in-Id.result (λ before. IfSome before (λ entry. IfSome entry (λ value. IsTrue (holds value))))) c.put_entry-in-Id.ensures.held

pub put_entry-requires-in-State-clause-fits : goal.put_entry-requires-in-State-clause-fits
put_entry-requires-in-State-clause-fits g c = of_kind _ c.args.self.now c.self.view_is c.args.row kind.State c.in-State.ensures _ refl (λ holds. IfSome c.args.entry.now (λ value. IsTrue (holds value))) c.requires.fits

pub returns-in-State-clause-kind : goal.returns-in-State-clause-kind
returns-in-State-clause-kind g c = of_row _ c.args.self.now c.self.view_is c.args.row kind.State c.in-State.ensures _ refl (λ holds. IfOk c.put_entry-in-State.result (λ before. IfSome before (λ entry. IfSome entry (λ value. IsTrue (holds value))))) c.put_entry-in-State.ensures.held

pub put_entry-requires-in-Sums-clause-fits : goal.put_entry-requires-in-Sums-clause-fits
put_entry-requires-in-Sums-clause-fits g c = of_kind _ c.args.self.now c.self.view_is c.args.row kind.Sums c.in-Sums.ensures _ refl (λ holds. IfSome c.args.entry.now (λ value. IsTrue (holds value))) c.requires.fits

pub returns-in-Sums-clause-kind : goal.returns-in-Sums-clause-kind
returns-in-Sums-clause-kind g c = of_row _ c.args.self.now c.self.view_is c.args.row kind.Sums c.in-Sums.ensures _ refl (λ holds. IfOk c.put_entry-in-Sums.result (λ before. IfSome before (λ entry. IfSome entry (λ value. IsTrue (holds value))))) c.put_entry-in-Sums.ensures.held

pub put_entry-requires-in-Status-clause-fits : goal.put_entry-requires-in-Status-clause-fits
put_entry-requires-in-Status-clause-fits g c = of_kind _ c.args.self.now c.self.view_is c.args.row kind.Status c.in-Status.ensures _ refl (λ holds. IfSome c.args.entry.now (λ value. IsTrue (holds value))) c.requires.fits

pub returns-in-Status-clause-kind : goal.returns-in-Status-clause-kind
returns-in-Status-clause-kind g c = of_row _ c.args.self.now c.self.view_is c.args.row kind.Status c.in-Status.ensures _ refl (λ holds. IfOk c.put_entry-in-Status.result (λ before. IfSome before (λ entry. IfSome entry (λ value. IsTrue (holds value))))) c.put_entry-in-Status.ensures.held

pub unreachable-requires : goal.unreachable-requires
unreachable-requires g c = objects_not_single c.args.row c.in-Transfer.ensures c.requires.single

pub unreachable-requires-in-OfTransfers : goal.unreachable-requires-in-OfTransfers
unreachable-requires-in-OfTransfers g c = index_not_single c.args.row c.in-Unit.row c.in-OfTransfers.field-0 c.in-Unit.ensures c.in-OfTransfers.ensures c.requires.single
