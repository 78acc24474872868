use Rattle.std.proofs.Common.{[], refl, sym, ◌∙◌, ap, IfSome, IsTrue}
use Rattle.tf_manifest.specs.declared.kind.Kind.TheVariants as kind
use Rattle.tf_manifest.specs.declared.kind.StampRow.TheVariants as stamp
use Rattle.tf_mutable_rows.proofs.Fresh.{expiry_read, expiry_set, gives_back, index_not_single, index_read, index_set, objects_not_single, of_kind, there, units_become, units_many}
use Rattle.tf_mutable_rows.proofs.mutable_tables.MutableTablesMutableRows.take_back.Goals as goal

pub take_back-requires-clause-there : goal.take_back-requires-clause-there
take_back-requires-clause-there g c = there _ c.args.self.now c.self.view_is c.args.row (kind.Stamp stamp.AccountIds) (ap kind.Stamp (sym c.in-Stamp-AccountIds.field-0-is) ∙ c.in-Stamp-AccountIds.ensures) _ refl c.args.key.now c.requires.there

pub returns-in-Stamp-AccountIds : goal.returns-in-Stamp-AccountIds
returns-in-Stamp-AccountIds g c = gives_back _ c.args.self.now c.self.view_is c.args.row (kind.Stamp stamp.AccountIds) (ap kind.Stamp (sym c.in-Stamp-AccountIds.field-0-is) ∙ c.in-Stamp-AccountIds.ensures) _ refl (record { stamps = refl; units = units_many _ c.self.inside.transfers _ c.self.invariant }) _ _ refl c.args.key.now c.args.before c.take_back.ensures

pub take_back-requires-in-Stamp-ExpiryEntries-clause-there : goal.take_back-requires-in-Stamp-ExpiryEntries-clause-there
take_back-requires-in-Stamp-ExpiryEntries-clause-there g c = there _ c.args.self.now c.self.view_is c.args.row (kind.Stamp stamp.ExpiryEntries) (ap kind.Stamp (sym c.in-Stamp-ExpiryEntries.field-0-is) ∙ c.in-Stamp-ExpiryEntries.ensures) _ refl c.args.key.now c.requires.there

pub returns-in-Stamp-ExpiryEntries : goal.returns-in-Stamp-ExpiryEntries
returns-in-Stamp-ExpiryEntries g c = gives_back _ c.args.self.now c.self.view_is c.args.row (kind.Stamp stamp.ExpiryEntries) (ap kind.Stamp (sym c.in-Stamp-ExpiryEntries.field-0-is) ∙ c.in-Stamp-ExpiryEntries.ensures) _ refl (record { stamps = refl; units = units_many _ c.self.inside.transfers _ c.self.invariant }) _ _ refl c.args.key.now c.args.before c.take_back-in-Stamp-ExpiryEntries.ensures

pub take_back-requires-in-Account-clause-there : goal.take_back-requires-in-Account-clause-there
take_back-requires-in-Account-clause-there g c = there _ c.args.self.now c.self.view_is c.args.row kind.Account c.in-Account.ensures _ refl c.args.key.now c.requires.there

pub returns-in-Account : goal.returns-in-Account
returns-in-Account g c = gives_back _ c.args.self.now c.self.view_is c.args.row kind.Account c.in-Account.ensures _ refl (record { stamps = refl; units = units_many _ c.self.inside.transfers _ c.self.invariant }) _ _ refl c.args.key.now c.args.before c.take_back-in-Account.ensures

pub take_back-requires-in-Id-clause-there : goal.take_back-requires-in-Id-clause-there
take_back-requires-in-Id-clause-there g c = there _ c.args.self.now c.self.view_is c.args.row kind.Id c.in-Id.ensures _ refl c.args.key.now c.requires.there

pub returns-in-Id : goal.returns-in-Id
returns-in-Id g c = gives_back _ c.args.self.now c.self.view_is c.args.row kind.Id c.in-Id.ensures _ refl (record { stamps = refl; units = units_many _ c.self.inside.transfers _ c.self.invariant }) _ _ refl c.args.key.now c.args.before c.take_back-in-Id.ensures

pub take_back_in_one-requires-clause-entry : goal.take_back_in_one-requires-clause-entry
take_back_in_one-requires-clause-entry g c = there _ c.args.self.now c.self.view_is c.args.row (kind.Unit c.in-Unit.row) c.in-Unit.ensures _ (index_read _ _ _ c.in-Unit.row c.in-OfAccounts.at [] _ c.in-OfAccounts.ensures.0 c.in-OfAccounts.ensures.1 c.self.invariant c.as_mut_slice.ensures.value refl) c.args.key.now c.requires.there

pub take_back_in_one-requires-clause-fits : goal.take_back_in_one-requires-clause-fits
take_back_in_one-requires-clause-fits g c = of_kind _ c.args.self.now c.self.view_is c.args.row (kind.Unit c.in-Unit.row) c.in-Unit.ensures _ (index_read _ _ _ c.in-Unit.row c.in-OfAccounts.at [] _ c.in-OfAccounts.ensures.0 c.in-OfAccounts.ensures.1 c.self.invariant c.as_mut_slice.ensures.value refl) (λ holds. IfSome c.args.before (λ entry. IfSome entry (λ value. IsTrue (holds value)))) c.requires.fits

pub returns-in-OfAccounts : goal.returns-in-OfAccounts
returns-in-OfAccounts g c = gives_back _ c.args.self.now c.self.view_is c.args.row (kind.Unit c.in-Unit.row) c.in-Unit.ensures _ (index_read _ _ _ c.in-Unit.row c.in-OfAccounts.at [] _ c.in-OfAccounts.ensures.0 c.in-OfAccounts.ensures.1 c.self.invariant c.as_mut_slice.ensures.value refl) (record { stamps = refl; units = units_many _ c.self.inside.transfers _ c.self.invariant }) _ _ (units_become _ c.in-Unit.row _ _ (index_set _ _ _ _ c.in-Unit.row c.in-OfAccounts.at _ c.in-OfAccounts.ensures.0 c.in-OfAccounts.ensures.1 c.self.invariant c.as_mut_slice.ensures.value c.take_back_in_one.ensures.others)) c.args.key.now c.args.before c.take_back_in_one.ensures.rows

pub take_back-requires-in-Expiry-clause-there : goal.take_back-requires-in-Expiry-clause-there
take_back-requires-in-Expiry-clause-there g c = there _ c.args.self.now c.self.view_is c.args.row (kind.Unit c.in-Unit.row) c.in-Unit.ensures _ (expiry_read _ c.self.inside.transfers _ c.self.invariant c.in-Unit.row c.in-Expiry.ensures) c.args.key.now c.requires.there

pub take_back-requires-in-Expiry-clause-fits : goal.take_back-requires-in-Expiry-clause-fits
take_back-requires-in-Expiry-clause-fits g c = of_kind _ c.args.self.now c.self.view_is c.args.row (kind.Unit c.in-Unit.row) c.in-Unit.ensures _ (expiry_read _ c.self.inside.transfers _ c.self.invariant c.in-Unit.row c.in-Expiry.ensures) (λ holds. IfSome c.args.before (λ entry. IfSome entry (λ value. IsTrue (holds value)))) c.requires.fits

pub returns-in-Expiry : goal.returns-in-Expiry
returns-in-Expiry g c = gives_back _ c.args.self.now c.self.view_is c.args.row (kind.Unit c.in-Unit.row) c.in-Unit.ensures _ (expiry_read _ c.self.inside.transfers _ c.self.invariant c.in-Unit.row c.in-Expiry.ensures) (record { stamps = refl; units = units_many _ c.self.inside.transfers _ c.self.invariant }) _ _ (units_become _ c.in-Unit.row _ _ (expiry_set _ c.self.inside.transfers _ c.self.invariant c.in-Unit.row _ c.in-Expiry.ensures)) c.args.key.now c.args.before c.take_back-in-Expiry.ensures

pub take_back-requires-in-State-clause-there : goal.take_back-requires-in-State-clause-there
take_back-requires-in-State-clause-there g c = there _ c.args.self.now c.self.view_is c.args.row kind.State c.in-State.ensures _ refl c.args.key.now c.requires.there

pub returns-in-State : goal.returns-in-State
returns-in-State g c = gives_back _ c.args.self.now c.self.view_is c.args.row kind.State c.in-State.ensures _ refl (record { stamps = refl; units = units_many _ c.self.inside.transfers _ c.self.invariant }) _ _ refl c.args.key.now c.args.before c.take_back-in-State.ensures

pub take_back-requires-in-Sums-clause-there : goal.take_back-requires-in-Sums-clause-there
take_back-requires-in-Sums-clause-there g c = there _ c.args.self.now c.self.view_is c.args.row kind.Sums c.in-Sums.ensures _ refl c.args.key.now c.requires.there

pub returns-in-Sums : goal.returns-in-Sums
returns-in-Sums g c = gives_back _ c.args.self.now c.self.view_is c.args.row kind.Sums c.in-Sums.ensures _ refl (record { stamps = refl; units = units_many _ c.self.inside.transfers _ c.self.invariant }) _ _ refl c.args.key.now c.args.before c.take_back-in-Sums.ensures

pub take_back-requires-in-Status-clause-there : goal.take_back-requires-in-Status-clause-there
take_back-requires-in-Status-clause-there g c = there _ c.args.self.now c.self.view_is c.args.row kind.Status c.in-Status.ensures _ refl c.args.key.now c.requires.there

pub returns-in-Status : goal.returns-in-Status
returns-in-Status g c = gives_back _ c.args.self.now c.self.view_is c.args.row kind.Status c.in-Status.ensures _ refl (record { stamps = refl; units = units_many _ c.self.inside.transfers _ c.self.invariant }) _ _ refl c.args.key.now c.args.before c.take_back-in-Status.ensures

pub take_back-requires-clause-fits : goal.take_back-requires-clause-fits
take_back-requires-clause-fits g c = of_kind _ c.args.self.now c.self.view_is c.args.row (kind.Stamp stamp.AccountIds) (ap kind.Stamp (sym c.in-Stamp-AccountIds.field-0-is) ∙ c.in-Stamp-AccountIds.ensures) _ refl (λ holds. IfSome c.args.before (λ entry. IfSome entry (λ value. IsTrue (holds value)))) c.requires.fits

pub take_back-requires-in-Stamp-ExpiryEntries-clause-fits : goal.take_back-requires-in-Stamp-ExpiryEntries-clause-fits
take_back-requires-in-Stamp-ExpiryEntries-clause-fits g c = of_kind _ c.args.self.now c.self.view_is c.args.row (kind.Stamp stamp.ExpiryEntries) (ap kind.Stamp (sym c.in-Stamp-ExpiryEntries.field-0-is) ∙ c.in-Stamp-ExpiryEntries.ensures) _ refl (λ holds. IfSome c.args.before (λ entry. IfSome entry (λ value. IsTrue (holds value)))) c.requires.fits

pub take_back-requires-in-Account-clause-fits : goal.take_back-requires-in-Account-clause-fits
take_back-requires-in-Account-clause-fits g c = of_kind _ c.args.self.now c.self.view_is c.args.row kind.Account c.in-Account.ensures _ refl (λ holds. IfSome c.args.before (λ entry. IfSome entry (λ value. IsTrue (holds value)))) c.requires.fits

pub take_back-requires-in-Id-clause-fits : goal.take_back-requires-in-Id-clause-fits
take_back-requires-in-Id-clause-fits g c = of_kind _ c.args.self.now c.self.view_is c.args.row kind.Id c.in-Id.ensures _ refl (λ holds. IfSome c.args.before (λ entry. IfSome entry (λ value. IsTrue (holds value)))) c.requires.fits

pub take_back-requires-in-State-clause-fits : goal.take_back-requires-in-State-clause-fits
take_back-requires-in-State-clause-fits g c = of_kind _ c.args.self.now c.self.view_is c.args.row kind.State c.in-State.ensures _ refl (λ holds. IfSome c.args.before (λ entry. IfSome entry (λ value. IsTrue (holds value)))) c.requires.fits

pub take_back-requires-in-Sums-clause-fits : goal.take_back-requires-in-Sums-clause-fits
take_back-requires-in-Sums-clause-fits g c = of_kind _ c.args.self.now c.self.view_is c.args.row kind.Sums c.in-Sums.ensures _ refl (λ holds. IfSome c.args.before (λ entry. IfSome entry (λ value. IsTrue (holds value)))) c.requires.fits

pub take_back-requires-in-Status-clause-fits : goal.take_back-requires-in-Status-clause-fits
take_back-requires-in-Status-clause-fits g c = of_kind _ c.args.self.now c.self.view_is c.args.row kind.Status c.in-Status.ensures _ refl (λ holds. IfSome c.args.before (λ entry. IfSome entry (λ value. IsTrue (holds value)))) c.requires.fits

pub unreachable-requires : goal.unreachable-requires
unreachable-requires g c = objects_not_single c.args.row c.in-Transfer.ensures c.requires.single

pub unreachable-requires-in-OfTransfers : goal.unreachable-requires-in-OfTransfers
unreachable-requires-in-OfTransfers g c = index_not_single c.args.row c.in-Unit.row c.in-OfTransfers.field-0 c.in-Unit.ensures c.in-OfTransfers.ensures c.requires.single
