use Rattle.std.proofs.Common.{[], refl, sym, ◌∙◌, ap}
use Rattle.tf_manifest.specs.declared.kind.Kind.TheVariants as kind
use Rattle.tf_manifest.specs.declared.kind.StampRow.TheVariants as stamp
use Rattle.tf_manifest.specs.View.{value_by}
use Rattle.tf_rows.specs.Parts.{seen_rows}
use Rattle.tf_rows.specs.declared.sealed_row.SealedRow.TheVariants as sealed
use Rattle.tf_mutable_rows.proofs.Fresh.{expiry_read, expiry_set, field_read, index_read, sealed_of, unchanged, units_become, units_many}
use Rattle.tf_mutable_rows.proofs.Records.{stays_among}
use Rattle.tf_mutable_rows.proofs.mutable_tables.MutableTablesSealRows.seal.Goals as goal

pub returns-in_ok-seal-in-Stamp-AccountIds-clause-sealed : goal.returns-in_ok-seal-in-Stamp-AccountIds-clause-sealed
returns-in_ok-seal-in-Stamp-AccountIds-clause-sealed g c = sealed_of _ c.args.self.now c.self.view_is c.args.row (kind.Stamp stamp.AccountIds) (ap kind.Stamp (sym c.in-Stamp-AccountIds.field-0-is) ∙ c.in-Stamp-AccountIds.ensures) _ refl {A = g.row.A.Denot} (sealed.Stamp stamp.AccountIds c.in_ok-seal-in-Stamp-AccountIds.field-0) refl (ap (seen_rows (value_by (kind.Stamp stamp.AccountIds))) c.in_ok-seal-in-Stamp-AccountIds.ensures.sealed)

pub returns-in_ok-seal-in-Stamp-ExpiryEntries-clause-sealed : goal.returns-in_ok-seal-in-Stamp-ExpiryEntries-clause-sealed
returns-in_ok-seal-in-Stamp-ExpiryEntries-clause-sealed g c = sealed_of _ c.args.self.now c.self.view_is c.args.row (kind.Stamp stamp.ExpiryEntries) (ap kind.Stamp (sym c.in-Stamp-ExpiryEntries.field-0-is) ∙ c.in-Stamp-ExpiryEntries.ensures) _ refl {A = g.row.A.Denot} (sealed.Stamp stamp.ExpiryEntries c.in_ok-seal-in-Stamp-ExpiryEntries.field-0) refl (ap (seen_rows (value_by (kind.Stamp stamp.ExpiryEntries))) c.in_ok-seal-in-Stamp-ExpiryEntries.ensures.sealed)

pub returns-in_ok-seal-in-Account-clause-sealed : goal.returns-in_ok-seal-in-Account-clause-sealed
returns-in_ok-seal-in-Account-clause-sealed g c = sealed_of _ c.args.self.now c.self.view_is c.args.row kind.Account c.in-Account.ensures _ refl {A = g.row.A.Denot} (sealed.Account c.in_ok-seal-in-Account.field-0) refl (ap (seen_rows (value_by kind.Account)) c.in_ok-seal-in-Account.ensures.sealed)

pub returns-in_ok-seal_objects-in-Transfer-clause-sealed : goal.returns-in_ok-seal_objects-in-Transfer-clause-sealed
returns-in_ok-seal_objects-in-Transfer-clause-sealed g c = sealed_of _ c.args.self.now c.self.view_is c.args.row kind.Transfer c.in-Transfer.ensures _ refl {A = g.row.A.Denot} (sealed.Transfer c.in_ok-seal_objects-in-Transfer.field-0) refl (ap (seen_rows (value_by kind.Transfer)) c.in_ok-seal_objects-in-Transfer.ensures.sealed)

pub returns-in_ok-seal-in-Id-clause-sealed : goal.returns-in_ok-seal-in-Id-clause-sealed
returns-in_ok-seal-in-Id-clause-sealed g c = sealed_of _ c.args.self.now c.self.view_is c.args.row kind.Id c.in-Id.ensures _ refl {A = g.row.A.Denot} (sealed.Id c.in_ok-seal-in-Id.field-0) refl (ap (seen_rows (value_by kind.Id)) c.in_ok-seal-in-Id.ensures.sealed)

pub returns-in_ok-index-in-OfAccounts-clause-sealed : goal.returns-in_ok-index-in-OfAccounts-clause-sealed
returns-in_ok-index-in-OfAccounts-clause-sealed g c = sealed_of _ c.args.self.now c.self.view_is c.args.row (kind.Unit c.in-Unit.row) c.in-Unit.ensures _ (index_read _ _ _ c.in-Unit.row c.in-OfAccounts.at [] _ c.in-OfAccounts.ensures.0 c.in-OfAccounts.ensures.1 c.self.invariant c.as_mut_slice.ensures.value refl) {A = g.row.A.Denot} (sealed.Unit c.in-Unit.row c.in_ok-index-in-OfAccounts.index) refl (ap (seen_rows (value_by (kind.Unit c.in-Unit.row))) c.in_ok-index-in-OfAccounts.ensures.sealed)

pub returns-in_ok-seal-in-Expiry-clause-sealed : goal.returns-in_ok-seal-in-Expiry-clause-sealed
returns-in_ok-seal-in-Expiry-clause-sealed g c = sealed_of _ c.args.self.now c.self.view_is c.args.row (kind.Unit c.in-Unit.row) c.in-Unit.ensures _ (expiry_read _ c.self.inside.transfers _ c.self.invariant c.in-Unit.row c.in-Expiry.ensures) {A = g.row.A.Denot} (sealed.Unit c.in-Unit.row c.in_ok-seal-in-Expiry.field-0) refl (ap (seen_rows (value_by (kind.Unit c.in-Unit.row))) c.in_ok-seal-in-Expiry.ensures.sealed)

pub returns-in_ok-keys-in-OfTransfers-clause-sealed : goal.returns-in_ok-keys-in-OfTransfers-clause-sealed
returns-in_ok-keys-in-OfTransfers-clause-sealed g c = sealed_of _ c.args.self.now c.self.view_is c.args.row (kind.Unit c.in-Unit.row) c.in-Unit.ensures _ (field_read c.self.inside.account_indexes c.self.inside.transfers c.self.inside.expiry c.self.invariant c.in-OfTransfers.field c.in-Unit.row c.in-OfTransfers.ensures) {A = g.row.A.Denot} (sealed.Unit c.in-Unit.row c.in_ok-keys-in-OfTransfers.keys) refl (ap (seen_rows (value_by (kind.Unit c.in-Unit.row))) c.in_ok-keys-in-OfTransfers.ensures.sealed)

pub returns-in_ok-seal-in-State-clause-sealed : goal.returns-in_ok-seal-in-State-clause-sealed
returns-in_ok-seal-in-State-clause-sealed g c = sealed_of _ c.args.self.now c.self.view_is c.args.row kind.State c.in-State.ensures _ refl {A = g.row.A.Denot} (sealed.State c.in_ok-seal-in-State.field-0) refl (ap (seen_rows (value_by kind.State)) c.in_ok-seal-in-State.ensures.sealed)

pub returns-in_ok-seal-in-Sums-clause-sealed : goal.returns-in_ok-seal-in-Sums-clause-sealed
returns-in_ok-seal-in-Sums-clause-sealed g c = sealed_of _ c.args.self.now c.self.view_is c.args.row kind.Sums c.in-Sums.ensures _ refl {A = g.row.A.Denot} (sealed.Sums c.in_ok-seal-in-Sums.field-0) refl (ap (seen_rows (value_by kind.Sums)) c.in_ok-seal-in-Sums.ensures.sealed)

pub returns-in_ok-seal-in-Status-clause-sealed : goal.returns-in_ok-seal-in-Status-clause-sealed
returns-in_ok-seal-in-Status-clause-sealed g c = sealed_of _ c.args.self.now c.self.view_is c.args.row kind.Status c.in-Status.ensures _ refl {A = g.row.A.Denot} (sealed.Status c.in_ok-seal-in-Status.field-0) refl (ap (seen_rows (value_by kind.Status)) c.in_ok-seal-in-Status.ensures.sealed)

pub returns-in_err-seal-in-Stamp-AccountIds-clause-same : goal.returns-in_err-seal-in-Stamp-AccountIds-clause-same
returns-in_err-seal-in-Stamp-AccountIds-clause-same g c = unchanged _ c.args.self.now c.self.view_is c.args.row (kind.Stamp stamp.AccountIds) (ap kind.Stamp (sym c.in-Stamp-AccountIds.field-0-is) ∙ c.in-Stamp-AccountIds.ensures) _ refl (record { stamps = refl; units = units_many _ c.self.inside.transfers _ c.self.invariant }) _ _ refl c.seal.ensures.same

pub returns-in_ok-seal-in-Stamp-AccountIds-clause-same : goal.returns-in_ok-seal-in-Stamp-AccountIds-clause-same
returns-in_ok-seal-in-Stamp-AccountIds-clause-same g c = unchanged _ c.args.self.now c.self.view_is c.args.row (kind.Stamp stamp.AccountIds) (ap kind.Stamp (sym c.in-Stamp-AccountIds.field-0-is) ∙ c.in-Stamp-AccountIds.ensures) _ refl (record { stamps = refl; units = units_many _ c.self.inside.transfers _ c.self.invariant }) _ _ refl c.seal.ensures.same

pub returns-in_err-seal-in-Stamp-ExpiryEntries-clause-same : goal.returns-in_err-seal-in-Stamp-ExpiryEntries-clause-same
returns-in_err-seal-in-Stamp-ExpiryEntries-clause-same g c = unchanged _ c.args.self.now c.self.view_is c.args.row (kind.Stamp stamp.ExpiryEntries) (ap kind.Stamp (sym c.in-Stamp-ExpiryEntries.field-0-is) ∙ c.in-Stamp-ExpiryEntries.ensures) _ refl (record { stamps = refl; units = units_many _ c.self.inside.transfers _ c.self.invariant }) _ _ refl c.seal-in-Stamp-ExpiryEntries.ensures.same

pub returns-in_ok-seal-in-Stamp-ExpiryEntries-clause-same : goal.returns-in_ok-seal-in-Stamp-ExpiryEntries-clause-same
returns-in_ok-seal-in-Stamp-ExpiryEntries-clause-same g c = unchanged _ c.args.self.now c.self.view_is c.args.row (kind.Stamp stamp.ExpiryEntries) (ap kind.Stamp (sym c.in-Stamp-ExpiryEntries.field-0-is) ∙ c.in-Stamp-ExpiryEntries.ensures) _ refl (record { stamps = refl; units = units_many _ c.self.inside.transfers _ c.self.invariant }) _ _ refl c.seal-in-Stamp-ExpiryEntries.ensures.same

pub returns-in_err-seal-in-Account-clause-same : goal.returns-in_err-seal-in-Account-clause-same
returns-in_err-seal-in-Account-clause-same g c = unchanged _ c.args.self.now c.self.view_is c.args.row kind.Account c.in-Account.ensures _ refl (record { stamps = refl; units = units_many _ c.self.inside.transfers _ c.self.invariant }) _ _ refl c.seal-in-Account.ensures.same

pub returns-in_ok-seal-in-Account-clause-same : goal.returns-in_ok-seal-in-Account-clause-same
returns-in_ok-seal-in-Account-clause-same g c = unchanged _ c.args.self.now c.self.view_is c.args.row kind.Account c.in-Account.ensures _ refl (record { stamps = refl; units = units_many _ c.self.inside.transfers _ c.self.invariant }) _ _ refl c.seal-in-Account.ensures.same

pub returns-in_err-seal_objects-in-Transfer-clause-same : goal.returns-in_err-seal_objects-in-Transfer-clause-same
returns-in_err-seal_objects-in-Transfer-clause-same g c = stays_among _ c.args.self.now c.self.view_is _ _ c.self.invariant _ refl c.seal_objects.new.self _ refl c.seal_objects.ensures.same

pub returns-in_ok-seal_objects-in-Transfer-clause-same : goal.returns-in_ok-seal_objects-in-Transfer-clause-same
returns-in_ok-seal_objects-in-Transfer-clause-same g c = stays_among _ c.args.self.now c.self.view_is _ _ c.self.invariant _ refl c.seal_objects.new.self _ refl c.seal_objects.ensures.same

pub returns-in_err-seal-in-Id-clause-same : goal.returns-in_err-seal-in-Id-clause-same
returns-in_err-seal-in-Id-clause-same g c = unchanged _ c.args.self.now c.self.view_is c.args.row kind.Id c.in-Id.ensures _ refl (record { stamps = refl; units = units_many _ c.self.inside.transfers _ c.self.invariant }) _ _ refl c.seal-in-Id.ensures.same

pub returns-in_ok-seal-in-Id-clause-same : goal.returns-in_ok-seal-in-Id-clause-same
returns-in_ok-seal-in-Id-clause-same g c = unchanged _ c.args.self.now c.self.view_is c.args.row kind.Id c.in-Id.ensures _ refl (record { stamps = refl; units = units_many _ c.self.inside.transfers _ c.self.invariant }) _ _ refl c.seal-in-Id.ensures.same

pub returns-in_err-seal-in-State-clause-same : goal.returns-in_err-seal-in-State-clause-same
returns-in_err-seal-in-State-clause-same g c = unchanged _ c.args.self.now c.self.view_is c.args.row kind.State c.in-State.ensures _ refl (record { stamps = refl; units = units_many _ c.self.inside.transfers _ c.self.invariant }) _ _ refl c.seal-in-State.ensures.same

pub returns-in_ok-seal-in-State-clause-same : goal.returns-in_ok-seal-in-State-clause-same
returns-in_ok-seal-in-State-clause-same g c = unchanged _ c.args.self.now c.self.view_is c.args.row kind.State c.in-State.ensures _ refl (record { stamps = refl; units = units_many _ c.self.inside.transfers _ c.self.invariant }) _ _ refl c.seal-in-State.ensures.same

pub returns-in_err-seal-in-Sums-clause-same : goal.returns-in_err-seal-in-Sums-clause-same
returns-in_err-seal-in-Sums-clause-same g c = unchanged _ c.args.self.now c.self.view_is c.args.row kind.Sums c.in-Sums.ensures _ refl (record { stamps = refl; units = units_many _ c.self.inside.transfers _ c.self.invariant }) _ _ refl c.seal-in-Sums.ensures.same

pub returns-in_ok-seal-in-Sums-clause-same : goal.returns-in_ok-seal-in-Sums-clause-same
returns-in_ok-seal-in-Sums-clause-same g c = unchanged _ c.args.self.now c.self.view_is c.args.row kind.Sums c.in-Sums.ensures _ refl (record { stamps = refl; units = units_many _ c.self.inside.transfers _ c.self.invariant }) _ _ refl c.seal-in-Sums.ensures.same

pub returns-in_err-seal-in-Status-clause-same : goal.returns-in_err-seal-in-Status-clause-same
returns-in_err-seal-in-Status-clause-same g c = unchanged _ c.args.self.now c.self.view_is c.args.row kind.Status c.in-Status.ensures _ refl (record { stamps = refl; units = units_many _ c.self.inside.transfers _ c.self.invariant }) _ _ refl c.seal-in-Status.ensures.same

pub returns-in_ok-seal-in-Status-clause-same : goal.returns-in_ok-seal-in-Status-clause-same
returns-in_ok-seal-in-Status-clause-same g c = unchanged _ c.args.self.now c.self.view_is c.args.row kind.Status c.in-Status.ensures _ refl (record { stamps = refl; units = units_many _ c.self.inside.transfers _ c.self.invariant }) _ _ refl c.seal-in-Status.ensures.same

pub returns-in_err-seal-in-Expiry-clause-same : goal.returns-in_err-seal-in-Expiry-clause-same
returns-in_err-seal-in-Expiry-clause-same g c = unchanged _ c.args.self.now c.self.view_is c.args.row (kind.Unit c.in-Unit.row) c.in-Unit.ensures _ (expiry_read _ c.self.inside.transfers _ c.self.invariant c.in-Unit.row c.in-Expiry.ensures) (record { stamps = refl; units = units_many _ c.self.inside.transfers _ c.self.invariant }) _ _ (units_become _ c.in-Unit.row _ _ (expiry_set _ c.self.inside.transfers _ c.self.invariant c.in-Unit.row _ c.in-Expiry.ensures)) c.seal-in-Expiry.ensures.same

pub returns-in_ok-seal-in-Expiry-clause-same : goal.returns-in_ok-seal-in-Expiry-clause-same
returns-in_ok-seal-in-Expiry-clause-same g c = unchanged _ c.args.self.now c.self.view_is c.args.row (kind.Unit c.in-Unit.row) c.in-Unit.ensures _ (expiry_read _ c.self.inside.transfers _ c.self.invariant c.in-Unit.row c.in-Expiry.ensures) (record { stamps = refl; units = units_many _ c.self.inside.transfers _ c.self.invariant }) _ _ (units_become _ c.in-Unit.row _ _ (expiry_set _ c.self.inside.transfers _ c.self.invariant c.in-Unit.row _ c.in-Expiry.ensures)) c.seal-in-Expiry.ensures.same
