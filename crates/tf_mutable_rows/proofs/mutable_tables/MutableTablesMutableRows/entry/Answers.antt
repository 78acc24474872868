use Rattle.std.proofs.Common.{refl, sym, ◌∙◌, ap}
use Rattle.tf_manifest.specs.declared.kind.Kind.TheVariants as kind
use Rattle.tf_manifest.specs.declared.kind.StampRow.TheVariants as stamp
use Rattle.tf_mutable_rows.proofs.Fresh.{expiry_read, field_read, found, index_read}
use Rattle.tf_mutable_rows.proofs.mutable_tables.MutableTablesMutableRows.entry.Goals as goal

pub returns-in-Stamp-AccountIds : goal.returns-in-Stamp-AccountIds
returns-in-Stamp-AccountIds g c = found _ c.args.self.now c.self.view_is c.args.row (kind.Stamp stamp.AccountIds) (ap kind.Stamp (sym c.in-Stamp-AccountIds.field-0-is) ∙ c.in-Stamp-AccountIds.ensures) _ refl c.args.key.now _ c.entry_in.ensures

pub returns-in-Stamp-ExpiryEntries : goal.returns-in-Stamp-ExpiryEntries
returns-in-Stamp-ExpiryEntries g c = found _ c.args.self.now c.self.view_is c.args.row (kind.Stamp stamp.ExpiryEntries) (ap kind.Stamp (sym c.in-Stamp-ExpiryEntries.field-0-is) ∙ c.in-Stamp-ExpiryEntries.ensures) _ refl c.args.key.now _ c.entry_in-in-Stamp-ExpiryEntries.ensures

pub returns-in-Account : goal.returns-in-Account
returns-in-Account g c = found _ c.args.self.now c.self.view_is c.args.row kind.Account c.in-Account.ensures _ refl c.args.key.now _ c.entry_in-in-Account.ensures

pub returns-in-Transfer : goal.returns-in-Transfer
returns-in-Transfer g c = found _ c.args.self.now c.self.view_is c.args.row kind.Transfer c.in-Transfer.ensures _ refl c.args.key.now _ c.object.ensures

pub returns-in-Id : goal.returns-in-Id
returns-in-Id g c = found _ c.args.self.now c.self.view_is c.args.row kind.Id c.in-Id.ensures _ refl c.args.key.now _ c.entry_in-in-Id.ensures

pub returns-in-OfAccounts : goal.returns-in-OfAccounts
returns-in-OfAccounts g c = found _ c.args.self.now c.self.view_is c.args.row (kind.Unit c.in-Unit.row) c.in-Unit.ensures _ (index_read _ _ _ c.in-Unit.row c.in-OfAccounts.at _ _ c.in-OfAccounts.ensures.0 c.in-OfAccounts.ensures.1 c.self.invariant c.as_slice.ensures c.index-as_slice-at.is) c.args.key.now _ c.entry_in-in-OfAccounts.ensures

pub returns-in-OfTransfers : goal.returns-in-OfTransfers
returns-in-OfTransfers g c = found _ c.args.self.now c.self.view_is c.args.row (kind.Unit c.in-Unit.row) c.in-Unit.ensures _ (field_read c.self.inside.account_indexes c.self.inside.transfers c.self.inside.expiry c.self.invariant c.in-OfTransfers.field c.in-Unit.row c.in-OfTransfers.ensures) c.args.key.now _ c.key_entry.ensures

pub returns-in-Expiry : goal.returns-in-Expiry
returns-in-Expiry g c = found _ c.args.self.now c.self.view_is c.args.row (kind.Unit c.in-Unit.row) c.in-Unit.ensures _ (expiry_read _ c.self.inside.transfers _ c.self.invariant c.in-Unit.row c.in-Expiry.ensures) c.args.key.now _ c.entry_in-in-Expiry.ensures

pub returns-in-State : goal.returns-in-State
returns-in-State g c = found _ c.args.self.now c.self.view_is c.args.row kind.State c.in-State.ensures _ refl c.args.key.now _ c.entry_in-in-State.ensures

pub returns-in-Sums : goal.returns-in-Sums
returns-in-Sums g c = found _ c.args.self.now c.self.view_is c.args.row kind.Sums c.in-Sums.ensures _ refl c.args.key.now _ c.entry_in-in-Sums.ensures

pub returns-in-Status : goal.returns-in-Status
returns-in-Status g c = found _ c.args.self.now c.self.view_is c.args.row kind.Status c.in-Status.ensures _ refl c.args.key.now _ c.entry_in-in-Status.ensures
