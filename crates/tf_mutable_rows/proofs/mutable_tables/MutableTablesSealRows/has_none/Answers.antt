use Rattle.std.proofs.Common.{refl, sym, ◌∙◌, ap}
use Rattle.tf_manifest.specs.declared.kind.Kind.TheVariants as kind
use Rattle.tf_manifest.specs.declared.kind.StampRow.TheVariants as stamp
use Rattle.tf_mutable_rows.proofs.Fresh.{expiry_read, field_read, index_read, no_log, no_tree}
use Rattle.tf_mutable_rows.proofs.Indexes.{no_keys}
use Rattle.tf_mutable_rows.proofs.mutable_tables.MutableTablesSealRows.has_none.Goals as goal

pub returns-in-Stamp-AccountIds : goal.returns-in-Stamp-AccountIds
returns-in-Stamp-AccountIds g c = no_tree _ c.args.self.now c.self.view_is c.args.row (kind.Stamp stamp.AccountIds) (ap kind.Stamp (sym c.in-Stamp-AccountIds.field-0-is) ∙ c.in-Stamp-AccountIds.ensures) _ refl _ c.is_empty.ensures

pub returns-in-Stamp-ExpiryEntries : goal.returns-in-Stamp-ExpiryEntries
returns-in-Stamp-ExpiryEntries g c = no_log _ c.args.self.now c.self.view_is c.args.row (kind.Stamp stamp.ExpiryEntries) (ap kind.Stamp (sym c.in-Stamp-ExpiryEntries.field-0-is) ∙ c.in-Stamp-ExpiryEntries.ensures) _ refl _ c.is_empty-in-Stamp-ExpiryEntries.ensures

pub returns-in-Account : goal.returns-in-Account
returns-in-Account g c = no_log _ c.args.self.now c.self.view_is c.args.row kind.Account c.in-Account.ensures _ refl _ c.is_empty-in-Account.ensures

pub returns-in-Transfer : goal.returns-in-Transfer
returns-in-Transfer g c = no_log _ c.args.self.now c.self.view_is c.args.row kind.Transfer c.in-Transfer.ensures _ refl _ c.is_empty-in-Transfer.ensures

pub returns-in-Id : goal.returns-in-Id
returns-in-Id g c = no_tree _ c.args.self.now c.self.view_is c.args.row kind.Id c.in-Id.ensures _ refl _ c.is_empty-in-Id.ensures

pub returns-in-OfAccounts : goal.returns-in-OfAccounts
returns-in-OfAccounts g c = no_log _ c.args.self.now c.self.view_is c.args.row (kind.Unit c.in-Unit.row) c.in-Unit.ensures _ (index_read _ _ _ c.in-Unit.row c.in-OfAccounts.at _ _ c.in-OfAccounts.ensures.0 c.in-OfAccounts.ensures.1 c.self.invariant c.as_slice.ensures c.index-as_slice-at.is) _ c.is_empty-in-OfAccounts.ensures

pub returns-in-OfTransfers : goal.returns-in-OfTransfers
returns-in-OfTransfers g c = no_log _ c.args.self.now c.self.view_is c.args.row (kind.Unit c.in-Unit.row) c.in-Unit.ensures _ (field_read c.self.inside.account_indexes c.self.inside.transfers c.self.inside.expiry c.self.invariant c.in-OfTransfers.field-0 c.in-Unit.row c.in-OfTransfers.ensures) _ (c.is_empty-in-OfTransfers.ensures ∙ no_keys c.in-OfTransfers.field-0 _)

pub returns-in-Expiry : goal.returns-in-Expiry
returns-in-Expiry g c = no_tree _ c.args.self.now c.self.view_is c.args.row (kind.Unit c.in-Unit.row) c.in-Unit.ensures _ (expiry_read _ c.self.inside.transfers _ c.self.invariant c.in-Unit.row c.in-Expiry.ensures) _ c.is_empty-in-Expiry.ensures

pub returns-in-State : goal.returns-in-State
returns-in-State g c = no_log _ c.args.self.now c.self.view_is c.args.row kind.State c.in-State.ensures _ refl _ c.is_empty-in-State.ensures

pub returns-in-Sums : goal.returns-in-Sums
returns-in-Sums g c = no_log _ c.args.self.now c.self.view_is c.args.row kind.Sums c.in-Sums.ensures _ refl _ c.is_empty-in-Sums.ensures

pub returns-in-Status : goal.returns-in-Status
returns-in-Status g c = no_log _ c.args.self.now c.self.view_is c.args.row kind.Status c.in-Status.ensures _ refl _ c.is_empty-in-Status.ensures
