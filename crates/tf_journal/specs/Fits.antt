-- Records whose fields fit their types.
use Rattle.std.specs.Prelude.{◌^◌, ◌<◌}
use Rattle.tf_records.specs.declared.account.Account.{Account}
use Rattle.tf_records.specs.declared.transfer.Transfer.{Transfer}

pub record FitsAccount (account : Account) : Type 0 where
  pub id : account.id < 2 ^ 128
  pub debits_pending : account.debits_pending < 2 ^ 128
  pub debits_posted : account.debits_posted < 2 ^ 128
  pub credits_pending : account.credits_pending < 2 ^ 128
  pub credits_posted : account.credits_posted < 2 ^ 128
  pub user_data_128 : account.user_data_128 < 2 ^ 128
  pub user_data_64 : account.user_data_64 < 2 ^ 64
  pub user_data_32 : account.user_data_32 < 2 ^ 32
  pub reserved : account.reserved < 2 ^ 32
  pub ledger : account.ledger < 2 ^ 32
  pub code : account.code < 2 ^ 16
  pub flags : account.flags < 2 ^ 16
  pub timestamp : account.timestamp < 2 ^ 64

pub record FitsTransfer (transfer : Transfer) : Type 0 where
  pub id : transfer.id < 2 ^ 128
  pub debit_account_id : transfer.debit_account_id < 2 ^ 128
  pub credit_account_id : transfer.credit_account_id < 2 ^ 128
  pub amount : transfer.amount < 2 ^ 128
  pub pending_id : transfer.pending_id < 2 ^ 128
  pub user_data_128 : transfer.user_data_128 < 2 ^ 128
  pub user_data_64 : transfer.user_data_64 < 2 ^ 64
  pub user_data_32 : transfer.user_data_32 < 2 ^ 32
  pub timeout : transfer.timeout < 2 ^ 32
  pub ledger : transfer.ledger < 2 ^ 32
  pub code : transfer.code < 2 ^ 16
  pub flags : transfer.flags < 2 ^ 16
  pub timestamp : transfer.timestamp < 2 ^ 64
