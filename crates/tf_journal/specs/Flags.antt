-- The flags of records, by their bits.
use Rattle.std.specs.Prelude.{ℕ, ◌==◌, bit_and, not, ◌||◌, nat_le, Bool}
use Rattle.tf_records.specs.declared.account.Account.{Account}
use Rattle.tf_records.specs.declared.transfer.Transfer.{Transfer}

-- whether one of the bits of a mask is set
abbrev pub has_flag : ℕ → ℕ → Bool
has_flag flags mask = not (bit_and flags mask == 0)

-- the event stands or falls with the next one: bit 0 of an account and of a transfer
abbrev pub is_linked : ℕ → Bool
is_linked flags = has_flag flags 1

-- debits_must_not_exceed_credits: bit 1 of an account
abbrev pub limits_debits : Account → Bool
limits_debits account = has_flag account.flags 2

-- credits_must_not_exceed_debits: bit 2
abbrev pub limits_credits : Account → Bool
limits_credits account = has_flag account.flags 4

-- history: bit 3
abbrev pub keeps_history : Account → Bool
keeps_history account = has_flag account.flags 8

-- closed: bit 5
abbrev pub is_marked_closed : Account → Bool
is_marked_closed account = has_flag account.flags 32

-- an account's flags with a bit that isn't in use: bit 4, or one above bit 5
abbrev pub has_reserved_account_flag : Account → Bool
has_reserved_account_flag account = has_flag account.flags 16 || nat_le 64 account.flags

-- pending: bit 1 of a transfer
abbrev pub is_pending : Transfer → Bool
is_pending transfer = has_flag transfer.flags 2

-- post_pending_transfer: bit 2
abbrev pub is_post : Transfer → Bool
is_post transfer = has_flag transfer.flags 4

-- void_pending_transfer: bit 3
abbrev pub is_void : Transfer → Bool
is_void transfer = has_flag transfer.flags 8

-- a transfer that posts or voids a pending one
abbrev pub is_settling : Transfer → Bool
is_settling transfer = is_post transfer || is_void transfer

-- closing_debit: bit 6
abbrev pub closes_debit : Transfer → Bool
closes_debit transfer = has_flag transfer.flags 64

-- closing_credit: bit 7
abbrev pub closes_credit : Transfer → Bool
closes_credit transfer = has_flag transfer.flags 128

-- a transfer's flags with a bit that isn't in use: bit 4 or 5, or one above bit 7
abbrev pub has_reserved_transfer_flag : Transfer → Bool
has_reserved_transfer_flag transfer =
    has_flag transfer.flags 16 || has_flag transfer.flags 32 || nat_le 256 transfer.flags
