use Rattle.std.proofs.Common.{[], ◌∷◌, refl}
use Rattle.tf_journal.specs.declared.entry.Entry.TheVariants as entry
use Rattle.tf_ledger_tests.specs.declared.entries.TheConstants.{CASH, ORDER, POST, SALES}
use Rattle.tf_journal.proofs.Examples.{account_grows, failed_grows, transfer_grows}
use Rattle.tf_ledger_tests.proofs.entries.post_and_undo.Goals as goal

pub add_account-requires : goal.add_account-requires
add_account-requires g c =
    rw c.requires (account_grows [] (record CASH { timestamp = 0 }) CASH refl refl refl refl)

pub add_account-requires-2 : goal.add_account-requires-2
add_account-requires-2 g c =
    rw (c.in_ok-add_account.ensures.addition.ok, c.requires)
    (account_grows (entry.Account CASH ∷ []) (record SALES { timestamp = 0 }) SALES refl refl refl refl)

pub add_transfer-requires : goal.add_transfer-requires
add_transfer-requires g c =
    rw (c.keep.ensures.same, c.in_ok-add_account-2.ensures.addition.ok, c.in_ok-add_account.ensures.addition.ok, c.requires)
    (transfer_grows (entry.Account CASH ∷ entry.Account SALES ∷ []) (record ORDER { timestamp = 0 }) ORDER refl refl refl refl)

pub add_transfer-requires-2 : goal.add_transfer-requires-2
add_transfer-requires-2 g c =
    rw (c.in_ok-add_transfer.ensures.addition.ok, c.keep.ensures.same, c.in_ok-add_account-2.ensures.addition.ok, c.in_ok-add_account.ensures.addition.ok, c.requires)
    (transfer_grows (entry.Account CASH ∷ entry.Account SALES ∷ entry.Transfer ORDER ∷ []) (record POST { timestamp = 0 }) POST refl refl refl refl)

pub add_failed-requires : goal.add_failed-requires
add_failed-requires g c =
    rw (c.in_ok-add_transfer-2.ensures.addition.ok, c.in_ok-add_transfer.ensures.addition.ok, c.keep.ensures.same, c.in_ok-add_account-2.ensures.addition.ok, c.in_ok-add_account.ensures.addition.ok, c.requires)
    (failed_grows (entry.Account CASH ∷ entry.Account SALES ∷ entry.Transfer ORDER ∷ entry.Transfer POST ∷ []) 7 9 refl refl refl refl)
