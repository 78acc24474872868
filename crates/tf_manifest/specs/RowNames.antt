-- The rows of a forest, in the order of their numbers.
use Rattle.std.specs.Prelude.{List, [], ◌∷◌}
use Rattle.tf_manifest.specs.declared.row.Row.{Row}
use Rattle.tf_manifest.specs.declared.row.Row.TheVariants as row

-- row 0 to row 20
abbrev pub rows_in_order : List Row
rows_in_order =
    row.AccountObjects
    ∷ row.AccountIds
    ∷ row.AccountUserData128
    ∷ row.AccountUserData64
    ∷ row.AccountUserData32
    ∷ row.AccountLedger
    ∷ row.AccountCode
    ∷ row.AccountSums
    ∷ row.TransferObjects
    ∷ row.TransferIds
    ∷ row.TransferDebit
    ∷ row.TransferCredit
    ∷ row.TransferUserData128
    ∷ row.TransferUserData64
    ∷ row.TransferUserData32
    ∷ row.TransferLedger
    ∷ row.TransferCode
    ∷ row.PendingStatus
    ∷ row.Expiry
    ∷ row.ExpiryEntries
    ∷ row.History
    ∷ []
