-- A manifest with no tables.
use Rattle.std.proofs.Common.{◌≡◌, ℕ, [], refl}
use Rattle.tf_table.specs.declared.key.Key.{Key}
use Rattle.tf_manifest.specs.declared.row.Row.{Row}
use Rattle.tf_manifest.specs.declared.row.Row.TheVariants as row
use Rattle.tf_manifest.specs.Shows.{value_of}
use Rattle.tf_manifest.specs.View.{content_in, no_tables}

-- no row has a key, and neither has any row of an empty journal
pub nothing_shown : (limit : ℕ) (r : Row) (key : Key) → content_in (no_tables limit) r key ≡ value_of [] r key
nothing_shown limit row.AccountObjects key = refl
nothing_shown limit row.AccountIds key = refl
nothing_shown limit row.AccountUserData128 key = refl
nothing_shown limit row.AccountUserData64 key = refl
nothing_shown limit row.AccountUserData32 key = refl
nothing_shown limit row.AccountLedger key = refl
nothing_shown limit row.AccountCode key = refl
nothing_shown limit row.AccountSums key = refl
nothing_shown limit row.TransferObjects key = refl
nothing_shown limit row.TransferIds key = refl
nothing_shown limit row.TransferDebit key = refl
nothing_shown limit row.TransferCredit key = refl
nothing_shown limit row.TransferUserData128 key = refl
nothing_shown limit row.TransferUserData64 key = refl
nothing_shown limit row.TransferUserData32 key = refl
nothing_shown limit row.TransferLedger key = refl
nothing_shown limit row.TransferCode key = refl
nothing_shown limit row.PendingStatus key = refl
nothing_shown limit row.Expiry key = refl
nothing_shown limit row.ExpiryEntries key = refl
nothing_shown limit row.History key = refl
