-- Rows of different names are apart: their kinds are, and their places among those of one kind.
use Rattle.std.proofs.Common.{◌≡◌, ◌≢◌, ℕ, zero, suc, ◌<◌, List, [], ◌∷◌, length, refl, sym, ◌∙◌, ap, slice_set, arith}
use Rattle.std.specs.Prelude.{slice_index_or}
use Rattle.tf_manifest.specs.declared.kind.Kind.{Kind}
use Rattle.tf_manifest.specs.declared.kind.Kind.TheVariants as kind
use Rattle.tf_manifest.specs.declared.kind.StampRow.{StampRow}
use Rattle.tf_manifest.specs.declared.kind.StampRow.TheVariants as stamp
use Rattle.tf_manifest.specs.declared.kind.UnitRow.{UnitRow}
use Rattle.tf_manifest.specs.declared.kind.UnitRow.TheVariants as unit
use Rattle.tf_manifest.specs.declared.row.Row.{Row}
use Rattle.tf_manifest.specs.declared.row.Row.TheVariants as row
use Rattle.tf_manifest.specs.Kinds.{kind_of, stamp_index, unit_index}

-- lists of which one is replaced
module _ {X : Type 0} where
  pub set_here : (xs : List (List X)) (at : ℕ) (x : List X) → at < length xs → slice_index_or (slice_set xs at x) at [] ≡ x
  set_here [] at x h = absurd (omega (arith, h))
  set_here (y ∷ xs) zero x h = refl
  set_here (y ∷ xs) (suc at) x h = set_here xs at x (omega (arith, h))

  pub set_elsewhere : (xs : List (List X)) (at other : ℕ) (x : List X) → other ≢ at → slice_index_or (slice_set xs at x) other [] ≡ slice_index_or xs other []
  set_elsewhere [] at other x h = refl
  set_elsewhere (y ∷ xs) zero zero x h = absurd (h refl)
  set_elsewhere (y ∷ xs) zero (suc other) x h = refl
  set_elsewhere (y ∷ xs) (suc at) zero x h = refl
  set_elsewhere (y ∷ xs) (suc at) (suc other) x h = set_elsewhere xs at other x (λ e. h (ap suc e))

-- the row of a kind
abbrev pub row_by : Kind → Row
row_by (kind.Stamp stamp.AccountIds) = row.AccountIds
row_by (kind.Stamp stamp.ExpiryEntries) = row.ExpiryEntries
row_by kind.Account = row.AccountObjects
row_by kind.Transfer = row.TransferObjects
row_by kind.Id = row.TransferIds
row_by (kind.Unit unit.AccountUserData128) = row.AccountUserData128
row_by (kind.Unit unit.AccountUserData64) = row.AccountUserData64
row_by (kind.Unit unit.AccountUserData32) = row.AccountUserData32
row_by (kind.Unit unit.AccountLedger) = row.AccountLedger
row_by (kind.Unit unit.AccountCode) = row.AccountCode
row_by (kind.Unit unit.TransferDebit) = row.TransferDebit
row_by (kind.Unit unit.TransferCredit) = row.TransferCredit
row_by (kind.Unit unit.TransferUserData128) = row.TransferUserData128
row_by (kind.Unit unit.TransferUserData64) = row.TransferUserData64
row_by (kind.Unit unit.TransferUserData32) = row.TransferUserData32
row_by (kind.Unit unit.TransferLedger) = row.TransferLedger
row_by (kind.Unit unit.TransferCode) = row.TransferCode
row_by (kind.Unit unit.Expiry) = row.Expiry
row_by kind.State = row.AccountSums
row_by kind.Sums = row.History
row_by kind.Status = row.PendingStatus

pub row_back : (r : Row) → row_by (kind_of r) ≡ r
row_back = elim [
  | row.AccountObjects ↦ refl
  | row.AccountIds ↦ refl
  | row.AccountUserData128 ↦ refl
  | row.AccountUserData64 ↦ refl
  | row.AccountUserData32 ↦ refl
  | row.AccountLedger ↦ refl
  | row.AccountCode ↦ refl
  | row.AccountSums ↦ refl
  | row.TransferObjects ↦ refl
  | row.TransferIds ↦ refl
  | row.TransferDebit ↦ refl
  | row.TransferCredit ↦ refl
  | row.TransferUserData128 ↦ refl
  | row.TransferUserData64 ↦ refl
  | row.TransferUserData32 ↦ refl
  | row.TransferLedger ↦ refl
  | row.TransferCode ↦ refl
  | row.PendingStatus ↦ refl
  | row.Expiry ↦ refl
  | row.ExpiryEntries ↦ refl
  | row.History ↦ refl
]

pub apart_by : (r other : Row) → other ≢ r → kind_of other ≢ kind_of r
apart_by r other h e = h (sym (row_back other) ∙ ap row_by e ∙ row_back r)

pub stamp_apart : (u other : StampRow) → kind.Stamp other ≢ kind.Stamp u → stamp_index other ≢ stamp_index u
stamp_apart stamp.AccountIds stamp.AccountIds h e = h refl
stamp_apart stamp.AccountIds stamp.ExpiryEntries h e = absurd (omega (arith, e))
stamp_apart stamp.ExpiryEntries stamp.AccountIds h e = absurd (omega (arith, e))
stamp_apart stamp.ExpiryEntries stamp.ExpiryEntries h e = h refl

abbrev unit_by : ℕ → UnitRow
unit_by index = slice_index_or (unit.AccountUserData128 ∷ unit.AccountUserData64 ∷ unit.AccountUserData32 ∷ unit.AccountLedger ∷ unit.AccountCode ∷ unit.TransferDebit ∷ unit.TransferCredit ∷ unit.TransferUserData128 ∷ unit.TransferUserData64 ∷ unit.TransferUserData32 ∷ unit.TransferLedger ∷ unit.TransferCode ∷ []) index unit.Expiry

unit_back : (u : UnitRow) → unit_by (unit_index u) ≡ u
unit_back = elim [
  | unit.AccountUserData128 ↦ refl
  | unit.AccountUserData64 ↦ refl
  | unit.AccountUserData32 ↦ refl
  | unit.AccountLedger ↦ refl
  | unit.AccountCode ↦ refl
  | unit.TransferDebit ↦ refl
  | unit.TransferCredit ↦ refl
  | unit.TransferUserData128 ↦ refl
  | unit.TransferUserData64 ↦ refl
  | unit.TransferUserData32 ↦ refl
  | unit.TransferLedger ↦ refl
  | unit.TransferCode ↦ refl
  | unit.Expiry ↦ refl
]

pub unit_apart : (u other : UnitRow) → kind.Unit other ≢ kind.Unit u → unit_index other ≢ unit_index u
unit_apart u other h e = h (ap kind.Unit (sym (unit_back other) ∙ ap unit_by e ∙ unit_back u))
