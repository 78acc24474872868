-- Changes of rows that have nothing of a transfer's record.
use Rattle.std.proofs.Common.{◌≡◌, ℕ, List, [], ◌∷◌, ◌++◌, map, Option, Some, refl, sym, subst}
use Rattle.std.specs.Option.{option_map_or}
use Rattle.tf_records.specs.declared.account.Account.{Account}
use Rattle.tf_journal.specs.declared.entry.Entry.TheVariants as entry
use Rattle.tf_journal.specs.declared.status.Status.TheVariants as status
use Rattle.tf_manifest.specs.declared.row.Row.{Row}
use Rattle.tf_manifest.specs.declared.row.Row.TheVariants as row
use Rattle.tf_rows.specs.declared.change.Change.{Change}
use Rattle.tf_rows.specs.declared.found.Found.{Found}
use Rattle.tf_rows.specs.Changes.{AreSingle, IsSingle, listed}
use Rattle.tf_rows.specs.Edits.{Edit, expired_states, expiry_edit, gone, nothing_found, status_edit}
use Rattle.tf_rows.specs.Next.{change_of, changes_by}

single_both : (first second : List Change) → AreSingle first → AreSingle second → AreSingle (first ++ second)
single_both [] second a b = b
single_both (change ∷ first) second a b = (a.0, single_both first second a.1 b)

-- the first of two lists, and the second
pub single_first : (first second : List Change) → AreSingle (first ++ second) → AreSingle first
single_first [] second are = tt
single_first (change ∷ first) second are = (are.0, single_first first second are.1)

pub single_second : (first second : List Change) → AreSingle (first ++ second) → AreSingle second
single_second [] second are = are
single_second (change ∷ first) second are = single_second first second are.1

-- the changes of such a row
single_row : (r : Row) → IsSingle r → (edits : List Edit) → AreSingle (map (change_of r) edits)
single_row r is [] = tt
single_row r is (edit ∷ edits) = (is, single_row r is edits)

single_of : (r : Row) → IsSingle r → (edits : List Edit) (changes : List Change) → changes ≡ map (change_of r) edits → AreSingle changes
single_of r is edits changes same = subst AreSingle (sym same) (single_row r is edits)

-- and those of two such rows
pub single_two : (r s : Row) → IsSingle r → IsSingle s → (first second : List Edit) (changes others : List Change) → changes ≡ map (change_of r) first → others ≡ map (change_of s) second → AreSingle (changes ++ others)
single_two r s a b first second changes others is are =
    single_both changes others (single_of r a first changes is) (single_of s b second others are)

-- one that is there
pub single_one : (change : Option Change) (one : Change) → change ≡ Some one → IsSingle one.row → AreSingle (listed change)
single_one change one is single = subst (λ (o : Option Change). AreSingle (listed o)) (sym is) (single, tt)

-- those of an account, an expiry and a failed id
pub single_account : (account : Account) → AreSingle (changes_by nothing_found (entry.Account account))
single_account account = (refl, (refl, (refl, (refl, (refl, (refl, (refl, (refl, tt))))))))

pub single_expiry : (found : Found) (timestamp pending : ℕ) → AreSingle (changes_by found (entry.Expiry timestamp pending))
single_expiry found timestamp pending =
    single_both (map (change_of row.AccountSums) states) _ (single_row row.AccountSums refl states)
    (single_both (map (change_of row.PendingStatus) statuses) _ (single_row row.PendingStatus refl statuses)
    (single_both (map (change_of row.Expiry) expiries) _ (single_row row.Expiry refl expiries) (refl, tt))) where
      states : List Edit
      states = option_map_or (expired_states found) found.settled []

      statuses : List Edit
      statuses = option_map_or (status_edit status.Expired) found.settled []

      expiries : List Edit
      expiries = option_map_or (expiry_edit gone) found.settled []

pub single_failed : (timestamp id : ℕ) → AreSingle (changes_by nothing_found (entry.Failed timestamp id))
single_failed timestamp id = (refl, tt)

-- what is made of such changes is of them
pub single_made : (made changes : List Change) → made ≡ changes → AreSingle changes → AreSingle made
single_made made changes is single = subst AreSingle (sym is) single
