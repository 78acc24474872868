-- A transfer's changes, part by part, some of which may be absent.
use Rattle.std.proofs.Common.{◌≡◌, ℕ, List, [], ◌∷◌, ◌++◌, map, Option, Some, None, refl, sym, ◌∙◌, ap, append-nil, append_assoc}
use Rattle.std.specs.Option.{option_map, option_map_or}
use Rattle.std.proofs.lemmas.List.{map-append}
use Rattle.tf_records.specs.declared.transfer.Transfer.{Transfer}
use Rattle.tf_journal.specs.declared.entry.Entry.TheVariants as entry
use Rattle.tf_journal.specs.declared.side.Side.{Side}
use Rattle.tf_journal.specs.declared.side.Side.TheVariants.{Debit, Credit}
use Rattle.tf_manifest.specs.declared.row.Row.{Row}
use Rattle.tf_manifest.specs.declared.row.Row.TheVariants as row
use Rattle.tf_manifest.specs.declared.value.State.{State}
use Rattle.tf_manifest.specs.declared.value.Value.TheVariants as value
use Rattle.tf_manifest.specs.Rows.{key_of}
use Rattle.tf_rows.specs.declared.change.Change.{Change}
use Rattle.tf_rows.specs.declared.found.Found.{Found}
use Rattle.tf_rows.specs.declared.found.Party.{Party}
use Rattle.tf_rows.specs.Changes.{listed}
use Rattle.tf_rows.specs.Edits.{Edit, history_edit, party_after, put, state_after, state_edit, transfer_edits}
use Rattle.tf_rows.specs.Next.{change_of, changes_by}

-- one that is there
pub one_listed : (change : Option Change) (one : Change) → change ≡ Some one → listed change ≡ one ∷ []
one_listed change one is = ap listed is

-- the changes of a row, by two changes that may be absent
two_listed : (r : Row) (xs ys : List Edit) (a b : Option Change)
    → listed a ≡ map (change_of r) xs → listed b ≡ map (change_of r) ys
    → listed a ++ listed b ≡ map (change_of r) (xs ++ ys)
two_listed r xs ys a b first second =
    ap (λ (cs : List Change). cs ++ listed b) first
    ∙ ap (λ (cs : List Change). map (change_of r) xs ++ cs) second
    ∙ sym (map-append (change_of r) xs ys)

-- an account after a change has the state that the change gives it
state_of_after : (change : State → State) (o : Option Party)
    → option_map_or (state_edit (λ state. state)) (option_map (party_after change) o) [] ≡ option_map_or (state_edit change) o []
state_of_after change None = refl
state_of_after change (Some p) = refl

history_of_after : (t : Transfer) (change : State → State) (o : Option Party)
    → option_map_or (history_edit t (λ state. state)) (option_map (party_after change) o) [] ≡ option_map_or (history_edit t change) o []
history_of_after t change None = refl
history_of_after t change (Some p) = refl

-- the change of an account's state, and of its history
abbrev pub IsStateOf : Option Change → Option Party → Type 0
IsStateOf change party = listed change ≡ map (change_of row.AccountSums) (option_map_or (state_edit (λ state. state)) party [])

abbrev pub IsHistoryOf : Transfer → Option Change → Option Party → Type 0
IsHistoryOf t change party = listed change ≡ map (change_of row.History) (option_map_or (history_edit t (λ state. state)) party [])

state_listed : (change : State → State) (before after : Option Party) (a : Option Change)
    → after ≡ option_map (party_after change) before → IsStateOf a after
    → listed a ≡ map (change_of row.AccountSums) (option_map_or (state_edit change) before [])
state_listed change before after a is has =
    has
    ∙ ap (λ (o : Option Party). map (change_of row.AccountSums) (option_map_or (state_edit (λ state. state)) o [])) is
    ∙ ap (map (change_of row.AccountSums)) (state_of_after change before)

history_listed : (t : Transfer) (change : State → State) (before after : Option Party) (a : Option Change)
    → after ≡ option_map (party_after change) before → IsHistoryOf t a after
    → listed a ≡ map (change_of row.History) (option_map_or (history_edit t change) before [])
history_listed t change before after a is has =
    has
    ∙ ap (λ (o : Option Party). map (change_of row.History) (option_map_or (history_edit t (λ state. state)) o [])) is
    ∙ ap (map (change_of row.History)) (history_of_after t change before)

-- what a transfer has of its own: its object, its id and its seven fields
module _ (t : Transfer) where
  abbrev pub object_change : Change
  object_change = change_of row.TransferObjects (put (key_of 0 t.timestamp) (value.Transfer t))

  abbrev pub id_change : Change
  id_change = change_of row.TransferIds (put (key_of t.id 0) (value.Stamp t.timestamp))

  abbrev field_change : Row → ℕ → Change
  field_change r field = change_of r (put (key_of field t.timestamp) value.Unit)

  abbrev pub field_changes : List Change
  field_changes =
      field_change row.TransferDebit t.debit_account_id
      ∷ field_change row.TransferCredit t.credit_account_id
      ∷ field_change row.TransferUserData128 t.user_data_128
      ∷ field_change row.TransferUserData64 t.user_data_64
      ∷ field_change row.TransferUserData32 t.user_data_32
      ∷ field_change row.TransferLedger t.ledger
      ∷ field_change row.TransferCode t.code
      ∷ []

-- a transfer's changes: its parts one after another
module _ (found : Found) (t : Transfer) where
  abbrev change_on : Side → State → State
  change_on side = state_after side t found.settled

  abbrev of_row : Row → List Change
  of_row r = map (change_of r) (transfer_edits found t r)

  -- the states of its accounts, what it has of its own, the status and the expiry of the pending transfer that it is or settles, and
  -- the history of its accounts
  abbrev pub state_changes : List Change
  state_changes = of_row row.AccountSums

  abbrev pub pending_changes : List Change
  pending_changes = of_row row.PendingStatus ++ of_row row.Expiry

  abbrev pub history_changes : List Change
  history_changes = of_row row.History

  pub in_parts : changes_by found (entry.Transfer t) ≡ state_changes ++ (object_change t ∷ id_change t ∷ (field_changes t ++ (pending_changes ++ history_changes)))
  in_parts =
      ap (λ (cs : List Change). state_changes ++ (object_change t ∷ id_change t ∷ (field_changes t ++ cs)))
      (ap (λ (cs : List Change). of_row row.PendingStatus ++ (of_row row.Expiry ++ cs)) (append-nil history_changes)
      ∙ sym (append_assoc (of_row row.PendingStatus) (of_row row.Expiry) history_changes))

  -- those of both accounts, by what they are after it
  module _ (debit credit : Option Party) (debit_is : debit ≡ option_map (party_after (state_after Debit t found.settled)) found.debit)
      (credit_is : credit ≡ option_map (party_after (state_after Credit t found.settled)) found.credit) (a b : Option Change) where
    pub states_listed : IsStateOf a debit → IsStateOf b credit → listed a ++ listed b ≡ state_changes
    states_listed first second =
        two_listed row.AccountSums (option_map_or (state_edit (change_on Debit)) found.debit []) (option_map_or (state_edit (change_on Credit)) found.credit []) a b
        (state_listed (change_on Debit) found.debit debit a debit_is first)
        (state_listed (change_on Credit) found.credit credit b credit_is second)

    pub histories_listed : IsHistoryOf t a debit → IsHistoryOf t b credit → listed a ++ listed b ≡ history_changes
    histories_listed first second =
        two_listed row.History (option_map_or (history_edit t (change_on Debit)) found.debit []) (option_map_or (history_edit t (change_on Credit)) found.credit []) a b
        (history_listed t (change_on Debit) found.debit debit a debit_is first)
        (history_listed t (change_on Credit) found.credit credit b credit_is second)
