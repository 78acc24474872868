-- Accounts that are held beside the rows: what is held is right, and what an entry makes of it.
use Rattle.std.specs.Prelude.{◌≡◌, ◌==◌, ℕ, List, Option, Some, None, if◌then◌else◌, nat_eq}
use Rattle.std.specs.Map.{lookup}
use Rattle.std.specs.Option.{option_and_then, option_map, option_map_or}
use Rattle.tf_records.specs.declared.account.Account.{Account}
use Rattle.tf_journal.specs.declared.entry.Entry.{Entry}
use Rattle.tf_journal.specs.declared.entry.Entry.TheVariants as entry
use Rattle.tf_journal.specs.declared.side.Side.{Side}
use Rattle.tf_journal.specs.declared.side.Side.TheVariants.{Debit, Credit}
use Rattle.tf_manifest.specs.declared.value.State.{State}
use Rattle.tf_rows.specs.declared.former.Former.{Former}
use Rattle.tf_rows.specs.declared.former.Formers.{Formers}
use Rattle.tf_rows.specs.declared.found.Found.{Found}
use Rattle.tf_rows.specs.declared.found.Party.{Party}
use Rattle.tf_rows.specs.Edits.{new_state, party_after, state_after, state_settled}

-- accounts with their states, by their ids
abbrev pub Accounts : Type 0
Accounts = ℕ → Option Party

-- the account that is held under an id, if one is
abbrev pub held_at : ℕ → List (ℕ × Party) → Option Party
held_at id held = lookup (nat_eq id) held

-- each account that is held is right. What isn't held says nothing
abbrev pub AreAmong : Accounts → List (ℕ × Party) → Type 0
AreAmong accounts held = (id : ℕ) (party : Party) → held_at id held ≡ Some party → accounts id ≡ Some party

-- accounts, of which one is this
abbrev pub with_party : Party → Accounts → Accounts
with_party party accounts id = if id == party.account.id then Some party else accounts id

-- if there is one
abbrev pub with_any : Option Party → Accounts → Accounts
with_any None accounts = accounts
with_any (Some party) accounts = with_party party accounts

-- an account with a former state
abbrev pub with_state_back : State → Party → Party
with_state_back state party = record party { state = state }

-- accounts before a change of one of them: it had this state, or wasn't there
abbrev pub without_change : Former → Accounts → Accounts
without_change former accounts id =
    if id == former.id
    then option_and_then (λ state. option_map (with_state_back state) (accounts id)) former.state
    else accounts id

-- if there was one
abbrev pub without_any : Option Former → Accounts → Accounts
without_any None accounts = accounts
without_any (Some former) accounts = without_change former accounts

-- a new account, with its state
abbrev pub new_party : Account → Party
new_party account = record { account = account; state = new_state account }

-- accounts after changes of the states of those that were found on both sides
abbrev pub with_states : Found → (Side → State → State) → Accounts → Accounts
with_states found change accounts =
    with_any (option_map (party_after (change Credit)) found.credit)
    (with_any (option_map (party_after (change Debit)) found.debit) accounts)

-- accounts after an entry, by what was looked up for it
abbrev pub accounts_after : Found → Entry → Accounts → Accounts
accounts_after found (entry.Account account) accounts = with_party (new_party account) accounts
accounts_after found (entry.Transfer transfer) accounts =
    with_states found (λ side. state_after side transfer found.settled) accounts
accounts_after found (entry.Expiry timestamp pending) accounts =
    option_map_or (λ expiring. with_states found (λ side. state_settled side expiring 0) accounts) found.settled accounts
accounts_after found (entry.Failed timestamp id) accounts = accounts

-- an account as it was found
abbrev pub former_of : Party → Former
former_of party = record { id = party.account.id; state = Some party.state }

-- the accounts that an entry changes, as they are before it
abbrev pub formers_of : Found → Entry → Formers
formers_of found (entry.Account account) = record { first = Some (record { id = account.id; state = None }); second = None }
formers_of found _ = record { first = option_map former_of found.debit; second = option_map former_of found.credit }

-- accounts before a change of those
abbrev pub accounts_before : Formers → Accounts → Accounts
accounts_before formers accounts = without_any formers.second (without_any formers.first accounts)
