-- Events and commands in the order in which they are read.
use Rattle.std.proofs.Common.{◌≡◌, ℕ, List, [], ◌∷◌, ◌++◌, refl, sym, ap, ◌∙◌, append_assoc}
use Rattle.tf_records.specs.declared.account.Account.{Account}
use Rattle.tf_records.specs.declared.transfer.Transfer.{Transfer}
use Rattle.tf_script.specs.Command.{Command, accounts, transfers}
use Rattle.tf_script.specs.Script.{with_account, with_transfer}
use Rattle.tf_script.specs.Reader.Reading.{with_account_events, with_transfer_events}

pub with_account_events-push : (events : List Account) (event : Account) (commands : List Command) → with_account_events (events ++ event ∷ []) commands ≡ with_account_events events (with_account event commands)
with_account_events-push [] event commands = refl
with_account_events-push (first ∷ events) event commands = ap (with_account first) (with_account_events-push events event commands)

pub with_transfer_events-push : (events : List Transfer) (event : Transfer) (commands : List Command) → with_transfer_events (events ++ event ∷ []) commands ≡ with_transfer_events events (with_transfer event commands)
with_transfer_events-push [] event commands = refl
with_transfer_events-push (first ∷ events) event commands = ap (with_transfer first) (with_transfer_events-push events event commands)

with_account_events-all : (events : List Account) (now : ℕ) (commands : List Command) → with_account_events events (accounts now [] ∷ commands) ≡ accounts now events ∷ commands
with_account_events-all [] now commands = refl
with_account_events-all (first ∷ events) now commands = ap (with_account first) (with_account_events-all events now commands)

with_transfer_events-all : (events : List Transfer) (now : ℕ) (commands : List Command) → with_transfer_events events (transfers now [] ∷ commands) ≡ transfers now events ∷ commands
with_transfer_events-all [] now commands = refl
with_transfer_events-all (first ∷ events) now commands = ap (with_transfer first) (with_transfer_events-all events now commands)

-- a whole batch goes to the commands before it
pub accounts-end : (read : List Command) (events : List Account) (now : ℕ) (commands : List Command) → (read ++ accounts now events ∷ []) ++ commands ≡ read ++ with_account_events events (accounts now [] ∷ commands)
accounts-end read events now commands =
    append_assoc read (accounts now events ∷ []) commands ∙ ap (λ c. read ++ c) (sym (with_account_events-all events now commands))

pub transfers-end : (read : List Command) (events : List Transfer) (now : ℕ) (commands : List Command) → (read ++ transfers now events ∷ []) ++ commands ≡ read ++ with_transfer_events events (transfers now [] ∷ commands)
transfers-end read events now commands =
    append_assoc read (transfers now events ∷ []) commands ∙ ap (λ c. read ++ c) (sym (with_transfer_events-all events now commands))
