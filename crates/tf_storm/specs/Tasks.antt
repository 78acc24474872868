-- What the commands of scripts give the workers of a storm to do.
use Rattle.std.specs.Prelude.{ℕ, List, [], ◌∷◌, Result, Ok, Err}
use Rattle.std.specs.List.{flat_map}
use Rattle.tf_script.specs.Command.{Command, accounts, transfers, pulse, publish, query, lookup_accounts, lookup_transfers}
use Rattle.tf_script.specs.Script.{Place, script_of}
use Rattle.tf_script.specs.declared.command.Query.TheVariants as asks
use Rattle.tf_asking.specs.declared.ask.Ask.{Ask}
use Rattle.tf_asking.specs.declared.ask.Ask.TheVariants as ask
use Rattle.tf_workers.specs.declared.work.Work.{Work}
use Rattle.tf_workers.specs.declared.work.Work.TheVariants.{Accounts, Transfers, Pulse, Publish}

-- a piece of a client's work, as the command that asks for it
abbrev pub work_view : Work → Command
work_view (Accounts events now) = accounts now events.items
work_view (Transfers events now) = transfers now events.items
work_view (Pulse now max) = pulse now max
work_view Publish = publish

-- what a query worker is asked once, as the command that asks it
abbrev pub ask_view : Ask → Command
ask_view (ask.AccountTransfers filter) = query (asks.AccountTransfers filter)
ask_view (ask.AccountBalances filter) = query (asks.AccountBalances filter)
ask_view (ask.QueryAccounts filter) = query (asks.Accounts filter)
ask_view (ask.QueryTransfers filter) = query (asks.Transfers filter)
ask_view (ask.Accounts ids) = lookup_accounts ids.items
ask_view (ask.Transfers ids) = lookup_transfers ids.items

-- a command, if a client runs it: a batch, a pulse or a publish
abbrev pub client_part : Command → List Command
client_part (accounts now events) = accounts now events ∷ []
client_part (transfers now events) = transfers now events ∷ []
client_part (pulse now max) = pulse now max ∷ []
client_part publish = publish ∷ []
client_part _ = []

-- a command, if a query worker is asked it: a query or a look-up
abbrev pub asked_part : Command → List Command
asked_part (query asked) = query asked ∷ []
asked_part (lookup_accounts ids) = lookup_accounts ids ∷ []
asked_part (lookup_transfers ids) = lookup_transfers ids ∷ []
asked_part _ = []

-- the commands of a script, none where it has a fault
abbrev pub commands_in : Result (List Command) Place → List Command
commands_in (Ok commands) = commands
commands_in (Err place) = []

-- what a script gives its client to do, in its order
abbrev pub client_work : List ℕ → List Command
client_work script = flat_map client_part (commands_in (script_of script))

-- what a script asks a query worker, in its order
abbrev pub asked_work : List ℕ → List Command
asked_work script = flat_map asked_part (commands_in (script_of script))
