-- The code's commands and refusals, seen as those of a script.
use Rattle.std.specs.Prelude.{◌≡◌, List, map, Result, Err, IsOk}
use Rattle.tf_records.specs.declared.refusal.Refusal.{Refusal}
use Rattle.tf_records.specs.declared.refusal.Refusal.TheVariants.{NoMemory, BadLine}
use Rattle.tf_script.specs.Command.{Command, accounts, transfers, pulse, publish, compact, query, lookup_accounts, lookup_transfers}
use Rattle.tf_script.specs.Script.{Place}
use Rattle.tf_script.specs.declared.command.Command.{Command as CommandValue}
use Rattle.tf_script.specs.declared.command.Command.TheVariants.{Accounts, Transfers, Pulse, Publish, Compact, Query, LookupAccounts, LookupTransfers}

-- a command without where its events or ids lie
abbrev pub command_view : {A : Type 0} → CommandValue A → Command
command_view (Accounts now events) = accounts now events.items
command_view (Transfers now events) = transfers now events.items
command_view (Pulse now max) = pulse now max
command_view Publish = publish
command_view Compact = compact
command_view (Query asked) = query asked
command_view (LookupAccounts ids) = lookup_accounts ids.items
command_view (LookupTransfers ids) = lookup_transfers ids.items

-- commands without where their events or ids lie
abbrev pub commands_of : {A : Type 0} → List (CommandValue A) → List Command
commands_of commands = map command_view commands

-- a refusal names the first fault, and there is one; or memory was refused, and there is none
abbrev pub Explains : Refusal → Result (List Command) Place → Type 0
Explains NoMemory script = IsOk script
Explains (BadLine line column) script = script ≡ Err (record { line = line; column = column })
Explains refusal script = ⊥
