-- What a script means: its commands in order, or the place of its first fault.
use Rattle.std.specs.Prelude.{ℕ, ◌+◌, List, [], ◌∷◌, Option, Some, None, Result, Ok, Err}
use Rattle.tf_records.specs.declared.account.Account.{Account}
use Rattle.tf_records.specs.declared.transfer.Transfer.{Transfer}
use Rattle.tf_script.specs.Lines.{lines_of}
use Rattle.tf_script.specs.Command.{Command, accounts, transfers}
use Rattle.tf_script.specs.Statements.{◌<&>◌, Statement, opens, account_event, transfer_event, closes, asks, statement_of}
use Rattle.tf_script.specs.declared.statement.Batch.{Batch}
use Rattle.tf_script.specs.declared.statement.Batch.TheVariants.{Accounts, Transfers}

-- a place in a script; both count from 1
pub record Place : Type 0 where
  pub line : ℕ
  pub column : ℕ

-- the batch before it has any event
abbrev pub empty_batch : Batch → Command
empty_batch (Accounts now) = accounts now []
empty_batch (Transfers now) = transfers now []

-- an event goes before those of the batch that comes first
abbrev pub with_account : Account → List Command → List Command
with_account event (accounts now events ∷ commands) = accounts now (event ∷ events) ∷ commands
with_account event commands = commands

-- an event goes before those of the batch that comes first
abbrev pub with_transfer : Transfer → List Command → List Command
with_transfer event (transfers now events ∷ commands) = transfers now (event ∷ events) ∷ commands
with_transfer event commands = commands

-- the batch that is open after a line
abbrev pub batch_after : Option Batch → Statement → Option Batch
batch_after batch (opens opened) = Some opened
batch_after batch closes = None
batch_after batch statement = batch

-- the commands of a line and of those after it, the first of which is the batch that is open then
abbrev pub with_line : Option Batch → Statement → List Command → List Command
with_line batch (account_event event) commands = with_account event commands
with_line batch (transfer_event event) commands = with_transfer event commands
with_line (Some batch) closes commands = empty_batch batch ∷ commands
with_line batch (asks command) commands = command ∷ commands
with_line batch statement commands = commands

-- a script ends outside a batch; number is one more than that of its last line
abbrev pub ended : Option Batch → ℕ → Result (List Command) Place
ended None number = Ok []
ended (Some batch) number = Err (record { line = number; column = 1 })

-- the commands of the lines from a number on, where this batch is open; the first of them is that batch
abbrev pub commands_from : Option Batch → ℕ → List (List ℕ) → Result (List Command) Place
commands_from batch number [] = ended batch number
commands_from batch number (line ∷ lines) =
    elim (statement_of batch line) [
      | Err column ↦ Err (record { line = number; column = column })
      | Ok statement ↦ commands_from (batch_after batch statement) (number + 1) lines <&> with_line batch statement
    ]

-- the commands of a script, or its first fault
unfoldable pub script_of : List ℕ → Result (List Command) Place
script_of script = commands_from None 1 (lines_of script)
