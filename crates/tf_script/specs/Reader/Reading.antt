-- What has been read of a script, and what follows it.
use Rattle.std.specs.Prelude.{◌≡◌, List, [], ◌∷◌, ◌++◌, Option, Some, None}
use Rattle.tf_records.specs.declared.account.Account.{Account}
use Rattle.tf_records.specs.declared.transfer.Transfer.{Transfer}
use Rattle.tf_script.specs.Command.{Command}
use Rattle.tf_script.specs.Statements.{Statement}
use Rattle.tf_script.specs.Script.{with_account, with_transfer, batch_after, with_line}
use Rattle.tf_script.specs.CommandViews.{commands_of}
use Rattle.tf_script.specs.declared.reading.Open.{Open}
use Rattle.tf_script.specs.declared.reading.Open.TheVariants.{Nothing, Accounts, Transfers}
use Rattle.tf_script.specs.declared.reading.Reading.{Reading}
use Rattle.tf_script.specs.declared.statement.Batch.{Batch}
use Rattle.tf_script.specs.declared.statement.Batch.TheVariants.{Accounts as AccountsBatch, Transfers as TransfersBatch}

-- the batch that is open
abbrev pub batch_of : {A : Type 0} → Open A → Option Batch
batch_of Nothing = None
batch_of (Accounts now events) = Some (AccountsBatch now)
batch_of (Transfers now events) = Some (TransfersBatch now)

-- events before those of the batch that comes first
abbrev pub with_account_events : List Account → List Command → List Command
with_account_events [] commands = commands
with_account_events (event ∷ events) commands = with_account event (with_account_events events commands)

-- events before those of the batch that comes first
abbrev pub with_transfer_events : List Transfer → List Command → List Command
with_transfer_events [] commands = commands
with_transfer_events (event ∷ events) commands = with_transfer event (with_transfer_events events commands)

-- the events of the open batch that are read, before what follows
abbrev pub with_open : {A : Type 0} → Open A → List Command → List Command
with_open Nothing commands = commands
with_open (Accounts now events) commands = with_account_events events.items commands
with_open (Transfers now events) commands = with_transfer_events events.items commands

-- what is read, and the commands of the lines that follow
abbrev pub resumed : {A : Type 0} → Reading A → List Command → List Command
resumed reading commands = commands_of reading.commands.items ++ with_open reading.unfinished commands

-- new is old and one line, whatever follows that line
pub record Adds {A : Type 0} (old new : Reading A) (statement : Statement) : Type 0 where
  pub batch : batch_of new.unfinished ≡ batch_after (batch_of old.unfinished) statement
  pub commands : (commands : List Command) → resumed new commands ≡ resumed old (with_line (batch_of old.unfinished) statement commands)
