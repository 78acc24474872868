-- What the code reads on a line, seen as what the line means.
use Rattle.std.specs.Prelude.{ℕ, ◌-◌, ◌^◌, List, [], ◌∷◌, Option, Some, None}
use Rattle.tf_script.specs.Words.{Word}
use Rattle.tf_script.specs.Values.{number_of}
use Rattle.tf_script.specs.Command.{Command, pulse, publish, compact, query, lookup_accounts, lookup_transfers}
use Rattle.tf_script.specs.Statements.{Statement, blank, opens, account_event, transfer_event, closes, asks}
use Rattle.tf_script.specs.Reader.WordViews.{words_of, HasColumns}
use Rattle.tf_script.specs.declared.request.Request.{Request}
use Rattle.tf_script.specs.declared.request.Request.TheVariants.{Pulse, Publish, Compact, Query, LookupAccounts, LookupTransfers}
use Rattle.tf_script.specs.declared.statement.Batch.{Batch}
use Rattle.tf_script.specs.declared.statement.Batch.TheVariants.{Accounts, Transfers}
use Rattle.tf_script.specs.declared.statement.Statement.{Statement as StatementValue}
use Rattle.tf_script.specs.declared.statement.Statement.TheVariants.{Blank, Opens, AccountEvent, TransferEvent, Closes, Asks}
use Rattle.tf_script.specs.declared.word.Rest.{Rest}

-- a value that was read, and the words that are left
abbrev pub read_view : {A : Type 0} → A × Rest → A × List Word
read_view found = (found.0, words_of found.1)

-- the ids that words spell, up to the first that spells none
abbrev pub leading_ids : List Word → List ℕ
leading_ids [] = []
leading_ids (word ∷ words) =
    elim (number_of (2 ^ 128 - 1) word.bytes) [ None ↦ [] | Some id ↦ id ∷ leading_ids words ]

-- the command that a request is for
abbrev pub request_view : Request → Command
request_view (Pulse now max) = pulse now max
request_view Publish = publish
request_view Compact = compact
request_view (Query asked) = query asked
request_view (LookupAccounts ids) = lookup_accounts (leading_ids (words_of ids))
request_view (LookupTransfers ids) = lookup_transfers (leading_ids (words_of ids))

-- the statement that a line makes
abbrev pub statement_view : StatementValue → Statement
statement_view Blank = blank
statement_view (Opens batch) = opens batch
statement_view (AccountEvent event) = account_event event
statement_view (TransferEvent event) = transfer_event event
statement_view Closes = closes
statement_view (Asks request) = asks (request_view request)

-- each column of the ids is a `u64`
abbrev pub IsReadable : Request → Type 0
IsReadable (LookupAccounts ids) = HasColumns ids
IsReadable (LookupTransfers ids) = HasColumns ids
IsReadable request = Unit {0}

-- events and the end stand inside a batch, commands outside
abbrev pub CanStand : Option Batch → StatementValue → Type 0
CanStand batch Blank = Unit {0}
CanStand None (Opens opened) = Unit {0}
CanStand None (Asks request) = IsReadable request
CanStand (Some (Accounts now)) (AccountEvent event) = Unit {0}
CanStand (Some (Transfers now)) (TransferEvent event) = Unit {0}
CanStand (Some batch) Closes = Unit {0}
CanStand batch statement = ⊥
