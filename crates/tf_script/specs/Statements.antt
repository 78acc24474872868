-- What one line of a script means.
use Rattle.std.specs.Prelude.{ℕ, ◌+◌, ◌-◌, ◌^◌, List, [], ◌∷◌, Option, Some, None, Result, Ok, Err, if◌then◌else◌, ◌==◌, length, slice_index, codes, option_map}
use Rattle.std.specs.Result.{result_ok}
use Rattle.std.specs.Str.{bytes_eq}
use Rattle.hex.specs.Hex.{decode_sized}
use Rattle.tf_records.specs.declared.account.Account.{Account}
use Rattle.tf_records.specs.declared.transfer.Transfer.{Transfer}
use Rattle.tf_script.specs.Words.{Word, words_from}
use Rattle.tf_script.specs.Values.{number_of}
use Rattle.tf_script.specs.Fields.{values_of}
use Rattle.tf_script.specs.Records.{Format, account_format, transfer_format, account_filter_format, query_filter_format}
use Rattle.tf_script.specs.Verbs.{verb_of}
use Rattle.tf_script.specs.Command.{Command, pulse, publish, compact, query, lookup_accounts, lookup_transfers}
use Rattle.tf_script.specs.declared.command.Query.TheVariants as asked
use Rattle.tf_script.specs.declared.record.Spelling.{Spelling}
use Rattle.tf_script.specs.declared.record.Spelling.TheVariants.{Fields, Raw}
use Rattle.tf_script.specs.declared.statement.Batch.{Batch}
use Rattle.tf_script.specs.declared.statement.Batch.TheVariants.{Accounts, Transfers}
use Rattle.tf_script.specs.declared.verb.Verb.{Verb}
use Rattle.tf_script.specs.declared.verb.Verb.TheVariants as verb

-- a line says nothing, begins a batch, is an event of one, ends one, or asks for a command by itself
pub data Statement : Type 0 where
  blank : Statement
  opens : (batch : Batch) → Statement
  account_event : (event : Account) → Statement
  transfer_event : (event : Transfer) → Statement
  closes : Statement
  asks : (command : Command) → Statement

-- the answer, unless there is a fault
infixl 10 ◌<&>◌
abbrev pub ◌<&>◌ : {A B E : Type 0} → Result A E → (A → B) → Result B E
(Ok x) <&> f = Ok (f x)
(Err e) <&> f = Err e

-- the second step, unless the first has a fault
infixl 10 ◌>>=◌
abbrev pub ◌>>=◌ : {A B E : Type 0} → Result A E → (A → Result B E) → Result B E
(Ok x) >>= f = f x
(Err e) >>= f = Err e

-- the value, where no word is left on its line
abbrev pub ends_line : {A : Type 0} → A → List Word → Result A ℕ
ends_line value [] = Ok value
ends_line value (word ∷ words) = Err word.column

-- what the next word means, and the words after it; end is the column of a missing word
abbrev pub next_of : {A : Type 0} → (List ℕ → Option A) → ℕ → List Word → Result (A × List Word) ℕ
next_of meaning end [] = Err end
next_of meaning end (word ∷ words) =
    elim (meaning word.bytes) [ None ↦ Err word.column | Some value ↦ Ok (value, words) ]

-- the moment of a batch, the only word that is left
abbrev pub moment_of : ℕ → List Word → Result ℕ ℕ
moment_of end words = do
  now ← next_of (number_of (2 ^ 64 - 1)) end words
  ends_line now.0 now.1

-- a pulse: its moment, and the most that it expires
abbrev pub pulse_of : ℕ → List Word → Result Command ℕ
pulse_of end words = do
  now ← next_of (number_of (2 ^ 64 - 1)) end words
  max ← next_of (number_of (2 ^ 32 - 1)) end now.1
  ends_line (pulse now.0 max.0) max.1

-- the ids of a lookup
abbrev pub ids_of : List Word → Result (List ℕ) ℕ
ids_of [] = Ok []
ids_of (word ∷ words) =
    elim (number_of (2 ^ 128 - 1) word.bytes) [ None ↦ Err word.column | Some id ↦ ids_of words <&> λ ids. id ∷ ids ]

-- the record whose bytes a word gives, each as two hexadecimal digits in either case
unfoldable pub in_hex : {R : Type 0} → Format R → List ℕ → Option R
in_hex format text = option_map format.from_bytes (result_ok (decode_sized text format.size))

-- a record, spelled by words FIELD=VALUE or by the digits of its bytes
abbrev pub record_of : {R : Type 0} → Format R → Spelling → ℕ → List Word → Result R ℕ
record_of format Fields end words = values_of format.fields words <&> format.from_values
record_of format Raw end words = do
  spelled ← next_of (in_hex format) end words
  ends_line spelled.0 spelled.1

-- the filter of a query: the word `raw` comes before its bytes
abbrev pub filter_of : {R : Type 0} → Format R → ℕ → List Word → Result R ℕ
filter_of format end [] = record_of format Fields end []
filter_of format end (word ∷ words) =
    if bytes_eq word.bytes (codes "raw") then record_of format Raw end words
    else record_of format Fields end (word ∷ words)

-- a command by the words after its first
abbrev pub command_of : Verb → ℕ → List Word → Result Statement ℕ
command_of verb.Accounts end words = moment_of end words <&> λ now. opens (Accounts now)
command_of verb.Transfers end words = moment_of end words <&> λ now. opens (Transfers now)
command_of verb.Pulse end words = pulse_of end words <&> asks
command_of verb.Publish end words = ends_line (asks publish) words
command_of verb.Compact end words = ends_line (asks compact) words
command_of verb.GetAccountTransfers end words =
    filter_of account_filter_format end words <&> λ filter. asks (query (asked.AccountTransfers filter))
command_of verb.GetAccountBalances end words =
    filter_of account_filter_format end words <&> λ filter. asks (query (asked.AccountBalances filter))
command_of verb.QueryAccounts end words =
    filter_of query_filter_format end words <&> λ filter. asks (query (asked.Accounts filter))
command_of verb.QueryTransfers end words =
    filter_of query_filter_format end words <&> λ filter. asks (query (asked.Transfers filter))
command_of verb.LookupAccounts end words = ids_of words <&> λ ids. asks (lookup_accounts ids)
command_of verb.LookupTransfers end words = ids_of words <&> λ ids. asks (lookup_transfers ids)

-- a line outside a batch, by its first word
abbrev pub outer_line_of : ℕ → Word → List Word → Result Statement ℕ
outer_line_of end word words = elim (verb_of word.bytes) [ None ↦ Err word.column | Some verb ↦ command_of verb end words ]

-- an event of a batch
abbrev pub event_of : Batch → Spelling → ℕ → List Word → Result Statement ℕ
event_of (Accounts now) spelling end words = record_of account_format spelling end words <&> account_event
event_of (Transfers now) spelling end words = record_of transfer_format spelling end words <&> transfer_event

-- a line inside a batch, by its first word
unfoldable pub batch_line_of : Batch → ℕ → Word → List Word → Result Statement ℕ
batch_line_of batch end word words =
    if bytes_eq word.bytes (codes "+") then event_of batch Fields end words
    else (if bytes_eq word.bytes (codes "raw") then event_of batch Raw end words
    else (if bytes_eq word.bytes (codes "end") then ends_line closes words
    else Err word.column))

-- a line outside a batch, or inside the one that is open
abbrev pub placed_line_of : Option Batch → ℕ → Word → List Word → Result Statement ℕ
placed_line_of None end word words = outer_line_of end word words
placed_line_of (Some batch) end word words = batch_line_of batch end word words

-- a line by its words: one without words, or whose first word begins with `#`, byte 35, says nothing
abbrev pub worded_line_of : Option Batch → ℕ → List Word → Result Statement ℕ
worded_line_of batch end [] = Ok blank
worded_line_of batch end (word ∷ words) =
    if slice_index word.bytes 0 == 35 then Ok blank else placed_line_of batch end word words

-- what a line means where this batch is open, or the column of its fault; a missing word is after its last byte
unfoldable pub statement_of : Option Batch → List ℕ → Result Statement ℕ
statement_of batch line = worded_line_of batch (length line + 1) (words_from 1 line)
