-- The lines that commands print, as bytes. Each ends with a line feed.
use Rattle.std.specs.Prelude.{ℕ, List, [], ◌∷◌, ◌++◌, length, codes}
use Rattle.std.specs.Borrow.{Bor}
use Rattle.std.specs.Fmt.{decimal}
use Rattle.std.specs.List.{concat, flat_map}
use Rattle.tf_records.specs.declared.account.Account.{Account}
use Rattle.tf_records.specs.declared.account_balance.AccountBalance.{AccountBalance}
use Rattle.tf_records.specs.declared.reply.Failure.{Failure}
use Rattle.tf_records.specs.declared.transfer.Transfer.{Transfer}
use Rattle.tf_records.specs.Outcome.{name_of}
use Rattle.tf_records.specs.declared.refusal.Refusal.{Refusal}
use Rattle.tf_records.specs.declared.refusal.Refusal.TheVariants as refusal

-- the byte that ends each line
abbrev pub line_feed : List ℕ
line_feed = 10 ∷ []

-- `TEXT`: a line of one text
abbrev pub text_line : List ℕ → List ℕ
text_line text = text ++ line_feed

-- `NAME NUMBER`
abbrev pub number_line : List ℕ → ℕ → List ℕ
number_line name number = concat (name ∷ codes " " ∷ decimal number ∷ line_feed ∷ [])

-- `INDEX RESULT`: an event that failed, by its place in its batch
abbrev pub failure_line : Failure → List ℕ
failure_line f = concat (decimal f.index ∷ codes " " ∷ name_of f.outcome ∷ line_feed ∷ [])

-- `clock C`: the ledger's clock after a batch or a pulse
abbrev pub clock_line : ℕ → List ℕ
clock_line clock = number_line (codes "clock") clock

-- `expired K`: how many transfers a pulse expired
abbrev pub expired_line : ℕ → List ℕ
expired_line count = number_line (codes "expired") count

-- `published`: the answer of `publish`
abbrev pub published_line : List ℕ
published_line = text_line (codes "published")

-- `compacted`: the answer of `compact`
abbrev pub compacted_line : List ℕ
compacted_line = text_line (codes "compacted")

-- `refused NAME`: a command that was refused, in place of its other lines
abbrev pub refused_line : List ℕ → List ℕ
refused_line name = concat (codes "refused " ∷ name ∷ line_feed ∷ [])

-- the line of a refusal by which a script goes on; no other refusal has a line
abbrev pub refusal_line : Refusal → List ℕ
refusal_line refusal.BatchTooLarge = refused_line (codes "batch_too_large")
refusal_line refusal.ClockExhausted = refused_line (codes "clock_exhausted")
refusal_line refusal.RegistryFull = refused_line (codes "registry_full")
refusal_line refusal.NoMemory = []
refusal_line refusal.Stale = []
refusal_line (refusal.BadLine line column) = []
refusal_line (refusal.BadRecord length) = []

-- `rows K`: how many rows a query gave
abbrev pub count_line : ℕ → List ℕ
count_line count = number_line (codes "rows") count

-- ` NAME=NUMBER`: a field of a row
abbrev pub field_text : (List ℕ × ℕ) → List ℕ
field_text field = concat (codes " " ∷ field.0 ∷ codes "=" ∷ decimal field.1 ∷ [])

-- a field's name and number
abbrev pub field_of : (Bor (List ℕ) × ℕ) → (List ℕ × ℕ)
field_of field = (field.0.now, field.1)

-- `KIND NAME=NUMBER ..`: a row of a query, each field by its name
abbrev pub fields_line : List ℕ → List (List ℕ × ℕ) → List ℕ
fields_line kind fields = concat (kind ∷ flat_map field_text fields ∷ line_feed ∷ [])

-- an account, each field but the reserved one, in the order of the record
abbrev pub account_line : Account → List ℕ
account_line a = fields_line (codes "account") (
    (codes "id", a.id) ∷
    (codes "debits_pending", a.debits_pending) ∷
    (codes "debits_posted", a.debits_posted) ∷
    (codes "credits_pending", a.credits_pending) ∷
    (codes "credits_posted", a.credits_posted) ∷
    (codes "user_data_128", a.user_data_128) ∷
    (codes "user_data_64", a.user_data_64) ∷
    (codes "user_data_32", a.user_data_32) ∷
    (codes "ledger", a.ledger) ∷
    (codes "code", a.code) ∷
    (codes "flags", a.flags) ∷
    (codes "timestamp", a.timestamp) ∷
    [])

-- a transfer, each field in the order of the record
abbrev pub transfer_line : Transfer → List ℕ
transfer_line t = fields_line (codes "transfer") (
    (codes "id", t.id) ∷
    (codes "debit_account_id", t.debit_account_id) ∷
    (codes "credit_account_id", t.credit_account_id) ∷
    (codes "amount", t.amount) ∷
    (codes "pending_id", t.pending_id) ∷
    (codes "user_data_128", t.user_data_128) ∷
    (codes "user_data_64", t.user_data_64) ∷
    (codes "user_data_32", t.user_data_32) ∷
    (codes "timeout", t.timeout) ∷
    (codes "ledger", t.ledger) ∷
    (codes "code", t.code) ∷
    (codes "flags", t.flags) ∷
    (codes "timestamp", t.timestamp) ∷
    [])

-- a row of a balance history, each field but the reserved ones, in the order of the record
abbrev pub balance_line : AccountBalance → List ℕ
balance_line b = fields_line (codes "balance") (
    (codes "debits_pending", b.debits_pending) ∷
    (codes "debits_posted", b.debits_posted) ∷
    (codes "credits_pending", b.credits_pending) ∷
    (codes "credits_posted", b.credits_posted) ∷
    (codes "timestamp", b.timestamp) ∷
    [])

-- the lines of a batch that was run: each failed event, then the clock
abbrev pub batch_lines : List Failure → ℕ → List ℕ
batch_lines failures clock = flat_map failure_line failures ++ clock_line clock

-- the lines of a pulse: how many transfers expired, then the clock
abbrev pub pulse_lines : ℕ → ℕ → List ℕ
pulse_lines expired clock = expired_line expired ++ clock_line clock

-- the lines of a query: each row, then their count
abbrev pub query_lines : {X : Type 0} → (X → List ℕ) → List X → List ℕ
query_lines line rows = flat_map line rows ++ count_line (length rows)

-- `clients N`: how many clients a storm had
abbrev pub clients_line : ℕ → List ℕ
clients_line count = number_line (codes "clients") count

-- `stored X`: how many entries are stored at its end
abbrev pub stored_line : ℕ → List ℕ
stored_line count = number_line (codes "stored") count

-- `shares Y`: how many entries its clients' shares count together
abbrev pub shares_line : ℕ → List ℕ
shares_line count = number_line (codes "shares") count

-- what is stored, and what the shares count
abbrev pub share_lines : ℕ → ℕ → List ℕ
share_lines stored shares = stored_line stored ++ shares_line shares

-- the lines of a storm
abbrev pub totals_lines : ℕ → ℕ → ℕ → List ℕ
totals_lines clients stored shares = clients_line clients ++ share_lines stored shares
