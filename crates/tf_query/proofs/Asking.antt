-- What filters ask, read from indexes, is what they ask of the record with a timestamp.
use Rattle.std.proofs.Common.{◌≡◌, ℕ, Bool, true, false, ◌&&◌, ◌||◌, cond, List, Option, Some, None, refl, ◌∙◌}
use Rattle.std.specs.Prelude.{◌==◌, if◌then◌else◌, is_some}
use Rattle.std.specs.Option.{option_map_or}
use Rattle.tf_records.specs.declared.account.Account.{Account}
use Rattle.tf_records.specs.declared.account_filter.AccountFilter.{AccountFilter}
use Rattle.tf_records.specs.declared.query_filter.QueryFilter.{QueryFilter}
use Rattle.tf_records.specs.declared.transfer.Transfer.{Transfer}
use Rattle.tf_journal.specs.Filter.{Searched, asks_credits, asks_debits, is_on_asked_side, is_within, matches_account_filter, matches_query_filter, meets, searched_account, searched_transfer}
use Rattle.tf_manifest.specs.declared.kind.UnitRow.{UnitRow}
use Rattle.tf_manifest.specs.declared.kind.UnitRow.TheVariants as unit
use Rattle.tf_manifest.specs.View.{View}
use Rattle.tf_query.specs.Asked.{account_fields_at, account_filter_at, asks_no_field, transfer_fields_at}
use Rattle.tf_query.specs.Fields.{account_field, has_value, transfer_field}
use Rattle.tf_query.specs.Matches.{account_timestamp, holds_at, record_at, transfer_timestamp}
use Rattle.tf_look_ups.specs.Reads.{account_in, has_entry, transfer_in}

-- what a filter asks of a transfer apart from its timestamp
abbrev pub has_asked : AccountFilter → Transfer → Bool
has_asked filter x =
    is_on_asked_side filter x
    && meets filter.user_data_128 x.user_data_128
    && meets filter.user_data_64 x.user_data_64
    && meets filter.user_data_32 x.user_data_32
    && meets filter.code x.code

-- and of the fields of any record
abbrev pub has_fields : QueryFilter → Searched → Bool
has_fields filter fields =
    meets filter.user_data_128 fields.user_data_128
    && meets filter.user_data_64 fields.user_data_64
    && meets filter.user_data_32 fields.user_data_32
    && meets filter.ledger fields.ledger
    && meets filter.code fields.code

-- the tests of a filter in another order
reordered : (s a b c e w : Bool) → ((s && a && b && c && e) && w) ≡ (a && b && c && e && w && s)
reordered true true true true true true = refl
reordered true true true true true false = refl
reordered true true true true false w = refl
reordered true true true false e w = refl
reordered true true false c e w = refl
reordered true false b c e w = refl
reordered false true true true true true = refl
reordered false true true true true false = refl
reordered false true true true false w = refl
reordered false true true false e w = refl
reordered false true false c e w = refl
reordered false false b c e w = refl

pub asked_within : (filter : AccountFilter) (x : Transfer) → (has_asked filter x && is_within filter.timestamp_min filter.timestamp_max x.timestamp) ≡ matches_account_filter filter x
asked_within filter x =
    reordered (is_on_asked_side filter x) (meets filter.user_data_128 x.user_data_128) (meets filter.user_data_64 x.user_data_64)
    (meets filter.user_data_32 x.user_data_32) (meets filter.code x.code) (is_within filter.timestamp_min filter.timestamp_max x.timestamp)

regrouped : (a b c e f w : Bool) → ((a && b && c && e && f) && w) ≡ (a && b && c && e && f && w)
regrouped true true true true f w = refl
regrouped true true true false f w = refl
regrouped true true false e f w = refl
regrouped true false c e f w = refl
regrouped false b c e f w = refl

pub fields_within : (filter : QueryFilter) (fields : Searched) → (has_fields filter fields && is_within filter.timestamp_min filter.timestamp_max fields.timestamp) ≡ matches_query_filter filter fields
fields_within filter fields =
    regrouped (meets filter.user_data_128 fields.user_data_128) (meets filter.user_data_64 fields.user_data_64) (meets filter.user_data_32 fields.user_data_32)
    (meets filter.ledger fields.ledger) (meets filter.code fields.code) (is_within filter.timestamp_min filter.timestamp_max fields.timestamp)

-- whether the record that there may be passes
abbrev held : {X : Type 0} → (X → Bool) → Option X → Bool
held p o = option_map_or p o false

-- where there is no record, no side has the account
no_side : (a b u v w x : Bool) → (((a && false) || (b && false)) && u && v && w && x) ≡ false
no_side true true u v w x = refl
no_side true false u v w x = refl
no_side false true u v w x = refl
no_side false false u v w x = refl

-- what a filter of an account's transfers asks, by whether each index has it
abbrev joined : AccountFilter → Bool → Bool → Bool → Bool → Bool → Bool → Bool
joined filter debit credit wide middle narrow code =
    ((asks_debits filter && debit) || (asks_credits filter && credit))
    && (filter.user_data_128 == 0 || wide)
    && (filter.user_data_64 == 0 || middle)
    && (filter.user_data_32 == 0 || narrow)
    && (filter.code == 0 || code)

-- and a filter of all records of a kind, by whether there is a record at all
abbrev fields_joined : QueryFilter → Bool → Bool → Bool → Bool → Bool → Bool → Bool
fields_joined filter present wide middle narrow ledger code =
    if asks_no_field filter then present
    else (filter.user_data_128 == 0 || wide)
    && (filter.user_data_64 == 0 || middle)
    && (filter.user_data_32 == 0 || narrow)
    && (filter.ledger == 0 || ledger)
    && (filter.code == 0 || code)

-- where there is no record, the index of a field that is asked for has nothing
none_joined : (a b c e f : Bool) → cond (a && b && c && e && f) false ((a || false) && (b || false) && (c || false) && (e || false) && (f || false)) ≡ false
none_joined true true true true true = refl
none_joined true true true true false = refl
none_joined true true true false f = refl
none_joined true true false e f = refl
none_joined true false c e f = refl
none_joined false b c e f = refl

-- where no field is asked for, each record passes
all_joined : (a b c e f u v w x y : Bool) → cond (a && b && c && e && f) true ((a || u) && (b || v) && (c || w) && (e || x) && (f || y)) ≡ ((a || u) && (b || v) && (c || w) && (e || x) && (f || y))
all_joined true true true true true u v w x y = refl
all_joined true true true true false u v w x y = refl
all_joined true true true false f u v w x y = refl
all_joined true true false e f u v w x y = refl
all_joined true false c e f u v w x y = refl
all_joined false b c e f u v w x y = refl

module _ {X : Type 0} (fields : X → Searched) (filter : QueryFilter) where
  fields_are : (o : Option X)
      → fields_joined filter (is_some o) (held (λ x. (fields x).user_data_128 == filter.user_data_128) o) (held (λ x. (fields x).user_data_64 == filter.user_data_64) o)
      (held (λ x. (fields x).user_data_32 == filter.user_data_32) o) (held (λ x. (fields x).ledger == filter.ledger) o) (held (λ x. (fields x).code == filter.code) o)
      ≡ held (λ x. has_fields filter (fields x)) o
  fields_are None = none_joined (filter.user_data_128 == 0) (filter.user_data_64 == 0) (filter.user_data_32 == 0) (filter.ledger == 0) (filter.code == 0)
  fields_are (Some x) =
      all_joined (filter.user_data_128 == 0) (filter.user_data_64 == 0) (filter.user_data_32 == 0) (filter.ledger == 0) (filter.code == 0)
      ((fields x).user_data_128 == filter.user_data_128) ((fields x).user_data_64 == filter.user_data_64) ((fields x).user_data_32 == filter.user_data_32)
      ((fields x).ledger == filter.ledger) ((fields x).code == filter.code)

module _ (view : View) (records : List Transfer)
    (indexed : (row : UnitRow) → is_some (transfer_field row) ≡ true → (value t : ℕ) → has_entry view row value t ≡ holds_at transfer_timestamp (has_value (transfer_field row) value) records t) where
  asked_is : (filter : AccountFilter) (o : Option Transfer)
      → joined filter (held (λ x. x.debit_account_id == filter.account_id) o) (held (λ x. x.credit_account_id == filter.account_id) o) (held (λ x. x.user_data_128 == filter.user_data_128) o)
      (held (λ x. x.user_data_64 == filter.user_data_64) o) (held (λ x. x.user_data_32 == filter.user_data_32) o) (held (λ x. x.code == filter.code) o)
      ≡ held (has_asked filter) o
  asked_is filter None = no_side (asks_debits filter) (asks_credits filter)
      (filter.user_data_128 == 0 || false) (filter.user_data_64 == 0 || false) (filter.user_data_32 == 0 || false) (filter.code == 0 || false)
  asked_is filter (Some x) = refl

  pub account_filter_held : (filter : AccountFilter) (t : ℕ) → account_filter_at view filter t ≡ holds_at transfer_timestamp (has_asked filter) records t
  account_filter_held filter t =
      let at = record_at transfer_timestamp records t in
      let each : account_filter_at view filter t
      ≡ joined filter (held (λ x. x.debit_account_id == filter.account_id) at) (held (λ x. x.credit_account_id == filter.account_id) at) (held (λ x. x.user_data_128 == filter.user_data_128) at)
      (held (λ x. x.user_data_64 == filter.user_data_64) at) (held (λ x. x.user_data_32 == filter.user_data_32) at) (held (λ x. x.code == filter.code) at)
      = λ i. joined filter (indexed unit.TransferDebit refl filter.account_id t i) (indexed unit.TransferCredit refl filter.account_id t i) (indexed unit.TransferUserData128 refl filter.user_data_128 t i)
      (indexed unit.TransferUserData64 refl filter.user_data_64 t i) (indexed unit.TransferUserData32 refl filter.user_data_32 t i) (indexed unit.TransferCode refl filter.code t i) in
      each ∙ asked_is filter at

  pub transfer_fields_held : ((t : ℕ) → transfer_in view t ≡ record_at transfer_timestamp records t) → (filter : QueryFilter) (t : ℕ)
      → transfer_fields_at view filter t ≡ holds_at transfer_timestamp (λ x. has_fields filter (searched_transfer x)) records t
  transfer_fields_held given filter t =
      let at = record_at transfer_timestamp records t in
      let each : transfer_fields_at view filter t
      ≡ fields_joined filter (is_some at) (held (λ x. x.user_data_128 == filter.user_data_128) at) (held (λ x. x.user_data_64 == filter.user_data_64) at)
      (held (λ x. x.user_data_32 == filter.user_data_32) at) (held (λ x. x.ledger == filter.ledger) at) (held (λ x. x.code == filter.code) at)
      = λ i. fields_joined filter (is_some (given t i)) (indexed unit.TransferUserData128 refl filter.user_data_128 t i) (indexed unit.TransferUserData64 refl filter.user_data_64 t i)
      (indexed unit.TransferUserData32 refl filter.user_data_32 t i) (indexed unit.TransferLedger refl filter.ledger t i) (indexed unit.TransferCode refl filter.code t i) in
      each ∙ fields_are searched_transfer filter at

module _ (view : View) (records : List Account)
    (indexed : (row : UnitRow) → is_some (account_field row) ≡ true → (value t : ℕ) → has_entry view row value t ≡ holds_at account_timestamp (has_value (account_field row) value) records t) where
  pub account_fields_held : ((t : ℕ) → account_in view t ≡ record_at account_timestamp records t) → (filter : QueryFilter) (t : ℕ)
      → account_fields_at view filter t ≡ holds_at account_timestamp (λ x. has_fields filter (searched_account x)) records t
  account_fields_held given filter t =
      let at = record_at account_timestamp records t in
      let each : account_fields_at view filter t
      ≡ fields_joined filter (is_some at) (held (λ x. x.user_data_128 == filter.user_data_128) at) (held (λ x. x.user_data_64 == filter.user_data_64) at)
      (held (λ x. x.user_data_32 == filter.user_data_32) at) (held (λ x. x.ledger == filter.ledger) at) (held (λ x. x.code == filter.code) at)
      = λ i. fields_joined filter (is_some (given t i)) (indexed unit.AccountUserData128 refl filter.user_data_128 t i) (indexed unit.AccountUserData64 refl filter.user_data_64 t i)
      (indexed unit.AccountUserData32 refl filter.user_data_32 t i) (indexed unit.AccountLedger refl filter.ledger t i) (indexed unit.AccountCode refl filter.code t i) in
      each ∙ fields_are searched_account filter at
