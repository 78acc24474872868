-- What the tables of a manifest that shows a journal have under an id.
use Rattle.std.proofs.Common.{◌≡◌, ℕ, Bool, true, false, cond, List, [], ◌∷◌, ◌++◌, find, map, Option, Some, None, refl, sym, ◌∙◌, ap}
use Rattle.std.specs.Prelude.{◌==◌}
use Rattle.std.specs.List.{filter_map}
use Rattle.std.specs.Option.{option_and_then, option_map}
use Rattle.std.specs.Ordering.{is_eq}
use Rattle.std.proofs.lemmas.List.{append-nil}
use Rattle.tf_sorted.specs.Rows.{value_at}
use Rattle.tf_records.specs.declared.account.Account.{Account}
use Rattle.tf_records.specs.declared.transfer.Transfer.{Transfer}
use Rattle.tf_journal.specs.declared.entry.Entry.{Entry}
use Rattle.tf_journal.specs.declared.entry.Entry.TheVariants as entry
use Rattle.tf_journal.specs.Journal.{accounts_of, transfers_of}
use Rattle.tf_journal.specs.Lookup.{account_with_id, shown, shown_with_id, transfer_with_id}
use Rattle.tf_table.specs.Key.{key_cmp}
use Rattle.tf_manifest.specs.declared.kind.Kind.TheVariants as kind
use Rattle.tf_manifest.specs.declared.row.Row.TheVariants as row
use Rattle.tf_manifest.specs.declared.value.IdStamp.{IdStamp}
use Rattle.tf_manifest.specs.declared.value.IdStamp.TheVariants as id_stamp
use Rattle.tf_manifest.specs.declared.value.Value.{Value}
use Rattle.tf_manifest.specs.declared.value.Value.TheVariants as value
use Rattle.tf_manifest.specs.Kinds.{id_value}
use Rattle.tf_registry.specs.Row.{content_at}
use Rattle.tf_manifest.specs.Rows.{Pair, failed_pair, key_of}
use Rattle.tf_manifest.specs.View.{ShowsJournal, View, tables_by}
use Rattle.tf_query.specs.Matches.{AreDated, account_timestamp, record_at, transfer_timestamp}
use Rattle.tf_look_ups.specs.Reads.{account_in, account_stamp_in, shown_in, stored_stamp, transfer_in, transfer_stamp_in}
use Rattle.tf_query.proofs.Answered.{record_found}
use Rattle.tf_query.proofs.Given.{found_has}
use Rattle.tf_query.proofs.Keyed.{same_key}

-- the timestamp that a value is, if it is one
abbrev as_stamp : Value → Option ℕ
as_stamp (value.Stamp timestamp) = Some timestamp
as_stamp _ = None

abbrev found : Option Pair → Option Value
found pair = option_map (λ (p : Pair). p.1) pair

-- the pair of a record under its id, and what is found there
abbrev pub id_pair : {X : Type 0} → (X → ℕ) → (X → ℕ) → X → Pair
id_pair id timestamp x = (key_of (id x) 0, value.Stamp (timestamp x))

module _ {X : Type 0} (id timestamp : X → ℕ) (n : ℕ) where
  -- among pairs of records followed by others of which none is a timestamp there
  stamp_keyed : (records : List X) (others : List Pair) → option_and_then as_stamp (value_at key_cmp (key_of n 0) others) ≡ None
      → option_and_then as_stamp (value_at key_cmp (key_of n 0) (map (id_pair id timestamp) records ++ others)) ≡ option_map timestamp (find (λ x. id x == n) records)
  stamp_keyed [] others none = none
  stamp_keyed (x ∷ records) others none = step (is_eq (key_cmp (key_of (id x) 0) (key_of n 0))) (id x == n) (same_key (id x) 0 n 0) (stamp_keyed records others none)
    where
      step : (b c : Bool) → b ≡ c
          → option_and_then as_stamp (value_at key_cmp (key_of n 0) (map (id_pair id timestamp) records ++ others)) ≡ option_map timestamp (find (λ y. id y == n) records)
          → option_and_then as_stamp (found (cond b (Some (id_pair id timestamp x)) (find (λ (r : Pair). is_eq (key_cmp r.0 (key_of n 0))) (map (id_pair id timestamp) records ++ others))))
          ≡ option_map timestamp (cond c (Some x) (find (λ y. id y == n) records))
      step true true i again = refl
      step false false i again = again
      step true false i again = absurd (let wrong : true ≡ false = i in cc)
      step false true i again = absurd (let wrong : false ≡ true = i in cc)

-- no timestamp of a transfer stands under an id that failed
failed_stamp : (n : ℕ) (journal : List Entry) → option_and_then as_stamp (value_at key_cmp (key_of n 0) (filter_map failed_pair journal)) ≡ None
failed_stamp n [] = refl
failed_stamp n (entry.Account a ∷ journal) = failed_stamp n journal
failed_stamp n (entry.Transfer t ∷ journal) = failed_stamp n journal
failed_stamp n (entry.Expiry timestamp pending ∷ journal) = failed_stamp n journal
failed_stamp n (entry.Failed timestamp id ∷ journal) = step (is_eq (key_cmp (key_of id 0) (key_of n 0))) (failed_stamp n journal)
  where
    step : (b : Bool) → option_and_then as_stamp (value_at key_cmp (key_of n 0) (filter_map failed_pair journal)) ≡ None
        → option_and_then as_stamp (found (cond b (Some (key_of id 0, value.FailedAt timestamp)) (find (λ (r : Pair). is_eq (key_cmp r.0 (key_of n 0))) (filter_map failed_pair journal)))) ≡ None
    step true again = refl
    step false again = again

-- a record is read by the timestamp that its id has
module _ {X Y : Type 0} (timestamp : X → ℕ) (records : List X) (dated : AreDated timestamp records) (read : ℕ → Option Y) (row : X → Y)
    (given : (t : ℕ) → read t ≡ option_map row (record_at timestamp records t)) where
  read_stamp : (p : X → Bool) → option_and_then read (option_map timestamp (find p records)) ≡ option_map row (find p records)
  read_stamp p = step (find p records) refl
    where
      step : (o : Option X) → find p records ≡ o → option_and_then read (option_map timestamp o) ≡ option_map row o
      step None e = refl
      step (Some x) e = given (timestamp x) ∙ ap (option_map row) (record_found timestamp records dated x (found_has p records x e))

same_option : {X : Type 0} (o : Option X) → option_map (λ x. x) o ≡ o
same_option None = refl
same_option (Some x) = refl

module _ (view : View) (journal : List Entry) (shows : ShowsJournal view journal) where
  account_stamp : (id : ℕ) → account_stamp_in view id ≡ option_map account_timestamp (account_with_id journal id)
  account_stamp id =
      back (account_stamp_in view id)
      ∙ ap (option_and_then as_stamp) (shows row.AccountIds (key_of id 0))
      ∙ ap (λ ps. option_and_then as_stamp (value_at key_cmp (key_of id 0) ps)) (sym (append-nil (map (id_pair (λ (a : Account). a.id) account_timestamp) (accounts_of journal))))
      ∙ stamp_keyed (λ (a : Account). a.id) account_timestamp id (accounts_of journal) [] refl
    where
      back : (o : Option ℕ) → o ≡ option_and_then as_stamp (option_map value.Stamp o)
      back None = refl
      back (Some t) = refl

  transfer_stamp : (id : ℕ) → transfer_stamp_in view id ≡ option_map transfer_timestamp (transfer_with_id journal id)
  transfer_stamp id =
      back (content_at (key_of id 0) (tables_by view kind.Id))
      ∙ ap (option_and_then as_stamp) (shows row.TransferIds (key_of id 0))
      ∙ stamp_keyed (λ (t : Transfer). t.id) transfer_timestamp id (transfers_of journal) (filter_map failed_pair journal) (failed_stamp id journal)
    where
      back : (o : Option IdStamp) → option_and_then stored_stamp o ≡ option_and_then as_stamp (option_map id_value o)
      back None = refl
      back (Some (id_stamp.Stored t)) = refl
      back (Some (id_stamp.Failed t)) = refl

  pub account_found : AreDated account_timestamp (accounts_of journal) → ((t : ℕ) → account_in view t ≡ record_at account_timestamp (accounts_of journal) t)
      → (id : ℕ) → option_and_then (account_in view) (account_stamp_in view id) ≡ account_with_id journal id
  account_found dated given id =
      ap (option_and_then (account_in view)) (account_stamp id)
      ∙ read_stamp account_timestamp (accounts_of journal) dated (account_in view) (λ a. a) (λ t. given t ∙ sym (same_option (record_at account_timestamp (accounts_of journal) t))) (λ a. a.id == id)
      ∙ same_option (account_with_id journal id)

  pub shown_found : AreDated account_timestamp (accounts_of journal) → ((t : ℕ) → shown_in view t ≡ option_map (shown journal) (record_at account_timestamp (accounts_of journal) t))
      → (id : ℕ) → option_and_then (shown_in view) (account_stamp_in view id) ≡ shown_with_id journal id
  shown_found dated given id =
      ap (option_and_then (shown_in view)) (account_stamp id)
      ∙ read_stamp account_timestamp (accounts_of journal) dated (shown_in view) (shown journal) given (λ a. a.id == id)

  pub transfer_found : AreDated transfer_timestamp (transfers_of journal) → ((t : ℕ) → transfer_in view t ≡ record_at transfer_timestamp (transfers_of journal) t)
      → (id : ℕ) → option_and_then (transfer_in view) (transfer_stamp_in view id) ≡ transfer_with_id journal id
  transfer_found dated given id =
      ap (option_and_then (transfer_in view)) (transfer_stamp id)
      ∙ read_stamp transfer_timestamp (transfers_of journal) dated (transfer_in view) (λ t. t) (λ t. given t ∙ sym (same_option (record_at transfer_timestamp (transfers_of journal) t))) (λ t. t.id == id)
      ∙ same_option (transfer_with_id journal id)
