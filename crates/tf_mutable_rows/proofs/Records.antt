-- A transfer's record among the entries of all rows: where it is put, and where it is taken away.
use Rattle.std.proofs.Common.{◌≡◌, ◌<◌, ℕ, List, [], length, Option, Some, None, refl, sym, ◌∙◌, ap, subst, arith}
use Rattle.std.specs.Prelude.{IsSome, slice_index_or}
use Rattle.tf_records.specs.declared.transfer.Transfer.{Transfer}
use Rattle.tf_sorted.specs.Rows.{with_row, without_row}
use Rattle.tf_table.specs.declared.key.Key.{Key}
use Rattle.tf_table.specs.Content.{entry_at}
use Rattle.tf_table.specs.Key.{key_cmp}
use Rattle.tf_manifest.specs.declared.kind.UnitRow.TheVariants as unit
use Rattle.tf_manifest.specs.declared.row.Row.{Row}
use Rattle.tf_manifest.specs.declared.row.Row.TheVariants as row
use Rattle.tf_manifest.specs.declared.value.Value.{Value}
use Rattle.tf_manifest.specs.declared.value.Value.TheVariants as value
use Rattle.tf_manifest.specs.Kinds.{unit_index}
use Rattle.tf_manifest.specs.Rows.{key_of}
use Rattle.tf_rows.specs.Edits.{Edit}
use Rattle.tf_rows.specs.Parts.{seen_rows}
use Rattle.tf_rows.specs.Record.{IsFree, IsThere, PutsTransfer, field_edit, record_edit, with_edit, without_edit}
use Rattle.tf_rows.proofs.Parts.{given_back-seen, none-seen, some-seen, there-put, with_row-seen}
use Rattle.tf_mutable_rows.specs.declared.transfers.Field.{Field}
use Rattle.tf_mutable_rows.specs.declared.transfers.Field.TheVariants as field
use Rattle.tf_mutable_rows.specs.Fresh.{Fresh, entries_by}
use Rattle.tf_mutable_rows.specs.Indexes.{IsAmong, IsPutAmong, IsTakenFrom, Keys, Objects, field_of, index_of, key_seen, object_seen, unit_of, units_by}
use Rattle.tf_mutable_rows.proofs.Fresh.{at_first, at_field, expiry_read}

-- objects and keys, as any row may have them
abbrev seen_objects : Objects → List (Key × Option Value)
seen_objects objects = seen_rows object_seen objects

abbrev seen_keys : Keys → List (Key × Option Value)
seen_keys keys = seen_rows key_seen keys

-- a row has what a transfer's record puts into it
record HasEdit (edit : Option Edit) (old new : List (Key × Option Value)) : Type 0 where
  puts : new ≡ with_edit edit old
  there : IsThere edit new
  restores : without_edit edit new ≡ old

-- a row that has nothing of it stays
stays : {old new : List (Key × Option Value)} → new ≡ old → HasEdit None old new
stays same = record { puts = same; there = tt; restores = same }

-- of mutable tables, which have these five indexes of accounts and these expiries, whatever transfers they have
module _ (inside : Fresh) (accounts : List Keys) (expiry : Keys) (many : length accounts ≡ 5) where
  abbrev pub tables : Objects → Fresh
  tables transfers = record inside { transfers = transfers; units = units_by accounts transfers expiry }

  -- what a row has that stores nothing beside its keys
  abbrev keys_at : Objects → ℕ → Keys
  keys_at transfers at = slice_index_or (units_by accounts transfers expiry) at []

  same_first : (old new : Objects) (at : ℕ) → at < 5 → seen_keys (keys_at new at) ≡ seen_keys (keys_at old at)
  same_first old new at h = ap seen_keys (at_first accounts _ at [] (omega (arith, h, many)) ∙ sym (at_first accounts _ at [] (omega (arith, h, many))))

  same_last : (old new : Objects) → seen_keys (keys_at new 12) ≡ seen_keys (keys_at old 12)
  same_last old new = ap seen_keys (expiry_read accounts new expiry many unit.Expiry refl ∙ sym (expiry_read accounts old expiry many unit.Expiry refl))

  keys_of : (transfers : Objects) (f : Field) → seen_keys (keys_at transfers (unit_index (unit_of f))) ≡ seen_keys (index_of f transfers)
  keys_of transfers f = ap seen_keys (at_field accounts transfers expiry many f)

  module _ (t : Transfer) (old new : Objects) where
    put_object : IsPutAmong t old new → HasEdit (record_edit t row.TransferObjects) (seen_objects old) (seen_objects new)
    put_object put =
        let key = key_of 0 t.timestamp in
        let puts : seen_objects new ≡ with_row key_cmp key (Some (value.Transfer t)) (seen_objects old) = ap seen_objects put.object ∙ with_row-seen object_seen key (Some (record { «record» = t })) old in
        record {
          puts = puts;
          there = subst (λ (rows : List (Key × Option Value)). IsSome (entry_at key rows)) (sym puts) (there-put key (Some (value.Transfer t)) (seen_objects old));
          restores = sym (given_back-seen object_seen key None new) ∙ ap seen_objects put.restores;
        }

    put_keys : IsPutAmong t old new → (f : Field) → HasEdit (field_edit (field_of f t) t) (seen_keys (keys_at old (unit_index (unit_of f)))) (seen_keys (keys_at new (unit_index (unit_of f))))
    put_keys put f =
        let key = key_of (field_of f t) t.timestamp in
        let puts : seen_keys (keys_at new (unit_index (unit_of f))) ≡ with_row key_cmp key (Some value.Unit) (seen_keys (keys_at old (unit_index (unit_of f)))) =
        keys_of new f ∙ ap seen_keys (put.keys f) ∙ with_row-seen key_seen key (Some tt) (index_of f old) ∙ ap (with_row key_cmp key (Some value.Unit)) (sym (keys_of old f)) in
        record {
          puts = puts;
          there = subst (λ (rows : List (Key × Option Value)). IsSome (entry_at key rows)) (sym puts) (there-put key (Some value.Unit) (seen_keys (keys_at old (unit_index (unit_of f)))));
          restores = ap (without_row key_cmp key) (keys_of new f) ∙ sym (given_back-seen key_seen key None (index_of f new)) ∙ ap seen_keys (put.restores_keys f) ∙ sym (keys_of old f);
        }

    put_in : IsPutAmong t old new → (r : Row) → HasEdit (record_edit t r) (entries_by (tables old) r) (entries_by (tables new) r)
    put_in put = elim [
      | row.AccountObjects ↦ stays refl
      | row.AccountIds ↦ stays refl
      | row.AccountUserData128 ↦ stays (same_first old new 0 (omega arith))
      | row.AccountUserData64 ↦ stays (same_first old new 1 (omega arith))
      | row.AccountUserData32 ↦ stays (same_first old new 2 (omega arith))
      | row.AccountLedger ↦ stays (same_first old new 3 (omega arith))
      | row.AccountCode ↦ stays (same_first old new 4 (omega arith))
      | row.AccountSums ↦ stays refl
      | row.TransferObjects ↦ put_object put
      | row.TransferIds ↦ stays refl
      | row.TransferDebit ↦ put_keys put field.Debit
      | row.TransferCredit ↦ put_keys put field.Credit
      | row.TransferUserData128 ↦ put_keys put field.UserData128
      | row.TransferUserData64 ↦ put_keys put field.UserData64
      | row.TransferUserData32 ↦ put_keys put field.UserData32
      | row.TransferLedger ↦ put_keys put field.Ledger
      | row.TransferCode ↦ put_keys put field.Code
      | row.PendingStatus ↦ stays refl
      | row.Expiry ↦ stays (same_last old new)
      | row.ExpiryEntries ↦ stays refl
      | row.History ↦ stays refl
    ]

    pub puts_transfer : IsPutAmong t old new → PutsTransfer t (entries_by (tables old)) (entries_by (tables new))
    puts_transfer put = record { puts = λ r. (put_in put r).puts; there = λ r. (put_in put r).there; restores = λ r. (put_in put r).restores }

    take_keys : IsTakenFrom t old new → (f : Field) → seen_keys (keys_at new (unit_index (unit_of f))) ≡ without_row key_cmp (key_of (field_of f t) t.timestamp) (seen_keys (keys_at old (unit_index (unit_of f))))
    take_keys take f =
        let key = key_of (field_of f t) t.timestamp in
        keys_of new f ∙ ap seen_keys (take.keys f) ∙ given_back-seen key_seen key None (index_of f old) ∙ ap (without_row key_cmp key) (sym (keys_of old f))

    pub takes_transfer : IsTakenFrom t old new → (r : Row) → entries_by (tables new) r ≡ without_edit (record_edit t r) (entries_by (tables old) r)
    takes_transfer take = elim [
      | row.AccountObjects ↦ refl
      | row.AccountIds ↦ refl
      | row.AccountUserData128 ↦ same_first old new 0 (omega arith)
      | row.AccountUserData64 ↦ same_first old new 1 (omega arith)
      | row.AccountUserData32 ↦ same_first old new 2 (omega arith)
      | row.AccountLedger ↦ same_first old new 3 (omega arith)
      | row.AccountCode ↦ same_first old new 4 (omega arith)
      | row.AccountSums ↦ refl
      | row.TransferObjects ↦ ap seen_objects take.object ∙ given_back-seen object_seen (key_of 0 t.timestamp) None old
      | row.TransferIds ↦ refl
      | row.TransferDebit ↦ take_keys take field.Debit
      | row.TransferCredit ↦ take_keys take field.Credit
      | row.TransferUserData128 ↦ take_keys take field.UserData128
      | row.TransferUserData64 ↦ take_keys take field.UserData64
      | row.TransferUserData32 ↦ take_keys take field.UserData32
      | row.TransferLedger ↦ take_keys take field.Ledger
      | row.TransferCode ↦ take_keys take field.Code
      | row.PendingStatus ↦ refl
      | row.Expiry ↦ same_last old new
      | row.ExpiryEntries ↦ refl
      | row.History ↦ refl
    ]

  -- what tables without a transfer's record have, and those with it
  pub object_free : (t : Transfer) (old : Objects) → ((r : Row) → IsFree (record_edit t r) (entries_by (tables old) r)) → entry_at (key_of 0 t.timestamp) old ≡ None
  object_free t old free = none-seen object_seen (key_of 0 t.timestamp) old (free row.TransferObjects)

  key_there : (t : Transfer) (old : Objects) (f : Field) → IsThere (field_edit (field_of f t) t) (seen_keys (keys_at old (unit_index (unit_of f)))) → IsSome (entry_at (key_of (field_of f t) t.timestamp) (index_of f old))
  key_there t old f there =
      let key = key_of (field_of f t) t.timestamp in
      some-seen key_seen key (index_of f old) (subst (λ (rows : List (Key × Option Value)). IsSome (entry_at key rows)) (keys_of old f) there)

  pub is_among : (t : Transfer) (old : Objects) → ((r : Row) → IsThere (record_edit t r) (entries_by (tables old) r)) → IsAmong t old
  is_among t old there = record {
    object = some-seen object_seen (key_of 0 t.timestamp) old (there row.TransferObjects);
    keys = elim [
      | field.Debit ↦ key_there t old field.Debit (there row.TransferDebit)
      | field.Credit ↦ key_there t old field.Credit (there row.TransferCredit)
      | field.UserData128 ↦ key_there t old field.UserData128 (there row.TransferUserData128)
      | field.UserData64 ↦ key_there t old field.UserData64 (there row.TransferUserData64)
      | field.UserData32 ↦ key_there t old field.UserData32 (there row.TransferUserData32)
      | field.Ledger ↦ key_there t old field.Ledger (there row.TransferLedger)
      | field.Code ↦ key_there t old field.Code (there row.TransferCode)
    ];
  }

-- tables whose entries are `inside` and are seen as `view`
module _ (inside view : Fresh) (is : inside ≡ view) (accounts : List Keys) (expiry : Keys) (many : length accounts ≡ 5) (old : Objects) (has : inside ≡ tables inside accounts expiry many old) where
  whole : view ≡ tables inside accounts expiry many old
  whole = sym is ∙ has

  pub free_among : (t : Transfer) → ((r : Row) → IsFree (record_edit t r) (entries_by view r)) → entry_at (key_of 0 t.timestamp) old ≡ None
  free_among t free = object_free inside accounts expiry many t old (λ r. subst (λ (fresh : Fresh). IsFree (record_edit t r) (entries_by fresh r)) whole (free r))

  pub there_among : (t : Transfer) → ((r : Row) → IsThere (record_edit t r) (entries_by view r)) → IsAmong t old
  there_among t there = is_among inside accounts expiry many t old (λ r. subst (λ (fresh : Fresh). IsThere (record_edit t r) (entries_by fresh r)) whole (there r))

  module _ (new : Objects) (now : Fresh) (becomes : now ≡ tables inside accounts expiry many new) where
    pub puts_among : (t : Transfer) → IsPutAmong t old new → PutsTransfer t (entries_by view) (entries_by now)
    puts_among t put =
        subst (λ (fresh : Fresh). PutsTransfer t (entries_by view) (entries_by fresh)) (sym becomes)
        (subst (λ (fresh : Fresh). PutsTransfer t (entries_by fresh) (entries_by (tables inside accounts expiry many new))) (sym whole)
        (puts_transfer inside accounts expiry many t old new put))

    pub takes_from : (t : Transfer) → IsTakenFrom t old new → (r : Row) → entries_by now r ≡ without_edit (record_edit t r) (entries_by view r)
    takes_from t take r =
        ap (λ (fresh : Fresh). entries_by fresh r) becomes
        ∙ takes_transfer inside accounts expiry many t old new take r
        ∙ ap (λ (fresh : Fresh). without_edit (record_edit t r) (entries_by fresh r)) (sym whole)

    pub stays_among : new ≡ old → entries_by now ≡ entries_by view
    stays_among same = ap entries_by (becomes ∙ ap (tables inside accounts expiry many) same ∙ sym whole)
