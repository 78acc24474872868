-- At which timestamps the row of sums of a manifest that shows a journal has something of an account with history.
use Rattle.std.proofs.Common.{◌≡◌, ℕ, Bool, true, false, ◌&&◌, ◌||◌, cond, List, [], ◌∷◌, ◌++◌, find, Option, Some, None, refl, sym, ◌∙◌, ap}
use Rattle.std.specs.Prelude.{◌==◌, is_some}
use Rattle.std.specs.List.{flat_map}
use Rattle.std.specs.Option.{option_map, option_map_or}
use Rattle.std.specs.Ordering.{is_eq}
use Rattle.std.proofs.lemmas.Bool.{eqb-true}
use Rattle.tf_sorted.specs.Rows.{value_at}
use Rattle.tf_records.specs.declared.account_filter.AccountFilter.{AccountFilter}
use Rattle.tf_records.specs.declared.sums.Sums.{Sums}
use Rattle.tf_records.specs.declared.transfer.Transfer.{Transfer}
use Rattle.tf_journal.specs.declared.entry.Entry.{Entry}
use Rattle.tf_journal.specs.declared.side.Side.TheVariants.{Debit, Credit}
use Rattle.tf_journal.specs.Answer.{cut_after}
use Rattle.tf_journal.specs.Balances.{balances_of}
use Rattle.tf_journal.specs.Filter.{asks_credits, asks_debits}
use Rattle.tf_journal.specs.Journal.{transfers_of}
use Rattle.tf_table.specs.declared.key.Key.{Key}
use Rattle.tf_table.specs.Key.{key_cmp}
use Rattle.tf_manifest.specs.declared.kind.Kind.TheVariants as kind
use Rattle.tf_manifest.specs.declared.kind.UnitRow.{UnitRow}
use Rattle.tf_manifest.specs.declared.kinds.Stored.{Stored}
use Rattle.tf_manifest.specs.declared.row.Row.TheVariants as row
use Rattle.tf_manifest.specs.declared.value.Value.{Value}
use Rattle.tf_manifest.specs.declared.value.Value.TheVariants as value
use Rattle.tf_registry.specs.Row.{content_at}
use Rattle.tf_manifest.specs.Rows.{Pair, has_history, history_pairs, key_of}
use Rattle.tf_registry.specs.Table.{Shown}
use Rattle.tf_manifest.specs.View.{ShowsJournal, View, tables_by, value_by}
use Rattle.tf_scan.specs.Sets.{is_among}
use Rattle.tf_query.specs.Asked.{account_filter_at}
use Rattle.tf_query.specs.Fields.{has_value, transfer_field}
use Rattle.tf_query.specs.History.{asks_whole_account, has_sums, history_at, is_on_side}
use Rattle.tf_query.specs.Matches.{AreDated, holds_at, record_at, transfer_timestamp}
use Rattle.tf_look_ups.specs.Reads.{has_entry}
use Rattle.tf_query.proofs.Asking.{account_filter_held, has_asked}
use Rattle.tf_query.proofs.Dated.{any_at, any_held}
use Rattle.tf_query.proofs.Keyed.{same_key, some_mapped}

-- whether pairs have something at a key
abbrev has : Key → List Pair → Bool
has key pairs = is_some (value_at key_cmp key pairs)

-- what two lists of pairs have, one of them has
has_joined : (key : Key) (ps qs : List Pair) → has key (ps ++ qs) ≡ (has key ps || has key qs)
has_joined key [] qs = refl
has_joined key (p ∷ ps) qs = step (is_eq (key_cmp p.0 key)) (has_joined key ps qs)
  where
    value_in : Option Pair → Option Value
    value_in o = option_map (λ (q : Pair). q.1) o

    here : Pair → Bool
    here q = is_eq (key_cmp q.0 key)

    step : (b : Bool) → has key (ps ++ qs) ≡ (has key ps || has key qs)
        → is_some (value_in (cond b (Some p) (find here (ps ++ qs)))) ≡ (is_some (value_in (cond b (Some p) (find here ps))) || has key qs)
    step true again = refl
    step false again = again

-- two sides of a transfer at its timestamp
one_side : (at d c rest : Bool) → (((at && d) || (at && c)) || rest) ≡ ((at && (d || c)) || rest)
one_side true true c rest = refl
one_side true false c rest = refl
one_side false d c rest = refl

module _ (journal : List Entry) (id : ℕ) (history : has_history journal id ≡ true) where
  -- the pair of one side, if its account has history
  abbrev side_pairs : ℕ → ℕ → List Pair
  side_pairs n t = cond (has_history journal n) ((key_of n t, value.Sums (balances_of (cut_after journal t) n)) ∷ []) []

  side_has : (n s t : ℕ) → has (key_of id t) (side_pairs n s) ≡ (s == t && n == id)
  side_has n s t = step (has_history journal n) refl (n == id) refl
    where
      pair : Pair
      pair = (key_of n s, value.Sums (balances_of (cut_after journal s) n))

      one : (b : Bool) → is_some (option_map (λ (q : Pair). q.1) (cond b (Some pair) None)) ≡ b
      one true = refl
      one false = refl

      none : (b : Bool) → false ≡ (b && false)
      none true = refl
      none false = refl

      step : (b : Bool) → has_history journal n ≡ b → (e : Bool) → (n == id) ≡ e → has (key_of id t) (cond b (pair ∷ []) []) ≡ (s == t && n == id)
      step true h e i = one (is_eq (key_cmp (key_of n s) (key_of id t))) ∙ same_key n s id t
      step false h true i = absurd (let wrong : false ≡ true = sym h ∙ ap (has_history journal) (eqb-true n id i) ∙ history in cc)
      step false h false i = none (s == t) ∙ ap (λ e. s == t && e) (sym i)

  sums_among : (t : ℕ) (records : List Transfer) → has (key_of id t) (flat_map (λ x. history_pairs journal Debit x ++ history_pairs journal Credit x) records) ≡ any_at transfer_timestamp t (is_on_side id) records
  sums_among t [] = refl
  sums_among t (x ∷ records) =
      let key = key_of id t in
      let later = flat_map (λ y. history_pairs journal Debit y ++ history_pairs journal Credit y) records in
      has_joined key (history_pairs journal Debit x ++ history_pairs journal Credit x) later
      ∙ ap (λ b. b || has key later) (has_joined key (history_pairs journal Debit x) (history_pairs journal Credit x))
      ∙ ap (λ b. (b || has key (history_pairs journal Credit x)) || has key later) (side_has x.debit_account_id x.timestamp t)
      ∙ ap (λ b. ((x.timestamp == t && x.debit_account_id == id) || b) || has key later) (side_has x.credit_account_id x.timestamp t)
      ∙ ap (λ b. ((x.timestamp == t && x.debit_account_id == id) || (x.timestamp == t && x.credit_account_id == id)) || b) (sums_among t records)
      ∙ one_side (x.timestamp == t) (x.debit_account_id == id) (x.credit_account_id == id) (any_at transfer_timestamp t (is_on_side id) records)

  pub sums_held : (view : View) → ShowsJournal view journal → AreDated transfer_timestamp (transfers_of journal)
      → (t : ℕ) → has_sums view id t ≡ holds_at transfer_timestamp (is_on_side id) (transfers_of journal) t
  sums_held view shows dated t =
      sym (some_mapped (value_by kind.Sums) (content_at (key_of id t) (tables_by view kind.Sums)))
      ∙ ap is_some (shows row.History (key_of id t))
      ∙ sums_among t (transfers_of journal)
      ∙ any_held transfer_timestamp (transfers_of journal) dated t (is_on_side id)

-- what a scan of the tables of the row has
pub sums_left : (view : View) (id : ℕ) (tables : List (Shown (Stored Sums))) (left timestamps : List ℕ) → tables ≡ tables_by view kind.Sums → left ≡ timestamps
    → ((t : ℕ) → is_among t timestamps ≡ is_some (content_at (key_of id t) tables)) → (t : ℕ) → is_among t left ≡ has_sums view id t
sums_left view id tables left timestamps are same members t = ap (is_among t) same ∙ members t ∙ ap (λ ts. is_some (content_at (key_of id t) ts)) are

-- where both sides are asked for and no field, a transfer has what is asked for if the account is on a side
whole : (debits credits wide middle narrow code : Bool) → (debits && credits && wide && middle && narrow && code) ≡ true
    → (d c u v w x : Bool) → (d || c) ≡ (((debits && d) || (credits && c)) && (wide || u) && (middle || v) && (narrow || w) && (code || x))
whole true true true true true true e true c u v w x = refl
whole true true true true true true e false true u v w x = refl
whole true true true true true true e false false u v w x = refl
whole true true true true true false e d c u v w x = absurd (cc)
whole true true true true false code e d c u v w x = absurd (cc)
whole true true true false narrow code e d c u v w x = absurd (cc)
whole true true false middle narrow code e d c u v w x = absurd (cc)
whole true false wide middle narrow code e d c u v w x = absurd (cc)
whole false credits wide middle narrow code e d c u v w x = absurd (cc)

whole_asked : (filter : AccountFilter) → asks_whole_account filter ≡ true → (o : Option Transfer) → option_map_or (is_on_side filter.account_id) o false ≡ option_map_or (has_asked filter) o false
whole_asked filter e None = refl
whole_asked filter e (Some x) =
    whole (asks_debits filter) (asks_credits filter) (filter.user_data_128 == 0) (filter.user_data_64 == 0) (filter.user_data_32 == 0) (filter.code == 0) e
    (x.debit_account_id == filter.account_id) (x.credit_account_id == filter.account_id)
    (x.user_data_128 == filter.user_data_128) (x.user_data_64 == filter.user_data_64) (x.user_data_32 == filter.user_data_32) (x.code == filter.code)

pub history_asked : (view : View) (journal : List Entry) → ShowsJournal view journal → AreDated transfer_timestamp (transfers_of journal)
    → ((row : UnitRow) → is_some (transfer_field row) ≡ true → (value t : ℕ) → has_entry view row value t ≡ holds_at transfer_timestamp (has_value (transfer_field row) value) (transfers_of journal) t)
    → (filter : AccountFilter) → has_history journal filter.account_id ≡ true → (t : ℕ) → history_at view filter t ≡ account_filter_at view filter t
history_asked view journal shows dated indexed filter history t = step (asks_whole_account filter) refl
  where
    step : (b : Bool) → asks_whole_account filter ≡ b → cond b (has_sums view filter.account_id t) (account_filter_at view filter t) ≡ account_filter_at view filter t
    step true e =
        sums_held journal filter.account_id history view shows dated t
        ∙ whole_asked filter e (record_at transfer_timestamp (transfers_of journal) t)
        ∙ sym (account_filter_held view (transfers_of journal) indexed filter t)
    step false e = refl
