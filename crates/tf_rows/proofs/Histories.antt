-- The row of history after an entry: the sums right after a transfer are those of the journal that ends with it.
use Rattle.std.proofs.Common.{◌≡◌, ℕ, ◌<◌, List, [], ◌∷◌, ◌++◌, map, filter, cond, Option, Some, None, Bool, true, false, refl, ap, sym, ◌∙◌, inl, inr, arith, append-nil}
use Rattle.std.specs.Prelude.{nat_le, if◌then◌else◌}
use Rattle.std.specs.List.{flat_map}
use Rattle.std.specs.Option.{option_map_or}
use Rattle.std.proofs.lemmas.Bool.{le-leb, lt-leb}
use Rattle.std.proofs.lemmas.List.Concat.{flat_map-append}
use Rattle.std.proofs.lemmas.List.Elements.{filter-append}
use Rattle.tf_records.specs.declared.account.Account.{Account}
use Rattle.tf_records.specs.declared.sums.Sums.{Sums}
use Rattle.tf_records.specs.declared.transfer.Transfer.{Transfer}
use Rattle.tf_journal.specs.declared.entry.Entry.{Entry}
use Rattle.tf_journal.specs.declared.entry.Entry.TheVariants as entry
use Rattle.tf_journal.specs.declared.side.Side.{Side}
use Rattle.tf_journal.specs.declared.side.Side.TheVariants.{Debit, Credit}
use Rattle.tf_journal.specs.Answer.{cut_after}
use Rattle.tf_journal.specs.Balances.{account_on, balances_of}
use Rattle.tf_journal.specs.Flags.{keeps_history}
use Rattle.tf_journal.specs.Journal.{IsJournal, timestamp_of, transfer_in, transfers_of}
use Rattle.tf_journal.specs.Laws.{HasAccounts}
use Rattle.tf_journal.specs.Lawful.{IsSound}
use Rattle.tf_journal.specs.Lookup.{account_with_id}
use Rattle.tf_journal.proofs.Accounts.{account_is_stored, account_stays, sound_has_accounts}
use Rattle.tf_journal.proofs.Sound.{all_earlier}
use Rattle.tf_journal.proofs.Unique.{transfers_earlier, transfers_kept, transfers_push}
use Rattle.tf_manifest.specs.declared.row.Row.TheVariants as row
use Rattle.tf_manifest.specs.declared.value.State.{State}
use Rattle.tf_manifest.specs.declared.value.Value.TheVariants as value
use Rattle.tf_manifest.specs.Rows.{Pair, has_history, history_pairs, key_of, rows_of, state_of}
use Rattle.tf_manifest.proofs.Members.{Has, all_has, has_either}
use Rattle.tf_rows.specs.Edits.{history_edit, present_party, put}
use Rattle.tf_rows.proofs.Changes.{IsChange, put_pair, unchanged}
use Rattle.tf_rows.proofs.Grown.{grown_behind}
use Rattle.tf_rows.proofs.StateRow.{account_id}

-- lists of lists that are the same for each element
parts_same : {X Y : Type 0} (f g : X → List Y) (xs : List X) → ((x : X) → Has xs x → f x ≡ g x) → flat_map f xs ≡ flat_map g xs
parts_same f g [] same = refl
parts_same f g (x ∷ xs) same =
    ap (λ ys. ys ++ flat_map f xs) (same x (inl refl)) ∙ ap (λ ys. g x ++ ys) (parts_same f g xs (λ y h. same y (inr h)))

-- a filter that all elements pass
pub filter_all : {X : Type 0} (p : X → Bool) (xs : List X) → ((x : X) → Has xs x → p x ≡ true) → filter p xs ≡ xs
filter_all p [] all = refl
filter_all p (x ∷ xs) all =
    ap (λ b. cond b (x ∷ filter p xs) (filter p xs)) (all x (inl refl)) ∙ ap (λ ys. x ∷ ys) (filter_all p xs (λ y h. all y (inr h)))

-- a journal cut before its last entry
cut_same : (journal : List Entry) (e : Entry) (moment : ℕ) → moment < timestamp_of e → cut_after (journal ++ e ∷ []) moment ≡ cut_after journal moment
cut_same journal e moment earlier =
    filter-append (λ (x : Entry). nat_le (timestamp_of x) moment) journal (e ∷ [])
    ∙ ap (λ b. cut_after journal moment ++ cond b (e ∷ []) []) (lt-leb (timestamp_of e) moment earlier)
    ∙ append-nil (cut_after journal moment)

-- a journal cut at its last entry is whole
cut_whole : (journal : List Entry) (e : Entry) → IsJournal (journal ++ e ∷ []) → cut_after (journal ++ e ∷ []) (timestamp_of e) ≡ journal ++ e ∷ []
cut_whole journal e is =
    filter_all (λ (x : Entry). nat_le (timestamp_of x) (timestamp_of e)) (journal ++ e ∷ []) (λ x h. elim (has_either journal (e ∷ []) x h) [
      | inl old ↦
          let earlier = all_has (λ (y : Entry). timestamp_of y < timestamp_of e) journal x (all_earlier journal e is) old in
          le-leb (timestamp_of x) (timestamp_of e) (omega arith)
      | inr (inl same) ↦ le-leb (timestamp_of x) (timestamp_of e) (let equal = ap timestamp_of same in omega arith)
      | inr (inr none) ↦ absurd none
    ])

abbrev both_sides : List Entry → Transfer → List Pair
both_sides journal t = history_pairs journal Debit t ++ history_pairs journal Credit t

-- the history that an account with a flag has under its id, or not
abbrev pairs_if : Bool → ℕ → ℕ → Sums → List Pair
pairs_if keeps id timestamp sums = if keeps then (key_of id timestamp, value.Sums sums) ∷ [] else []

history_at : (journal : List Entry) (id : ℕ) (a : Account) → account_with_id journal id ≡ Some a → has_history journal id ≡ keeps_history a
history_at journal id a stored = ap (λ (o : Option Account). option_map_or keeps_history o false) stored

-- the history of an old transfer stays
old_side : (journal : List Entry) (e : Entry) (side : Side) (t : Transfer) → HasAccounts journal t → t.timestamp < timestamp_of e
    → history_pairs (journal ++ e ∷ []) side t ≡ history_pairs journal side t
old_side journal e side t has earlier =
    let id = account_on side t in
    let stored = account_is_stored journal side t has in
    let same : has_history (journal ++ e ∷ []) id ≡ has_history journal id
    = history_at (journal ++ e ∷ []) id stored.0 (account_stays journal e id stored.0 stored.1) ∙ sym (history_at journal id stored.0 stored.1) in
    ap (λ (b : Bool). pairs_if b id t.timestamp (balances_of (cut_after (journal ++ e ∷ []) t.timestamp) id)) same
    ∙ ap (λ (j : List Entry). pairs_if (has_history journal id) id t.timestamp (balances_of j id)) (cut_same journal e t.timestamp earlier)

old_sides : (journal : List Entry) (e : Entry) → IsSound journal → IsJournal (journal ++ e ∷ []) → (t : Transfer) → Has (transfers_of journal) t
    → both_sides (journal ++ e ∷ []) t ≡ both_sides journal t
old_sides journal e sound is t has =
    let accounts = all_has (HasAccounts journal) (transfers_of journal) t (sound_has_accounts journal sound) has in
    let earlier = all_has (λ (u : Transfer). u.timestamp < timestamp_of e) (transfers_of journal) t (transfers_earlier journal (timestamp_of e) (all_earlier journal e is)) has in
    ap (λ (ps : List Pair). ps ++ history_pairs (journal ++ e ∷ []) Credit t) (old_side journal e Debit t accounts earlier)
    ∙ ap (λ (ps : List Pair). history_pairs journal Debit t ++ ps) (old_side journal e Credit t accounts earlier)

pub history_stays : (journal : List Entry) (e : Entry) → IsSound journal → IsJournal (journal ++ e ∷ []) → transfer_in e ≡ None
    → IsChange (rows_of journal row.History) (rows_of (journal ++ e ∷ []) row.History) []
history_stays journal e sound is none =
    unchanged (rows_of journal row.History) (rows_of (journal ++ e ∷ []) row.History)
    (ap (flat_map (both_sides (journal ++ e ∷ []))) (transfers_kept journal e none)
    ∙ parts_same (both_sides (journal ++ e ∷ [])) (both_sides journal) (transfers_of journal) (old_sides journal e sound is))

pub history_grows : (journal : List Entry) (t : Transfer) → IsSound journal → IsJournal (journal ++ entry.Transfer t ∷ [])
    → IsChange (rows_of journal row.History) (rows_of (journal ++ entry.Transfer t ∷ []) row.History)
    (map put_pair (history_pairs (journal ++ entry.Transfer t ∷ []) Debit t ++ history_pairs (journal ++ entry.Transfer t ∷ []) Credit t))
history_grows journal t sound is =
    let e = entry.Transfer t in
    let after = journal ++ e ∷ [] in
    grown_behind (rows_of journal row.History) (rows_of after row.History) (both_sides after t)
    (ap (flat_map (both_sides after)) (transfers_push journal t)
    ∙ flat_map-append (both_sides after) (transfers_of journal) (t ∷ [])
    ∙ ap (λ (ps : List Pair). ps ++ (both_sides after t ++ [])) (parts_same (both_sides after) (both_sides journal) (transfers_of journal) (old_sides journal e sound is))
    ∙ ap (λ (ps : List Pair). rows_of journal row.History ++ ps) (append-nil (both_sides after t)))

-- the edit of an account's history is the pair that the journal has
pub history_side : (journal : List Entry) (t : Transfer) (side : Side) (a : Account) (change : State → State) → IsJournal (journal ++ entry.Transfer t ∷ [])
    → account_with_id journal (account_on side t) ≡ Some a → state_of (journal ++ entry.Transfer t ∷ []) a ≡ change (state_of journal a)
    → map put_pair (history_pairs (journal ++ entry.Transfer t ∷ []) side t) ≡ history_edit t change (present_party journal a)
history_side journal t side a change is stored changes =
    let e = entry.Transfer t in
    let after = journal ++ e ∷ [] in
    let id = account_on side t in
    let own = account_id journal id a stored in
    let flag = history_at after id a (account_stays journal e id a stored) in
    let sums : balances_of (cut_after after t.timestamp) id ≡ (change (state_of journal a)).sums
    = ap (λ (j : List Entry). balances_of j id) (cut_whole journal e is) ∙ ap (balances_of after) (sym own) ∙ ap (λ (s : State). s.sums) changes in
    ap (λ (b : Bool). map put_pair (pairs_if b id t.timestamp (balances_of (cut_after after t.timestamp) id))) flag
    ∙ ap (λ (s : Sums). map put_pair (pairs_if (keeps_history a) id t.timestamp s)) sums
    ∙ ap (λ (n : ℕ). map put_pair (pairs_if (keeps_history a) n t.timestamp (change (state_of journal a)).sums)) (sym own)
    ∙ as_edit (keeps_history a) where
      as_edit : (b : Bool) → map put_pair (pairs_if b a.id t.timestamp (change (state_of journal a)).sums)
          ≡ (if b then put (key_of a.id t.timestamp) (value.Sums (change (state_of journal a)).sums) ∷ [] else [])
      as_edit true = refl
      as_edit false = refl
