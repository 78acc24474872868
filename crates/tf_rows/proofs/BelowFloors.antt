-- Keys of expiry below which there is none: what an entry, an undo and a keep make of them.
use Rattle.std.proofs.Common.{◌≡◌, ℕ, ◌-◌, ◌≤◌, List, [], ◌∷◌, ◌++◌, length, take, Option, Some, None, true, false, not, ◌&&◌, refl, sym, ◌∙◌, ap, subst, arith}
use Rattle.std.specs.Prelude.{◌==◌}
use Rattle.std.specs.Option.{unwrap_or}
use Rattle.std.specs.Ordering.{is_gt, is_lt, ord_min}
use Rattle.std.specs.declared.cmp.Ordering.{Ordering}
use Rattle.std.specs.declared.cmp.Ordering.TheVariants.{Less, Equal, Greater}
use Rattle.std.proofs.lemmas.Bool.{and_from, both_ways, true≢false}
use Rattle.std.proofs.lemmas.Cmp.{tied_itself}
use Rattle.std.proofs.lemmas.List.{take_all}
use Rattle.tf_sorted.proofs.Order.{below_upto}
use Rattle.tf_records.specs.declared.transfer.Transfer.{Transfer}
use Rattle.tf_journal.specs.declared.entry.Entry.{Entry}
use Rattle.tf_journal.specs.declared.entry.Entry.TheVariants as entry
use Rattle.tf_journal.specs.Flags.{is_pending}
use Rattle.tf_journal.specs.Lawful.{IsSound}
use Rattle.tf_journal.specs.Ledger.{CanGrow}
use Rattle.tf_journal.specs.Status.{pending_at}
use Rattle.tf_table.specs.declared.key.Key.{Key}
use Rattle.tf_table.specs.First.{IsFirstFrom}
use Rattle.tf_table.specs.Key.{key_cmp}
use Rattle.tf_table.proofs.Determined.{bool_cases}
use Rattle.tf_table.proofs.Keys.{keys_total}
use Rattle.tf_table.proofs.Rising.{is_gt_is, less_from}
use Rattle.tf_manifest.specs.declared.row.Row.TheVariants as row
use Rattle.tf_manifest.specs.declared.value.Value.{Value}
use Rattle.tf_manifest.specs.Shows.{value_of}
use Rattle.tf_manifest.proofs.Members.{chosen}
use Rattle.tf_rows.specs.declared.floors.Floors.{Floors}
use Rattle.tf_rows.specs.Edits.{edits, expiry_key, found_for}
use Rattle.tf_rows.specs.Floors.{HaveFloors, IsFloor, floors_after, floors_at, greatest_key, lowered, raised}
use Rattle.tf_rows.proofs.Changes.{RowsAreMaps}
use Rattle.tf_rows.proofs.Unvalued.{PutNone, RowsChangeByEdits, expired_put, none_back, none_for_good, none_grows, none_grows_from, nothing_put, transfer_put}
use Rattle.tf_rows.proofs.DueRows.{first_is_floor, next_is_found}

-- the lesser of two keys is above neither
upto_first : (a b : Key) → is_gt (key_cmp (ord_min key_cmp a b) a) ≡ false
upto_first a b = chosen (λ (k : Key). is_gt (key_cmp k a) ≡ false) (is_lt (key_cmp b a)) b a
    (λ less. not_greater (key_cmp b a) less)
    (λ _. ap is_gt (tied_itself keys_total a)) where
      not_greater : (o : Ordering) → is_lt o ≡ true → is_gt o ≡ false
      not_greater Less e = refl
      not_greater Equal e = refl
      not_greater Greater e = absurd (cc)

upto_second : (a b : Key) → is_gt (key_cmp (ord_min key_cmp a b) b) ≡ false
upto_second a b = chosen (λ (k : Key). is_gt (key_cmp k b) ≡ false) (is_lt (key_cmp b a)) b a
    (λ _. ap is_gt (tied_itself keys_total b))
    (λ other. is_gt_is key_cmp keys_total a b ∙ other)

-- what isn't above a floor is one
floor_lower : (journal : List Entry) (floor lower : Key) → is_gt (key_cmp lower floor) ≡ false → IsFloor floor journal → IsFloor lower journal
floor_lower journal floor lower upto is = λ key less. is key (below_upto key_cmp keys_total key lower floor (key_cmp lower floor) refl upto less)

-- keys below a floor
abbrev Below : Key → Key → Type 0
Below floor key = key_cmp key floor ≡ Less

-- what is at or above a floor isn't below it
not_below : (floor key : Key) → is_lt (key_cmp key floor) ≡ false → Below floor key → ⊥
not_below floor key at less = true≢false (sym (ap is_lt less) ∙ at)

module _ (change : RowsChangeByEdits) (journal : List Entry) (e : Entry) (sound : IsSound journal) (grows : CanGrow journal e) (kept : ℕ) where
  abbrev Put : Key → Type 0
  Put floor = PutNone (Below floor) (edits journal e row.Expiry)

  floors_grow : (floors : Floors) → Put floors.present → Put floors.undone → HaveFloors floors journal kept → HaveFloors floors (journal ++ e ∷ []) kept
  floors_grow floors from under is = record {
    present = none_grows (Below floors.present) change journal e sound grows from is.present;
    undone = none_grows_from (Below floors.undone) change journal e sound grows under kept is.undone;
  }

lowered_have : (key : Key) (floors : Floors) (journal : List Entry) (kept : ℕ) → HaveFloors floors journal kept → HaveFloors (lowered key floors) journal kept
lowered_have key floors journal kept is = record {
  present = floor_lower journal floors.present (ord_min key_cmp floors.present key) (upto_first floors.present key) is.present;
  undone = λ n more. floor_lower (take n journal) floors.undone (ord_min key_cmp floors.undone key) (upto_first floors.undone key) (is.undone n more);
}

-- a key is at or above the lesser of it and another
from_lesser : (floor key : Key) → is_lt (key_cmp key (ord_min key_cmp floor key)) ≡ false
from_lesser floor key = sym (is_gt_is key_cmp keys_total (ord_min key_cmp floor key) key) ∙ upto_second floor key

module _ (change : RowsChangeByEdits) (maps : RowsAreMaps) (journal : List Entry) (sound : IsSound journal) (floors : Floors) (kept : ℕ) (is : HaveFloors floors journal kept) where
  abbrev After : Entry → Type 0
  After e = HaveFloors (floors_after floors e (found_for journal e).settled) (journal ++ e ∷ []) kept

  transfer_floors : (transfer : Transfer) → CanGrow journal (entry.Transfer transfer) → After (entry.Transfer transfer)
  transfer_floors transfer grows =
      let e = entry.Transfer transfer in
      let settled = (found_for journal e).settled in
      let key = expiry_key transfer in
      chosen (λ (fs : Floors). HaveFloors fs (journal ++ e ∷ []) kept) (is_pending transfer && not (transfer.timeout == 0)) (lowered key floors) floors
      (λ _.
      floors_grow change journal e sound grows kept (lowered key floors)
      (transfer_put (Below (ord_min key_cmp floors.present key)) transfer settled (λ _ _. not_below (ord_min key_cmp floors.present key) key (from_lesser floors.present key)))
      (transfer_put (Below (ord_min key_cmp floors.undone key)) transfer settled (λ _ _. not_below (ord_min key_cmp floors.undone key) key (from_lesser floors.undone key)))
      (lowered_have key floors journal kept is))
      (λ never.
      let no_key : (floor : Key) → is_pending transfer ≡ true → (transfer.timeout == 0) ≡ false → Below floor key → ⊥
      = λ floor pending timed below. absurd (both_ways (is_pending transfer && not (transfer.timeout == 0)) never (and_from (is_pending transfer) (not (transfer.timeout == 0)) pending (ap not timed))) in
      floors_grow change journal e sound grows kept floors (transfer_put (Below floors.present) transfer settled (no_key floors.present)) (transfer_put (Below floors.undone) transfer settled (no_key floors.undone)) is)

  expiry_floors : (timestamp pending : ℕ) → CanGrow journal (entry.Expiry timestamp pending) → After (entry.Expiry timestamp pending)
  expiry_floors timestamp pending grows =
      let e = entry.Expiry timestamp pending in
      let expired = grows.admitted.transfer in
      let found = next_is_found maps journal sound (timestamp - 1) expired grows.admitted.next pending grows.admitted.is in
      let above : Floors = record floors { present = expiry_key expired } in
      let before : HaveFloors above journal kept = record {
        present = first_is_floor maps journal sound (timestamp - 1) expired grows.admitted.next;
        undone = is.undone;
      } in
      subst (λ (o : Option Transfer). HaveFloors (raised o floors) (journal ++ e ∷ []) kept) (sym found)
      (floors_grow change journal e sound grows kept above (expired_put (Below (expiry_key expired)) (pending_at journal pending)) (expired_put (Below floors.undone) (pending_at journal pending)) before)

  -- floors after one more entry
  pub floors_hold : (e : Entry) → CanGrow journal e → After e
  floors_hold (entry.Account account) grows = floors_grow change journal (entry.Account account) sound grows kept floors (nothing_put (Below floors.present)) (nothing_put (Below floors.undone)) is
  floors_hold (entry.Transfer transfer) grows = transfer_floors transfer grows
  floors_hold (entry.Expiry timestamp pending) grows = expiry_floors timestamp pending grows
  floors_hold (entry.Failed timestamp id) grows = floors_grow change journal (entry.Failed timestamp id) sound grows kept floors (nothing_put (Below floors.present)) (nothing_put (Below floors.undone)) is

-- the first key of expiry, from a floor on, is one
first_floor : (journal : List Entry) (own : Key → Option Value) → ((key : Key) → own key ≡ value_of journal row.Expiry key) → (floor : Key) → IsFloor floor journal
    → (first : Option Key) → IsFirstFrom floor own first → IsFloor (unwrap_or first greatest_key) journal
first_floor journal own same floor is None none = λ key less. bool_cases (is_lt (key_cmp key floor))
    (λ below. is key (less_from (key_cmp key floor) below))
    (λ at. sym (same key) ∙ none key at)
first_floor journal own same floor is (Some first) found = λ key less. bool_cases (is_lt (key_cmp key floor))
    (λ below. is key (less_from (key_cmp key floor) below))
    (λ at. sym (same key) ∙ found.before key at less)

-- where all entries stand for good an undo leaves them all
pub first_floors : (journal : List Entry) (own : Key → Option Value) → ((key : Key) → own key ≡ value_of journal row.Expiry key) → (floor : Key) → IsFloor floor journal
    → (first : Option Key) → IsFirstFrom floor own first → HaveFloors (floors_at first) journal (length journal)
first_floors journal own same floor is first found =
    let whole = first_floor journal own same floor is first found in
    record { present = whole; undone = none_for_good (Below (unwrap_or first greatest_key)) journal whole }

-- after an undo
pub floors_back : (floors : Floors) (journal : List Entry) (kept n : ℕ) → kept ≤ n → HaveFloors floors journal kept → HaveFloors (record { present = floors.undone; undone = floors.undone }) (take n journal) kept
floors_back floors journal kept n more is = record {
  present = is.undone n more;
  undone = none_back (Below floors.undone) kept n journal more is.undone;
}

-- of the empty journal each key is a floor
pub empty_floors : (floors : Floors) → HaveFloors floors [] 0
empty_floors floors = record { present = λ key less. refl; undone = λ n more. subst (IsFloor floors.undone) (sym (take_all n [] (omega arith))) (λ key less. refl) }
