-- All rows published, one after another.
use Rattle.std.proofs.Common.{◌≡◌, ℕ, zero, suc, ◌+◌, ◌*◌, ◌<◌, ◌≤◌, List, [], ◌∷◌, length, drop, map, Option, Some, None, ◌≢◌, Bool, true, false, cond, refl, sym, ◌∙◌, ap, subst, arith, ◌⊎◌, inl, inr}
use Rattle.std.specs.Prelude.{slice_index_or, ◌==◌}
use Rattle.std.proofs.lemmas.Bool.{both_ways, eq-eqb}
use Rattle.std.proofs.lemmas.Option.{none-some}
use Rattle.tf_table.specs.declared.key.Key.{Key}
use Rattle.tf_table.specs.Content.{entry_at, entry_of}
use Rattle.tf_manifest.specs.declared.row.Row.{Row}
use Rattle.tf_manifest.specs.declared.row.Row.TheVariants as row
use Rattle.tf_manifest.specs.declared.value.Value.{Value}
use Rattle.tf_manifest.specs.Kinds.{kind_of}
use Rattle.tf_registry.specs.Limit.{Pushed}
use Rattle.tf_registry.specs.Table.{Shown}
use Rattle.tf_registry.specs.Row.{lists_of}
use Rattle.tf_manifest.specs.RowNames.{rows_in_order}
use Rattle.tf_manifest.specs.View.{StoredBy, View, content_in, references_in, tables_by, value_by}
use Rattle.tf_registry.proofs.Rows.{under}
use Rattle.tf_rows.specs.Counts.{all_references}
use Rattle.tf_rows.specs.Parts.{Entries, parts_of, place_of, sealed_in, seen_rows, value_of_part}
use Rattle.tf_publish.specs.Publish.{PublishesRow, entries_waiting, needed_by, needed_for, tables_needed, waiting_in}
use Rattle.tf_publish.proofs.Measures.{tables_apart}
use Rattle.tf_rows.proofs.CanChange.{StandFrom, all_rows_stand}
use Rattle.tf_rows.proofs.Next.{by_row}
use Rattle.tf_rows.proofs.Parts.{value-seen}
use Rattle.tf_rows.proofs.Stepping.{place_exact}

-- where the rows before a place were published and the others weren't yet
pub record Going (fresh : Entries) (old now : View) (n : ℕ) : Type 0 where
  pub published : (r : Row) (key : Key) → place_of r < n → content_in now r key ≡ value_of_part (parts_of fresh old r) key
  pub content : (r : Row) (key : Key) → n ≤ place_of r → content_in now r key ≡ content_in old r key
  pub references : (r : Row) → n ≤ place_of r → references_in now r ≡ references_in old r
  pub count : now.pushed.count + needed_by fresh old (drop n rows_in_order) ≡ old.pushed.count + tables_needed fresh old
  pub few : now.pushed.count + all_references now ≤ old.pushed.count + all_references old + 2 * n
  pub added : all_references now + old.pushed.count ≤ all_references old + now.pushed.count
  pub limit : now.pushed.limit ≡ old.pushed.limit

pub starts : (fresh : Entries) (view : View) → Going fresh view view 0
starts fresh view = record {
  published = λ r key before. absurd (omega (arith, before));
  content = λ r key from. refl;
  references = λ r from. refl;
  count = refl;
  few = omega arith;
  added = omega arith;
  limit = refl;
}

pub place_within : (r : Row) → place_of r < 21
place_within = elim [
  | row.AccountObjects ↦ omega arith
  | row.AccountIds ↦ omega arith
  | row.AccountUserData128 ↦ omega arith
  | row.AccountUserData64 ↦ omega arith
  | row.AccountUserData32 ↦ omega arith
  | row.AccountLedger ↦ omega arith
  | row.AccountCode ↦ omega arith
  | row.AccountSums ↦ omega arith
  | row.TransferObjects ↦ omega arith
  | row.TransferIds ↦ omega arith
  | row.TransferDebit ↦ omega arith
  | row.TransferCredit ↦ omega arith
  | row.TransferUserData128 ↦ omega arith
  | row.TransferUserData64 ↦ omega arith
  | row.TransferUserData32 ↦ omega arith
  | row.TransferLedger ↦ omega arith
  | row.TransferCode ↦ omega arith
  | row.PendingStatus ↦ omega arith
  | row.Expiry ↦ omega arith
  | row.ExpiryEntries ↦ omega arith
  | row.History ↦ omega arith
]

stands_at : (m : ℕ) (rows : List Row) (i : ℕ) (d : Row) → StandFrom m rows → i < length rows → place_of (slice_index_or rows i d) ≡ m + i
stands_at m [] i d stand within = absurd (omega (arith, within))
stands_at m (r ∷ rows) zero d stand within = omega (arith, stand.0)
stands_at m (r ∷ rows) (suc i) d stand within = omega (arith, stands_at (suc m) rows i d stand.1 (omega (arith, within)))

drop_at : (rows : List Row) (i : ℕ) (d : Row) → i < length rows → drop i rows ≡ slice_index_or rows i d ∷ drop (suc i) rows
drop_at [] i d within = absurd (omega (arith, within))
drop_at (r ∷ rows) zero d within = refl
drop_at (r ∷ rows) (suc i) d within = drop_at rows i d (omega (arith, within))

-- the rows from a place on
pub rows_from : (n : ℕ) (r : Row) → n < 21 → place_of r ≡ n → drop n rows_in_order ≡ r ∷ drop (n + 1) rows_in_order
rows_from n r within stands =
    let after : suc n ≡ n + 1 = omega arith in
    let is : slice_index_or rows_in_order n r ≡ r = place_exact (slice_index_or rows_in_order n r) r (let at = stands_at 0 rows_in_order n r all_rows_stand within in omega (arith, at, stands)) in
    drop_at rows_in_order n r within ∙ ap (λ (k : ℕ). slice_index_or rows_in_order n r ∷ drop k rows_in_order) after ∙ ap (λ (s : Row). s ∷ drop (n + 1) rows_in_order) is

not_at : (a b n : ℕ) → (a == b) ≡ false → b ≡ n → a < n + 1 → a < n
not_at a b n differ e before = elim (lt_or_eq a n before) [
  | inl less ↦ less
  | inr same ↦ absurd (both_ways (a == b) differ (eq-eqb a b (same ∙ sym e)))
] where
  lt_or_eq : (x y : ℕ) → x < y + 1 → (x < y) ⊎ (x ≡ y)
  lt_or_eq zero zero h = inr refl
  lt_or_eq zero (suc y) h = inl (omega arith)
  lt_or_eq (suc x) zero h = absurd (omega (arith, h))
  lt_or_eq (suc x) (suc y) h = elim (lt_or_eq x y (omega (arith, h))) [
    | inl less ↦ inl (omega (arith, less))
    | inr same ↦ inr (ap suc same)
  ]

-- where a row has the same content, it has the same values behind its mutable table
same_behind : (fresh : Entries) (old now : View) (r : Row) → ((key : Key) → content_in now r key ≡ content_in old r key) → (key : Key) → value_of_part (parts_of fresh now r) key ≡ value_of_part (parts_of fresh old r) key
same_behind fresh old now r same key =
    let seen = value_by (kind_of r) in
    under (entry_at key (fresh r)) (entry_of key (sealed_in now r)) (entry_of key (sealed_in old r))
    (value-seen seen key (lists_of (tables_by now (kind_of r))) ∙ same key ∙ sym (value-seen seen key (lists_of (tables_by old (kind_of r)))))

module _ (fresh : Entries) (old now : View) (n : ℕ) (r : Row) (going : Going fresh old now n) (within : n < 21) (stands : place_of r ≡ n) where
  next_rows : drop n rows_in_order ≡ r ∷ drop (n + 1) rows_in_order
  next_rows = rows_from n r within stands

  pub same_references : references_in now r ≡ references_in old r
  same_references = going.references r (omega (arith, stands))

  -- what the row needs is what is counted for it
  pub counted : now.pushed.count + (needed_for (fresh r) (references_in now r) + needed_by fresh old (drop (n + 1) rows_in_order)) ≡ old.pushed.count + tables_needed fresh old
  counted =
      ap (λ (k : ℕ). now.pushed.count + (needed_for (fresh r) k + needed_by fresh old (drop (n + 1) rows_in_order))) same_references
      ∙ ap (λ (rows : List Row). now.pushed.count + needed_by fresh old rows) (sym next_rows)
      ∙ going.count

  -- there is room for it
  pub room_for_row : old.pushed.count + tables_needed fresh old ≤ old.pushed.limit → now.pushed.count + needed_for (fresh r) (references_in now r) ≤ now.pushed.limit
  room_for_row fits = let all = counted in let same = going.limit in omega (arith, all, same, fits)

  -- a part of what it needs is a part of all
  pub part_of_all : (count : ℕ) → count ≤ now.pushed.count + needed_for (fresh r) (references_in now r) → count ≤ old.pushed.count + tables_needed fresh old
  part_of_all count most = let all = counted in omega (arith, all, most)

  not_there : (s : Row) → (place_of s == place_of r) ≡ false → place_of s < n + 1 → place_of s < n
  not_there s differ before = not_at (place_of s) (place_of r) n differ stands before

  -- and after it the next is to come
  pub goes_on : (new : View) → PublishesRow fresh r now new → Going fresh old new (n + 1)
  goes_on new publishes =
      let at = stands in
      let other : (s : Row) → (place_of s == place_of r) ≡ false → (e : s ≡ r) → ⊥ = λ s differ e. both_ways (place_of s == place_of r) differ (eq-eqb (place_of s) (place_of r) (ap place_of e)) in
      let apart : (s : Row) → n + 1 ≤ place_of s → (e : s ≡ r) → ⊥ = λ s later e. let same = ap place_of e in omega (arith, at, later, same) in
      record {
        published = λ s key before.
            by_row (content_in new s key ≡ value_of_part (parts_of fresh old s) key) s r
            (λ (e : s ≡ r). subst (λ (x : Row). content_in new x key ≡ value_of_part (parts_of fresh old x) key) (sym e)
            (publishes.here key ∙ same_behind fresh old now r (λ k. going.content r k (omega (arith, at))) key))
            (λ (differ : (place_of s == place_of r) ≡ false).
            publishes.others.content s key (other s differ)
            ∙ going.published s key (not_there s differ before));
        content = λ s key later. publishes.others.content s key (apart s later) ∙ going.content s key (omega (arith, later));
        references = λ s later. publishes.others.references s (apart s later) ∙ going.references s (omega (arith, later));
        count = let all = counted in let one = publishes.count in omega (arith, all, one);
        few = let before = going.few in let one = publishes.few in omega (arith, before, one);
        added = let before = going.added in let one = publishes.added in omega (arith, before, one);
        limit = publishes.limit ∙ going.limit;
      }

-- at the end each row is published
pub all_published : (fresh : Entries) (old now : View) → Going fresh old now 21 → (r : Row) (key : Key) → content_in now r key ≡ value_of_part (parts_of fresh old r) key
all_published fresh old now going r key = going.published r key (place_within r)

pub all_counted : (fresh : Entries) (old now : View) → Going fresh old now 21 → now.pushed.count ≡ old.pushed.count + tables_needed fresh old
all_counted fresh old now going = omega (arith, going.count)

-- no more than two tables a row are needed
needed_few : (fresh : Entries) (view : View) (rows : List Row) → needed_by fresh view rows ≤ 2 * length rows
needed_few fresh view [] = omega arith
needed_few fresh view (r ∷ rows) =
    let own = one_few (fresh r) (references_in view r) in
    let rest = needed_few fresh view rows in
    omega (arith, own, rest)
  where
    one_few : (entries : List (Key × Option Value)) (references : ℕ) → needed_for entries references ≤ 2
    one_few [] references = omega arith
    one_few (entry ∷ entries) references = by_test (references == 64) where
      by_test : (b : Bool) → cond b 2 1 ≤ 2
      by_test true = omega arith
      by_test false = omega arith

pub all_few : (fresh : Entries) (view : View) → tables_needed fresh view ≤ 42
all_few fresh view = needed_few fresh view rows_in_order

-- what the rows before a place have, and those from it on
pub waiting_on : (fresh : Entries) (n : ℕ) (r : Row) → n < 21 → place_of r ≡ n → waiting_in fresh (drop n rows_in_order) ≡ length (fresh r) + waiting_in fresh (drop (n + 1) rows_in_order)
waiting_on fresh n r within stands = ap (waiting_in fresh) (rows_from n r within stands)

-- a part of what is needed was counted
pub counted_upto : (fresh : Entries) (old now : View) (n : ℕ) → Going fresh old now n → now.pushed.count ≤ old.pushed.count + tables_needed fresh old
counted_upto fresh old now n going = omega (arith, going.count)

pub parts_apart : (fresh : Entries) (view : View) (p : Pushed) (r : Row) → parts_of fresh (record view { pushed = p }) r ≡ parts_of fresh view r
parts_apart fresh view p r =
    ap (λ (ts : List (Shown (StoredBy (kind_of r)))). record { fresh = fresh r; below = map (seen_rows (value_by (kind_of r))) (lists_of ts) }) (tables_apart view p (kind_of r))

nothing_needed : (fresh : Entries) (view : View) (rows : List Row) → ((r : Row) → fresh r ≡ []) → needed_by fresh view rows ≡ 0
nothing_needed fresh view [] none = refl
nothing_needed fresh view (r ∷ rows) none =
    let own : needed_for (fresh r) (references_in view r) ≡ 0 = ap (λ (es : List (Key × Option Value)). needed_for es (references_in view r)) (none r) in
    let others = nothing_needed fresh view rows none in
    omega (arith, own, others)

pub no_tombstone : (key : Key) (rows : List (Key × Option Value)) → rows ≡ [] → entry_at key rows ≢ Some None
no_tombstone key rows none is = absurd (none-some None (sym (ap (entry_at key) none) ∙ is))

-- nothing is needed, and nothing waits, where no mutable table has an entry
pub none_needed : (fresh : Entries) (view : View) → ((r : Row) → fresh r ≡ []) → tables_needed fresh view ≡ 0
none_needed fresh view none = nothing_needed fresh view rows_in_order none

nothing_waits : (fresh : Entries) (rows : List Row) → ((r : Row) → fresh r ≡ []) → waiting_in fresh rows ≡ 0
nothing_waits fresh [] none = refl
nothing_waits fresh (r ∷ rows) none =
    let own = ap (λ (es : List (Key × Option Value)). length es) (none r) in
    let others = nothing_waits fresh rows none in
    omega (arith, own, others)

pub none_waits : (fresh : Entries) → ((r : Row) → fresh r ≡ []) → entries_waiting fresh ≡ 0
none_waits fresh none = nothing_waits fresh rows_in_order none

-- a row needs a table exactly where its mutable table has an entry
needs_none : (entries : List (Key × Option Value)) (references : ℕ) → needed_for entries references ≡ 0 → length entries ≡ 0
needs_none [] references none = refl
needs_none (entry ∷ entries) references none = absurd (by_test (references == 64) none) where
  by_test : (b : Bool) → ◌≡◌ {A = ℕ} (cond b 2 1) 0 → ⊥
  by_test true none = omega arith
  by_test false none = omega arith

none_needs : (entries : List (Key × Option Value)) (references : ℕ) → length entries ≡ 0 → needed_for entries references ≡ 0
none_needs [] references none = refl
none_needs (entry ∷ entries) references none = absurd (omega (arith, none))

needed_in : (fresh : Entries) (view : View) (rows : List Row) → needed_by fresh view rows ≡ 0 → waiting_in fresh rows ≡ 0
needed_in fresh view [] none = refl
needed_in fresh view (r ∷ rows) none =
    let own = needs_none (fresh r) (references_in view r) (omega (arith, none)) in
    let others = needed_in fresh view rows (omega (arith, none)) in
    omega (arith, own, others)

waits_in : (fresh : Entries) (view : View) (rows : List Row) → waiting_in fresh rows ≡ 0 → needed_by fresh view rows ≡ 0
waits_in fresh view [] none = refl
waits_in fresh view (r ∷ rows) none =
    let own = none_needs (fresh r) (references_in view r) (omega (arith, none)) in
    let others = waits_in fresh view rows (omega (arith, none)) in
    omega (arith, own, others)

-- no table is needed exactly where no entry waits
pub none_where_needless : (fresh : Entries) (view : View) → tables_needed fresh view ≡ 0 → entries_waiting fresh ≡ 0
none_where_needless fresh view none = needed_in fresh view rows_in_order none

pub needless_where_none : (fresh : Entries) (view : View) → entries_waiting fresh ≡ 0 → tables_needed fresh view ≡ 0
needless_where_none fresh view none = waits_in fresh view rows_in_order none
