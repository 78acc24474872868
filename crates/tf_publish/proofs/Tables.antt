-- What pushes and merges in place leave of each row's tables, row by row.
use Rattle.std.proofs.Common.{◌≡◌, ◌≢◌, ℕ, suc, ◌+◌, ◌<◌, ◌≤◌, List, [], ◌∷◌, length, map, replicate, Option, Bool, true, false, cond, refl, sym, ◌∙◌, ap, subst, arith}
use Rattle.std.specs.Prelude.{◌==◌}
use Rattle.std.proofs.Math.Path.{fun_ext}
use Rattle.std.proofs.lemmas.Bool.{both_ways, eq-eqb, eqb-true, false≢true}
use Rattle.tf_table.specs.declared.key.Key.{Key}
use Rattle.tf_manifest.specs.declared.jobs.Job.{Job}
use Rattle.tf_manifest.specs.declared.jobs.Merged.{Merged}
use Rattle.tf_manifest.specs.declared.jobs.Merged.TheVariants as merged
use Rattle.tf_manifest.specs.declared.kind.Kind.{Kind}
use Rattle.tf_manifest.specs.declared.row.Row.{Row}
use Rattle.tf_manifest.specs.declared.row.Row.TheVariants as row
use Rattle.tf_manifest.specs.declared.value.Value.{Value}
use Rattle.tf_manifest.specs.Jobs.{InstallsIn, IsMerged, IsPickedFrom, job_of, kind_of_job, kind_of_merged, output_of, run_of}
use Rattle.tf_manifest.specs.Kinds.{kind_of}
use Rattle.tf_registry.specs.Limit.{one_more}
use Rattle.tf_registry.specs.Row.{is_nil}
use Rattle.tf_manifest.specs.RowNames.{rows_in_order}
use Rattle.tf_registry.specs.Run.{IsPicked, Replaces}
use Rattle.tf_registry.specs.Table.{Shown, shown}
use Rattle.tf_manifest.specs.View.{StoredBy, View, references_in, tables_by, value_by}
use Rattle.tf_rows.specs.declared.sealed_row.SealedRow.{SealedRow}
use Rattle.tf_rows.specs.Counts.{Counted}
use Rattle.tf_rows.specs.Parts.{Entries, place_of}
use Rattle.tf_rows.specs.SealedRow.{IsSealedOf, PushesIn, entries_of_sealed, kind_of_sealed}
use Rattle.tf_publish.specs.Publish.{entries_waiting, needed_for, tables_needed}
use Rattle.tf_publish.specs.Tables.{AddsInFront, KeepsOthers, MakesPlaceIn, MergesInPlace, Publishes, PublishesIn, PublishesTables, PutsInFront, Waits, by_name, listed, nothing_fresh, sum_of}
use Rattle.tf_rows.proofs.CanChange.{StandFrom, all_rows_stand}
use Rattle.tf_rows.proofs.Apart.{apart_by}
use Rattle.tf_rows.proofs.Next.{by_row}
use Rattle.tf_publish.proofs.Measures.{becomes, has_place, installed}
use Rattle.tf_publish.proofs.OneRow.{others_stay, own_change}
use Rattle.tf_publish.proofs.PublishRows.{none_needed, place_within}

-- what is kept of other rows is kept in turn
pub others_kept : (r : Row) (old mid new : View) → KeepsOthers r old mid → KeepsOthers r mid new → KeepsOthers r old new
others_kept r old mid new first second other apart = second other apart ∙ first other apart

module _ {A N : Type 0} where
  job_picked : (view : View) (m : Merged A N) → IsPicked (tables_by view (kind_of_job (job_of m))) (run_of (job_of m)) → IsPicked (tables_by view (kind_of_merged m)) (output_of m).run
  job_picked view (merged.Stamp u out) h = h
  job_picked view (merged.Account out) h = h
  job_picked view (merged.Transfer out) h = h
  job_picked view (merged.Id out) h = h
  job_picked view (merged.Unit u out) h = h
  job_picked view (merged.State out) h = h
  job_picked view (merged.Sums out) h = h
  job_picked view (merged.Status out) h = h

  -- an install of what was picked merges in place
  module _ (r : Row) (old new : Counted) (j : Job A N) (m : Merged A N) (picked : IsPickedFrom old.tables r j) (is : job_of m ≡ j) (of : kind_of_merged m ≡ kind_of r) (merges : IsMerged m) (installs : InstallsIn old.tables m new.tables) where
    abbrev count : ℕ
    count = length (output_of m).table.rows

    merged_in_place : MergesInPlace (tables_by old.tables (kind_of_merged m)) (tables_by new.tables (kind_of_merged m)) count
    merged_in_place = record {
      run = (output_of m).run;
      out = (output_of m).table;
      picked = job_picked old.tables m (subst (λ (k : Job A N). IsPicked (tables_by old.tables (kind_of_job k)) (run_of k)) (sym is) picked.picked);
      merges = merges;
      replaces =
          subst (λ (ts : List (Shown (StoredBy (kind_of_merged m)))). Replaces (tables_by old.tables (kind_of_merged m)) (output_of m).run (output_of m).table ts)
          (sym (ap (λ (v : View). tables_by v (kind_of_merged m)) (installed old.tables new.tables m installs)
          ∙ own_change old.tables (one_more old.tables.pushed) (kind_of_merged m) installs.installs.tables (has_place old.tables new.tables m installs)))
          installs.installs.installs.replaces;
      count = refl;
    }

    pub place_by_merge : references_in old.tables r ≡ 64 → new.held ≡ old.held + count → MakesPlaceIn r old new
    place_by_merge full held = record {
      entries = count;
      place = record {
        free = λ not_full. absurd (not_full full);
        full = λ _. subst (λ (k : Kind). MergesInPlace (tables_by old.tables k) (tables_by new.tables k) count) of merged_in_place;
      };
      others = λ other apart.
          ap (λ (v : View). tables_by v (kind_of other)) (installed old.tables new.tables m installs)
          ∙ others_stay old.tables (one_more old.tables.pushed) (kind_of_merged m) (kind_of other) installs.installs.tables (λ e. apart_by r other apart (e ∙ of));
      held = held;
    }

-- a row that isn't full has a place
pub place_left : (r : Row) (now : Counted) → references_in now.tables r < 64 → MakesPlaceIn r now now
place_left r now few = record {
  entries = 0;
  place = record { free = λ _. (refl, refl); full = λ full. absurd (omega (arith, few, full)) };
  others = λ other apart. refl;
  held = omega arith;
}

-- a row without entries in its mutable table keeps its tables
nil_is : {X : Type 0} (xs : List X) → is_nil xs ≡ true → xs ≡ []
nil_is [] e = refl
nil_is (x ∷ xs) e = absurd (false≢true e)

pub nothing_published : (fresh : Entries) (r : Row) (now : Counted) → is_nil (fresh r) ≡ true → PublishesIn fresh r now now
nothing_published fresh r now none = record {
  entries = 0;
  tables =
      let tables = tables_by now.tables (kind_of r) in
      subst (λ (es : List (Key × Option Value)). PublishesTables (value_by (kind_of r)) es tables tables 0) (sym (nil_is (fresh r) none)) (refl, refl);
  others = λ other apart. refl;
  held = omega arith;
}

-- what is put in front of a row with a place is published
put_in_front : {V : Type 0} (seen : V → Value) (entries : List (Key × Option Value)) (old new : List (Shown V)) (pushed : ℕ) → is_nil entries ≡ false → PutsInFront seen entries old new pushed → PublishesTables seen entries old new pushed
put_in_front seen [] old new pushed some puts = absurd (false≢true (sym some))
put_in_front seen (entry ∷ entries) old new pushed some puts = puts

module _ {A : Type 0} (fresh : Entries) (r : Row) (old mid new : Counted) (s : SealedRow A) (of : IsSealedOf fresh r s) (place : MakesPlaceIn r old mid) (pushes : PushesIn mid.tables s new.tables) where
  added_in_front : AddsInFront (value_by (kind_of_sealed s)) (fresh r) (tables_by mid.tables (kind_of_sealed s)) (tables_by new.tables (kind_of_sealed s))
  added_in_front = record {
    number = pushes.adds.number;
    rows = entries_of_sealed s;
    has = of.entries;
    is =
        let k = kind_of_sealed s in
        ap (λ (v : View). tables_by v k) (becomes mid.tables new.tables s pushes)
        ∙ own_change mid.tables (one_more mid.tables.pushed) k (shown pushes.adds.number (record { rows = entries_of_sealed s; level = 0; oldest = is_nil (tables_by mid.tables k) }) ∷ tables_by mid.tables k) pushes.adds.within;
  }

  pub one_published : is_nil (fresh r) ≡ false → new.held ≡ mid.held + length (fresh r) → PublishesIn fresh r old new
  one_published some held = record {
    entries = place.entries + length (fresh r);
    tables =
        put_in_front (value_by (kind_of r)) (fresh r) (tables_by old.tables (kind_of r)) (tables_by new.tables (kind_of r)) (place.entries + length (fresh r)) some (record {
          below = tables_by mid.tables (kind_of r);
          merged = place.entries;
          place = place.place;
          front = subst (λ (k : Kind). AddsInFront (value_by k) (fresh r) (tables_by mid.tables k) (tables_by new.tables k)) of.of added_in_front;
          count = refl;
        });
    others = λ other apart.
        ap (λ (v : View). tables_by v (kind_of other)) (becomes mid.tables new.tables s pushes)
        ∙ others_stay mid.tables (one_more mid.tables.pushed) (kind_of_sealed s) (kind_of other)
        (shown pushes.adds.number (record { rows = entries_of_sealed s; level = 0; oldest = is_nil (tables_by mid.tables (kind_of_sealed s)) }) ∷ tables_by mid.tables (kind_of_sealed s))
        (λ e. apart_by r other apart (e ∙ of.of))
        ∙ place.others other apart;
    held = let before = place.held in omega (arith, before, held);
  }

-- where the rows before a place were published and the others weren't yet
pub record TablesGoing (fresh : Entries) (old now : Counted) (n : ℕ) : Type 0 where
  pub tables : Row → ℕ
  pub entries : Row → ℕ
  pub published : (r : Row) → place_of r < n → PublishesTables (value_by (kind_of r)) (fresh r) (tables_by old.tables (kind_of r)) (tables_by now.tables (kind_of r)) (entries r)
  pub needed : (r : Row) → place_of r < n → tables r ≡ needed_for (fresh r) (references_in old.tables r)
  pub same : (r : Row) → n ≤ place_of r → tables_by now.tables (kind_of r) ≡ tables_by old.tables (kind_of r)
  pub none : (r : Row) → n ≤ place_of r → (tables r ≡ 0) × (entries r ≡ 0)
  pub pushed : now.tables.pushed.count ≡ old.tables.pushed.count + sum_of tables rows_in_order
  pub held : now.held ≡ old.held + sum_of entries rows_in_order

-- nothing for any row is nothing for all
pub none_in_all : (rows : List Row) → sum_of (λ r. 0) rows ≡ 0
none_in_all [] = refl
none_in_all (r ∷ rows) = let rest = none_in_all rows in omega (arith, rest)

pub tables_start : (fresh : Entries) (now : Counted) → TablesGoing fresh now now 0
tables_start fresh now = record {
  tables = λ r. 0;
  entries = λ r. 0;
  published = λ r before. absurd (omega (arith, before));
  needed = λ r before. absurd (omega (arith, before));
  same = λ r from. refl;
  none = λ r from. (refl, refl);
  pushed = let none = none_in_all rows_in_order in omega (arith, none);
  held = let none = none_in_all rows_in_order in omega (arith, none);
}

-- another number for one row
abbrev pub with_number : Row → ℕ → (Row → ℕ) → Row → ℕ
with_number r n number s = cond (place_of s == place_of r) n (number s)

pub number_here : (r : Row) (n : ℕ) (number : Row → ℕ) → with_number r n number r ≡ n
number_here r n number = ap (λ (b : Bool). cond b n (number r)) (eq-eqb (place_of r) (place_of r) refl)

pub number_there : (r s : Row) (n : ℕ) (number : Row → ℕ) → (place_of s == place_of r) ≡ false → with_number r n number s ≡ number s
number_there r s n number other = ap (λ (b : Bool). cond b n (number s)) other

not_equal : (a b : ℕ) → a ≢ b → (a == b) ≡ false
not_equal a b differ = by_test (a == b) refl where
  by_test : (t : Bool) → (a == b) ≡ t → (a == b) ≡ false
  by_test true e = absurd (differ (eqb-true a b e))
  by_test false e = e

-- the sum has it instead, where the row is among them, and only once
sum_before : (r : Row) (n : ℕ) (number : Row → ℕ) (m : ℕ) (rows : List Row) → StandFrom m rows → place_of r < m → sum_of (with_number r n number) rows ≡ sum_of number rows
sum_before r n number m [] stand before = refl
sum_before r n number m (s ∷ rows) stand before =
    let at = stand.0 in
    let own = number_there r s n number (not_equal (place_of s) (place_of r) (λ same. omega (arith, at, same, before))) in
    let rest = sum_before r n number (suc m) rows stand.1 (omega (arith, before)) in
    omega (arith, own, rest)

pub sum_with : (r : Row) (n : ℕ) (number : Row → ℕ) (m : ℕ) (rows : List Row) → StandFrom m rows → m ≤ place_of r → place_of r < m + length rows → sum_of (with_number r n number) rows + number r ≡ sum_of number rows + n
sum_with r n number m [] stand from within = absurd (omega (arith, from, within))
sum_with r n number m (s ∷ rows) stand from within = by_row (sum_of (with_number r n number) (s ∷ rows) + number r ≡ sum_of number (s ∷ rows) + n) s r
    (λ (same : s ≡ r).
    let at = stand.0 in
    let place = ap place_of same in
    let rest = sum_before r n number (suc m) rows stand.1 (omega (arith, at, place)) in
    let here : with_number r n number s ≡ n = ap (λ (b : Bool). cond b n (number s)) (eq-eqb (place_of s) (place_of r) place) in
    let own = ap number same in
    omega (arith, rest, here, own))
    (λ (differ : (place_of s == place_of r) ≡ false).
    let at = stand.0 in
    let there = number_there r s n number differ in
    let apart : place_of s ≢ place_of r = λ same. both_ways (place_of s == place_of r) differ (eq-eqb (place_of s) (place_of r) same) in
    let rest = sum_with r n number (suc m) rows stand.1 (later m (place_of r) from (λ same. apart (at ∙ same))) (omega (arith, within)) in
    omega (arith, there, rest))
  where
    later : (a b : ℕ) → a ≤ b → a ≢ b → suc a ≤ b
    later a b below differ = omega (arith, below, differ)

module _ (fresh : Entries) (old now new : Counted) (n : ℕ) (r : Row) (going : TablesGoing fresh old now n) (within : n < 21) (stands : place_of r ≡ n) (publishes : PublishesIn fresh r now new) (all : new.tables.pushed.count ≡ now.tables.pushed.count + needed_for (fresh r) (references_in now.tables r)) where
  abbrev counted : Row → ℕ
  counted = with_number r publishes.entries going.entries

  abbrev own_tables : ℕ
  own_tables = needed_for (fresh r) (references_in now.tables r)

  abbrev needed : Row → ℕ
  needed = with_number r own_tables going.tables

  same_before : tables_by now.tables (kind_of r) ≡ tables_by old.tables (kind_of r)
  same_before = going.same r (omega (arith, stands))

  abbrev IsDone : Row → Type 0
  IsDone s = PublishesTables (value_by (kind_of s)) (fresh s) (tables_by old.tables (kind_of s)) (tables_by new.tables (kind_of s)) (counted s)

  done_here : IsDone r
  done_here =
      subst (λ (k : ℕ). PublishesTables (value_by (kind_of r)) (fresh r) (tables_by old.tables (kind_of r)) (tables_by new.tables (kind_of r)) k) (sym (number_here r publishes.entries going.entries))
      (subst (λ (ts : List (Shown (StoredBy (kind_of r)))). PublishesTables (value_by (kind_of r)) (fresh r) ts (tables_by new.tables (kind_of r)) publishes.entries) same_before publishes.tables)

  done_there : (s : Row) → (place_of s == place_of r) ≡ false → place_of s < n → IsDone s
  done_there s differ before =
      subst (λ (k : ℕ). PublishesTables (value_by (kind_of s)) (fresh s) (tables_by old.tables (kind_of s)) (tables_by new.tables (kind_of s)) k) (sym (number_there r s publishes.entries going.entries differ))
      (subst (λ (ts : List (Shown (StoredBy (kind_of s)))). PublishesTables (value_by (kind_of s)) (fresh s) (tables_by old.tables (kind_of s)) ts (going.entries s))
      (sym (publishes.others s (λ e. both_ways (place_of s == place_of r) differ (eq-eqb (place_of s) (place_of r) (ap place_of e)))))
      (going.published s before))

  later_apart : (s : Row) → n + 1 ≤ place_of s → s ≢ r
  later_apart s later e = let same = ap place_of e in omega (arith, stands, later, same)

  earlier : (s : Row) → (place_of s == place_of r) ≡ false → place_of s < n + 1 → place_of s < n
  earlier s differ before =
      let apart : place_of s ≢ place_of r = λ same. both_ways (place_of s == place_of r) differ (eq-eqb (place_of s) (place_of r) same) in
      omega (arith, before, stands, apart)

  abbrev IsNeeded : Row → Type 0
  IsNeeded s = needed s ≡ needed_for (fresh s) (references_in old.tables s)

  needed_here : IsNeeded r
  needed_here =
      number_here r own_tables going.tables
      ∙ ap (λ (ts : List (Shown (StoredBy (kind_of r)))). needed_for (fresh r) (length ts)) same_before

  pub tables_go_on : TablesGoing fresh old new (n + 1)
  tables_go_on = record {
    tables = needed;
    entries = counted;
    needed = λ s before.
        by_row (IsNeeded s) s r
        (λ (e : s ≡ r). subst IsNeeded (sym e) needed_here)
        (λ (differ : (place_of s == place_of r) ≡ false). number_there r s own_tables going.tables differ ∙ going.needed s (earlier s differ before));
    published = λ s before.
        by_row (IsDone s) s r
        (λ (e : s ≡ r). subst IsDone (sym e) done_here)
        (λ (differ : (place_of s == place_of r) ≡ false). done_there s differ (earlier s differ before));
    same = λ s later. publishes.others s (later_apart s later) ∙ going.same s (omega (arith, later));
    none = λ s later.
        let differ = not_equal (place_of s) (place_of r) (λ same. omega (arith, stands, later, same)) in
        let before = going.none s (omega (arith, later)) in
        (number_there r s own_tables going.tables differ ∙ before.0, number_there r s publishes.entries going.entries differ ∙ before.1);
    pushed =
        let before = going.pushed in
        let none = (going.none r (omega (arith, stands))).0 in
        let sum = sum_with r own_tables going.tables 0 rows_in_order all_rows_stand (omega arith) (omega (arith, within, stands)) in
        omega (arith, before, all, none, sum);
    held =
        let before = going.held in
        let own = publishes.held in
        let none = (going.none r (omega (arith, stands))).1 in
        let sum = sum_with r publishes.entries going.entries 0 rows_in_order all_rows_stand (omega arith) (omega (arith, within, stands)) in
        omega (arith, before, own, none, sum);
  }

-- at the end all rows are
pub all_tables : (fresh : Entries) (old now : Counted) → TablesGoing fresh old now 21 → now.tables.pushed.count ≡ old.tables.pushed.count + tables_needed fresh old.tables → now.tables.pushed.limit ≡ old.tables.pushed.limit → now.sealed ≡ old.sealed + entries_waiting fresh → Publishes fresh old now
all_tables fresh old now going pushed limit sealed = record {
  entries = going.entries;
  tables = λ r. going.published r (place_within r);
  pushed = pushed;
  limit = limit;
  held = going.held;
  sealed = sealed;
}

-- a row waits for nothing where none does
pub none_waiting : (fresh : Entries) → entries_waiting fresh ≡ 0 → (r : Row) → length (fresh r) ≡ 0
none_waiting fresh none = elim [
  | row.AccountObjects ↦ omega (arith, none)
  | row.AccountIds ↦ omega (arith, none)
  | row.AccountUserData128 ↦ omega (arith, none)
  | row.AccountUserData64 ↦ omega (arith, none)
  | row.AccountUserData32 ↦ omega (arith, none)
  | row.AccountLedger ↦ omega (arith, none)
  | row.AccountCode ↦ omega (arith, none)
  | row.AccountSums ↦ omega (arith, none)
  | row.TransferObjects ↦ omega (arith, none)
  | row.TransferIds ↦ omega (arith, none)
  | row.TransferDebit ↦ omega (arith, none)
  | row.TransferCredit ↦ omega (arith, none)
  | row.TransferUserData128 ↦ omega (arith, none)
  | row.TransferUserData64 ↦ omega (arith, none)
  | row.TransferUserData32 ↦ omega (arith, none)
  | row.TransferLedger ↦ omega (arith, none)
  | row.TransferCode ↦ omega (arith, none)
  | row.PendingStatus ↦ omega (arith, none)
  | row.Expiry ↦ omega (arith, none)
  | row.ExpiryEntries ↦ omega (arith, none)
  | row.History ↦ omega (arith, none)
]

-- the list of all rows' entries has each row's under its name
named : (fresh : Entries) (r : Row) → by_name (listed fresh) r ≡ fresh r
named fresh = elim [
  | row.AccountObjects ↦ refl
  | row.AccountIds ↦ refl
  | row.AccountUserData128 ↦ refl
  | row.AccountUserData64 ↦ refl
  | row.AccountUserData32 ↦ refl
  | row.AccountLedger ↦ refl
  | row.AccountCode ↦ refl
  | row.AccountSums ↦ refl
  | row.TransferObjects ↦ refl
  | row.TransferIds ↦ refl
  | row.TransferDebit ↦ refl
  | row.TransferCredit ↦ refl
  | row.TransferUserData128 ↦ refl
  | row.TransferUserData64 ↦ refl
  | row.TransferUserData32 ↦ refl
  | row.TransferLedger ↦ refl
  | row.TransferCode ↦ refl
  | row.PendingStatus ↦ refl
  | row.Expiry ↦ refl
  | row.ExpiryEntries ↦ refl
  | row.History ↦ refl
]

pub listed_back : (fresh : Entries) → by_name (listed fresh) ≡ fresh
listed_back fresh = fun_ext (named fresh)

-- and nothing, where no row has an entry
none_listed : (fresh : Entries) (rows : List Row) → ((r : Row) → fresh r ≡ []) → map fresh rows ≡ replicate (length rows) []
none_listed fresh [] none = refl
none_listed fresh (r ∷ rows) none =
    ap (λ (es : List (Key × Option Value)). es ∷ map fresh rows) (none r) ∙ ap (λ (lists : List (List (Key × Option Value))). [] ∷ lists) (none_listed fresh rows none)

pub nothing_listed : (fresh : Entries) → ((r : Row) → fresh r ≡ []) → listed fresh ≡ nothing_fresh
nothing_listed fresh none = none_listed fresh rows_in_order none

-- what waits, of what is listed
pub listed_waits : (fresh : Entries) (tables : View) → Waits (listed fresh) tables (tables_needed fresh tables) (entries_waiting fresh)
listed_waits fresh tables = record {
  rows = ap listed (listed_back fresh);
  needed = ap (λ (f : Entries). tables_needed f tables) (sym (listed_back fresh));
  waiting = ap entries_waiting (sym (listed_back fresh));
}

-- where nothing waits, no row has an entry, and no table is needed
nil_length : {X : Type 0} (xs : List X) → length xs ≡ 0 → xs ≡ []
nil_length [] none = refl
nil_length (x ∷ xs) none = absurd (omega (arith, none))

pub none_there : (fresh : Entries) → entries_waiting fresh ≡ 0 → (r : Row) → fresh r ≡ []
none_there fresh none r = nil_length (fresh r) (none_waiting fresh none r)

module _ (fresh : List (List (Key × Option Value))) (tables : View) (needed waiting : ℕ) (waits : Waits fresh tables needed waiting) (none : waiting ≡ 0) where
  none_listed_there : (r : Row) → by_name fresh r ≡ []
  none_listed_there = none_there (by_name fresh) (sym waits.waiting ∙ none)

  pub nothing_waits_fresh : fresh ≡ nothing_fresh
  nothing_waits_fresh = sym waits.rows ∙ nothing_listed (by_name fresh) none_listed_there

  pub nothing_waits_needed : needed ≡ 0
  nothing_waits_needed = waits.needed ∙ none_needed (by_name fresh) tables none_listed_there
