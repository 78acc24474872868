-- What pushes and installs keep of the bounds on counted entries.
use Rattle.std.proofs.Common.{◌≡◌, ℕ, zero, suc, ◌+◌, ◌-◌, ◌*◌, ◌^◌, ◌<◌, ◌≤◌, cond, List, [], length, Bool, Result, Ok, Err, OnOk, OnErr, refl, sym, ◌∙◌, ap, subst, arith, ◌⊎◌, inl, inr}
use Rattle.std.proofs.Math.Dec.{eqb-suc-zero}
use Rattle.std.specs.Prelude.{replicate, slice_index_or, ◌==◌}
use Rattle.tf_manifest.specs.declared.jobs.Merged.{Merged}
use Rattle.tf_manifest.specs.declared.kind.Kind.{Kind}
use Rattle.tf_manifest.specs.declared.kind.Kind.TheVariants as kind
use Rattle.tf_manifest.specs.Jobs.{HasEntries, InstallsIn}
use Rattle.tf_manifest.specs.Kinds.{stamp_index, unit_index}
use Rattle.tf_registry.specs.Limit.{Pushed}
use Rattle.tf_registry.specs.Table.{Shown}
use Rattle.tf_manifest.specs.View.{StoredBy, View, no_tables, tables_by}
use Rattle.tf_rows.specs.declared.sealed_row.SealedRow.{SealedRow}
use Rattle.tf_rows.specs.declared.counts.Counts.{Counts}
use Rattle.tf_rows.specs.Counts.{Counted, HasPublishes, IsCounted, Loses, PushesMore, Sealed, all_references, counted, with_lost}
use Rattle.tf_rows.specs.SealedRow.{PushesIn, entries_of_sealed, kind_of_sealed}
use Rattle.tf_publish.proofs.Measures.{installed_one, installed_owed, installed_references, installed_short, pushed_one, pushed_owed, pushed_short, tables_apart}

pub more_and_more : (first second third : Counted) → PushesMore first second → PushesMore second third → PushesMore first third
more_and_more first second third one other = record {
  tables = let a = one.tables in let b = other.tables in omega (arith, a, b);
  limit = other.limit ∙ one.limit;
  held = let a = one.held in let b = other.held in omega (arith, a, b);
  most = let a = one.most in let b = other.most in omega (arith, a, b);
}

pub none_more : (c : Counted) → PushesMore c c
none_more c = record { tables = omega arith; limit = refl; held = omega arith; most = omega arith }

-- a sealed table was pushed in front of its row
module _ {A : Type 0} (old : Counted) (new : View) (s : SealedRow A) (pushes : PushesIn old.tables s new) (count : ℕ) (is : count ≡ length (entries_of_sealed s)) (fits : count < 2 ^ 64) where
  one : new.pushed.count ≡ old.tables.pushed.count + 1
  one = ap (λ (p : Pushed). p.count) (pushed_one old.tables new s pushes)

  pub counted_push : length (tables_by old.tables (kind_of_sealed s)) < 64 → IsCounted old → IsCounted (record { tables = new; sealed = old.sealed + count; held = old.held + count })
  counted_push room was = record {
    bound = let before = was.bound in let more = pushed_owed old.tables new s pushes in omega (arith, before, more, is);
    least = let before = was.least in omega (arith, before);
    most = let before = was.most in let more = one in omega (arith, before, more, fits);
    references = pushed_short old.tables new s pushes room was.references;
  }

  pub more_by_push : PushesMore old (record { tables = new; sealed = old.sealed + count; held = old.held + count })
  more_by_push = record {
    tables = let more = one in omega (arith, more);
    limit = ap (λ (p : Pushed). p.limit) (pushed_one old.tables new s pushes);
    held = omega arith;
    most = let more = one in omega (arith, more, fits);
  }

-- a merged table was put in the place of its run
module _ {A N : Type 0} (old : Counted) (new : View) (m : Merged A N) (installs : InstallsIn old.tables m new) (count : ℕ) (has : HasEntries m count) (fits : count < 2 ^ 64) where
  one_merged : new.pushed.count ≡ old.tables.pushed.count + 1
  one_merged = ap (λ (p : Pushed). p.count) (installed_one old.tables new m installs)

  pub counted_install : IsCounted old → IsCounted (record { tables = new; sealed = old.sealed; held = old.held + count })
  counted_install was = record {
    bound = let before = was.bound in let less = installed_owed old.tables new m installs count has in omega (arith, before, less);
    least = let before = was.least in omega (arith, before);
    most = let before = was.most in let more = one_merged in omega (arith, before, more, fits);
    references = installed_short old.tables new m installs was.references;
  }

  pub more_by_install : PushesMore old (record { tables = new; sealed = old.sealed; held = old.held + count })
  more_by_install = record {
    tables = let more = one_merged in omega (arith, more);
    limit = ap (λ (p : Pushed). p.limit) (installed_one old.tables new m installs);
    held = omega arith;
    most = let more = one_merged in omega (arith, more, fits);
  }

-- what was pushed onto a copy is counted
pub counted_lost : (old copy : Counted) → IsCounted old → IsCounted copy → PushesMore old copy
    → IsCounted (record { tables = record old.tables { pushed = copy.tables.pushed }; sealed = old.sealed + (copy.held - old.held); held = copy.held })
counted_lost old copy was is more = record {
  bound = let before = was.bound in let held = more.held in omega (arith, before, held);
  least = let before = was.least in let held = more.held in omega (arith, before, held);
  most = is.most;
  references = λ k. subst (λ (ts : List (Shown (StoredBy k))). length ts ≤ 64) (sym (tables_apart old.tables copy.tables.pushed k)) (was.references k);
}

-- nothing was pushed yet
none_at : (X : Type 0) (n i : ℕ) → length (slice_index_or (replicate {A = List X} n []) i []) ≤ 64
none_at X zero i = omega arith
none_at X (suc n) zero = omega arith
none_at X (suc n) (suc i) = none_at X n i

pub none_counted : (limit : ℕ) → IsCounted (record { tables = no_tables limit; sealed = 0; held = 0 })
none_counted limit = record {
  bound = omega arith;
  least = omega arith;
  most = omega arith;
  references = none_in;
} where
  none_in : (k : Kind) → length (tables_by (no_tables limit) k) ≤ 64
  none_in (kind.Stamp u) = none_at _ 2 (stamp_index u)
  none_in kind.Account = omega arith
  none_in kind.Transfer = omega arith
  none_in kind.Id = omega arith
  none_in (kind.Unit u) = none_at _ 13 (unit_index u)
  none_in kind.State = omega arith
  none_in kind.Sums = omega arith
  none_in kind.Status = omega arith

-- what was pushed onto a copy is counted, and nothing else happened
module _ (old : Sealed) (copy : Counted) (more : PushesMore (counted old) copy) where
  abbrev pub count_pushes : ℕ
  count_pushes = copy.tables.pushed.count - old.tables.pushed.count

  abbrev pub with_counts : ℕ → Sealed
  with_counts publishes = record {
    tables = record old.tables { pushed = copy.tables.pushed };
    counts = record { rows_sealed = old.counts.rows_sealed + (copy.held - old.counts.rows_held); rows_held = copy.held; publishes = publishes };
  }

  abbrev pub count_entries : ℕ
  count_entries = copy.held - old.counts.rows_held

  pub lost_is : (publishes : ℕ) → publishes ≡ old.counts.publishes + cond (count_pushes == 0) 0 1 → with_counts publishes ≡ with_lost count_pushes count_entries old
  lost_is publishes all =
      let d : ℕ = count_pushes in
      let tables : old.tables.pushed.count ≤ copy.tables.pushed.count = more.tables in
      let held : old.counts.rows_held ≤ copy.held = more.held in
      let count_is : copy.tables.pushed.count ≡ old.tables.pushed.count + (copy.tables.pushed.count - old.tables.pushed.count) = omega (arith, tables) in
      let held_is : copy.held ≡ old.counts.rows_held + (copy.held - old.counts.rows_held) = omega (arith, held) in
      let seen : ℕ → ℕ → ℕ → ℕ → Sealed = λ n l h p. record {
        tables = record old.tables { pushed = record { count = n; limit = l } };
        counts = record { rows_sealed = old.counts.rows_sealed + (copy.held - old.counts.rows_held); rows_held = h; publishes = p };
      } in
      ap (λ (n : ℕ). seen n copy.tables.pushed.limit copy.held publishes) count_is
      ∙ ap (λ (n : ℕ). seen (old.tables.pushed.count + d) n copy.held publishes) more.limit
      ∙ ap (λ (n : ℕ). seen (old.tables.pushed.count + d) old.tables.pushed.limit n publishes) held_is
      ∙ ap (λ (n : ℕ). seen (old.tables.pushed.count + d) old.tables.pushed.limit (old.counts.rows_held + (copy.held - old.counts.rows_held)) n) all

  pub lost : (publishes : ℕ) → publishes ≡ old.counts.publishes + cond (count_pushes == 0) 0 1 → Loses old (with_counts publishes) count_pushes
  lost publishes all =
      let tables : old.tables.pushed.count ≤ copy.tables.pushed.count = more.tables in
      let held : old.counts.rows_held ≤ copy.held = more.held in
      let most : copy.held + old.tables.pushed.count * 2 ^ 64 ≤ old.counts.rows_held + copy.tables.pushed.count * 2 ^ 64 = more.most in
      record {
        tables = count_pushes;
        rows = count_entries;
        is = lost_is publishes all;
        few = omega arith;
        none = λ none. omega (arith, tables, held, most, none);
      }

pub loses_no_more : (old new : Sealed) (most more : ℕ) → Loses old new most → most ≤ more → Loses old new more
loses_no_more old new most more loses within = record {
  tables = loses.tables;
  rows = loses.rows;
  is = loses.is;
  few = let few = loses.few in omega (arith, few, within);
  none = loses.none;
}

-- nothing was pushed
pub none_lost : (sealed : Sealed) → sealed ≡ with_lost 0 0 sealed
none_lost sealed =
    let seen : ℕ → ℕ → ℕ → ℕ → Sealed = λ n r h p. record {
      tables = record sealed.tables { pushed = record { count = n; limit = sealed.tables.pushed.limit } };
      counts = record { rows_sealed = r; rows_held = h; publishes = p };
    } in
    let count = sealed.tables.pushed.count in
    let counts = sealed.counts in
    let same : (n : ℕ) → n ≡ n + 0 = λ n. omega arith in
    ap (λ (n : ℕ). seen n counts.rows_sealed counts.rows_held counts.publishes) (same count)
    ∙ ap (λ (n : ℕ). seen (count + 0) n counts.rows_held counts.publishes) (same counts.rows_sealed)
    ∙ ap (λ (n : ℕ). seen (count + 0) (counts.rows_sealed + 0) n counts.publishes) (same counts.rows_held)
    ∙ ap (λ (n : ℕ). seen (count + 0) (counts.rows_sealed + 0) (counts.rows_held + 0) n) (same counts.publishes)

pub nothing_lost : (sealed : Sealed) (most : ℕ) → Loses sealed sealed most
nothing_lost sealed most = record { tables = 0; rows = 0; is = none_lost sealed; few = omega arith; none = λ none. refl }

-- where nothing could be, all is as it was
pub loses_nothing : (old new : Sealed) (most : ℕ) → Loses old new most → most ≡ 0 → new ≡ old
loses_nothing old new most loses nothing =
    let few = loses.few in
    let tables : loses.tables ≡ 0 = omega (arith, few, nothing) in
    loses.is
    ∙ ap (λ (t : ℕ). with_lost t loses.rows old) tables
    ∙ ap (λ (r : ℕ). with_lost 0 r old) (loses.none tables)
    ∙ sym (none_lost old)

-- publishes are one more where a table was pushed
publishes_are : (p t : ℕ) → ((t ≡ 0) × (p + cond (t == 0) 0 1 ≡ p)) ⊎ ((0 < t) × (p + cond (t == 0) 0 1 ≡ p + 1))
publishes_are p zero = inl (refl, omega arith)
publishes_are p (suc t) = inr (omega arith, ap (λ (b : Bool). p + cond b 0 1) (eqb-suc-zero t))

-- all publishes suffice for what the last one prepared
pub few_ready : (old new : Sealed) (copy : Counted) (most : ℕ) → Loses old new most → new.tables.pushed ≡ copy.tables.pushed → HasPublishes old.tables old.counts.publishes
    → copy.tables.pushed.count + all_references copy.tables ≤ old.tables.pushed.count + all_references old.tables + 42 → all_references copy.tables + old.tables.pushed.count ≤ all_references old.tables + copy.tables.pushed.count
    → copy.tables.pushed.count + all_references copy.tables ≤ 42 * new.counts.publishes
few_ready old new copy most loses pushed has few added =
    let count : copy.tables.pushed.count ≡ old.tables.pushed.count + loses.tables = ap (λ (p : Pushed). p.count) (sym pushed) ∙ ap (λ (s : Sealed). s.tables.pushed.count) loses.is in
    let publishes : new.counts.publishes ≡ old.counts.publishes + cond (loses.tables == 0) 0 1 = ap (λ (s : Sealed). s.counts.publishes) loses.is in
    let least = has.least in
    elim (publishes_are old.counts.publishes loses.tables) [
      | inl none ↦ let zero_is = none.0 in let same = publishes ∙ none.1 in omega (arith, count, least, added, zero_is, same)
      | inr some ↦ let one_more = publishes ∙ some.1 in omega (arith, few, least, one_more)
    ]

abbrev pub the_counts : ℕ → ℕ → ℕ → Counts
the_counts sealed held publishes = record { rows_sealed = sealed; rows_held = held; publishes = publishes }

-- an install keeps what holds of publishes
pub publishes_stay : {A N : Type 0} {E : Type 0} (old new : Counted) (m : Merged A N) (publishes : ℕ) (result : Result (Unit {0}) E) → OnOk result (InstallsIn old.tables m new.tables) → OnErr result (new ≡ old) → HasPublishes old.tables publishes → HasPublishes new.tables publishes
publishes_stay {A} {N} old new m publishes (Ok done) installs same has =
    let one = ap (λ (p : Pushed). p.count) (installed_one {A = A} {N = N} old.tables new.tables m installs) in
    let fewer = installed_references {A = A} {N = N} old.tables new.tables m installs in
    let least = has.least in
    let most = has.most in
    record { least = omega (arith, one, fewer, least); most = omega (arith, one, most) }
publishes_stay old new m publishes (Err refused) installs same has = subst (λ (c : Counted). HasPublishes c.tables publishes) (sym same) has

-- and adds to what is held alone
pub installed_counts : {E : Type 0} (old new : Counted) (publishes n : ℕ) (result : Result (Unit {0}) E) → OnOk result (new.held ≡ old.held + n) → new.sealed ≡ old.sealed
    → OnOk result (the_counts new.sealed new.held publishes ≡ the_counts old.sealed (old.held + n) publishes)
installed_counts old new publishes n (Ok done) held sealed = ap (λ (h : ℕ). the_counts new.sealed h publishes) held ∙ ap (λ (x : ℕ). the_counts x (old.held + n) publishes) sealed
installed_counts old new publishes n (Err refused) held sealed = tt
