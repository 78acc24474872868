-- A forest that was prepared, shown and settled is published; and one that was prepared alone is as it was.
use mathlib.Core.List.{IsPrefix}
use Rattle.std.proofs.Common.{◌≡◌, ◌≢◌, ◌∙◌, ◌+◌, ◌<◌, ◌≤◌, ℕ, cond, List, [], ◌∷◌, Option, Some, None, Result, Ok, Err, IfErr, IfNone, IfOk, OnErr, OnOk, inl, inr, refl, length, sym, ap, subst, arith}
use Rattle.std.specs.Prelude.{◌==◌, if◌then◌else◌, take}
use Rattle.std.proofs.lemmas.Bool.{false≢true}
use Rattle.std.proofs.lemmas.List.{length-take-le}
use Rattle.std.proofs.Math.Seq.{take-length}
use Rattle.tf_records.specs.declared.refusal.Refusal.{Refusal}
use Rattle.tf_records.specs.declared.refusal.Refusal.TheVariants.{NoMemory, RegistryFull}
use Rattle.tf_journal.specs.declared.entry.Entry.{Entry}
use Rattle.tf_journal.specs.Lawful.{IsSound}
use Rattle.tf_table.specs.declared.key.Key.{Key}
use Rattle.tf_manifest.specs.declared.kind.Kind.{Kind}
use Rattle.tf_manifest.specs.declared.kind.Kind.TheVariants as kind
use Rattle.tf_manifest.specs.declared.row.Row.{Row}
use Rattle.tf_manifest.specs.Kinds.{kind_of}
use Rattle.tf_registry.specs.Limit.{Pushed}
use Rattle.tf_manifest.specs.View.{ShowsJournal, View as Tables, content_in, value_in_kind}
use Rattle.tf_rows.specs.Counts.{Counted, IsReady, Sealed, counted, settled}
use Rattle.tf_publish.specs.Tables.{Publishes, Waits, by_name, nothing_fresh}
use Rattle.tf_publish.proofs.Tables.{nothing_waits_fresh, nothing_waits_needed}
use Rattle.tf_forest.specs.Forest.{View}
use Rattle.tf_forest.specs.Unpublished.{IsUnpublished}
use Rattle.tf_forest.proofs.Idle.{publishes_nothing}
use Rattle.tf_store.specs.Public.{IsPublic, PublicView, all_public}
use Rattle.tf_store.specs.Publish.{IsIdle, IsPublish, IsTaken}
use Rattle.tf_store.specs.Receipt.{Waiting}
use Rattle.tf_store.specs.Store.{IsStore}
use Rattle.tf_store.proofs.Kept.{no_longer, public_stays, store_shows, store_stays, whole_beginning}

ok_not_full : {X : Type 0} (x : X) → Ok x ≡ Err RegistryFull → ⊥
ok_not_full x is = cc

-- what tables have doesn't depend on how many were pushed
content_apart : (view : Tables) (pushed : Pushed) (r : Row) (key : Key) → content_in (record view { pushed = pushed }) r key ≡ content_in view r key
content_apart view pushed r key = go (kind_of r) where
  go : (k : Kind) → value_in_kind (record view { pushed = pushed }) key k ≡ value_in_kind view key k
  go (kind.Stamp row) = refl
  go kind.Account = refl
  go kind.Transfer = refl
  go kind.Id = refl
  go (kind.Unit row) = refl
  go kind.State = refl
  go kind.Sums = refl
  go kind.Status = refl

-- so tables that were prepared alone show what they showed
pub unpublished_shows : (old new : View) → IsUnpublished old new → (journal : List Entry) → ShowsJournal old.sealed.tables journal → ShowsJournal new.sealed.tables journal
unpublished_shows old new lost journal shows r key =
    let pushed : Pushed = record { count = old.sealed.tables.pushed.count + lost.loses.tables; limit = old.sealed.tables.pushed.limit } in
    ap (λ (s : Sealed). content_in s.tables r key) lost.loses.is ∙ content_apart old.sealed.tables pushed r key ∙ shows r key

unpublished_limit : (old new : View) → IsUnpublished old new → new.sealed.tables.pushed.limit ≡ old.sealed.tables.pushed.limit
unpublished_limit old new lost = ap (λ (s : Sealed). s.tables.pushed.limit) lost.loses.is

-- where nothing waits, all of the journal is shown already
pub all_shown : (old : View) (shown : ℕ) → ((view : Tables) (first second : List Entry) → IsSound first → IsSound second → ShowsJournal view first → ShowsJournal view second → first ≡ second)
    → shown ≤ length old.journal → IsSound old.journal → IsSound (take shown old.journal) → ShowsJournal old.sealed.tables (take shown old.journal) → ShowsJournal old.sealed.tables old.journal
    → shown ≡ length old.journal
all_shown old shown one within sound part published alone =
    sym (length-take-le shown old.journal within) ∙ ap length (one old.sealed.tables (take shown old.journal) old.journal part sound published alone)

-- a refusal, where something else would have been answered
abbrev pub err_of : (X : Type 0) → Refusal → Result X Refusal
err_of X refusal = Err refusal

-- a refusal before anything was put in place
pub refused_publish : {X : Type 0} (old new : View) (refusal : Refusal) → IsUnpublished old new → (old.waiting ≡ 0 → ⊥)
    → (err_of X refusal ≡ Err RegistryFull → (new ≡ old) × (old.sealed.tables.pushed.limit < old.sealed.tables.pushed.count + old.needed))
    → (refusal ≢ RegistryFull → (refusal ≡ NoMemory) × (old.sealed.tables.pushed.count + old.needed ≤ old.sealed.tables.pushed.limit))
    → IsPublish {X = X} old new (Err refusal)
refused_publish old new refusal lost some full other = record {
  journal = ap (λ (v : View). v.journal) lost.is;
  clock = ap (λ (v : View). v.clock) lost.is;
  kept = ap (λ (v : View). v.kept) lost.is;
  limit = unpublished_limit old new lost;
  shows = tt;
  rows = tt;
  empty = tt;
  all = tt;
  pushed = tt;
  sealed = tt;
  publishes = tt;
  fits = tt;
  err = lost;
  idle = λ none. absurd (some none);
  still = λ none. absurd (some none);
  full = full;
  refused = other;
}

-- where something was prepared, it wasn't that nothing was
pub some_there : {P : Type 0} (result : Result (Option P) Refusal) (found : Option P) (p : P) → result ≡ Ok found → found ≡ Some p → result ≡ Ok None → ⊥
some_there result found p was is none = cc

-- what is known of a forest that was prepared, in which something waited
pub record IsPrepared (old mid : View) (p : Counted) : Type 0 where
  pub lost : IsUnpublished old mid
  pub some : old.waiting ≡ 0 → ⊥
  pub shows : ShowsJournal p.tables mid.journal
  pub publishes : Publishes (by_name old.fresh) (counted old.sealed) p
  pub pushed : p.tables.pushed.count ≡ old.sealed.tables.pushed.count + old.needed
  pub sealed : p.sealed ≡ old.sealed.counts.rows_sealed + old.waiting
  pub ready : IsReady mid.sealed p
  pub fits : old.sealed.tables.pushed.count + old.needed ≤ old.sealed.tables.pushed.limit

module _ {X : Type 0} (old mid new : View) (p : Counted) (x : X) (is : IsPrepared old mid p)
    (done : new ≡ record mid { sealed = settled p mid.sealed; fresh = nothing_fresh; marks = nothing_fresh ∷ []; needed = 0; waiting = 0 }) where
  publishes_more : new.sealed.counts.publishes ≡ old.sealed.counts.publishes + (if old.needed == 0 then 0 else 1)
  publishes_more =
      let loses = is.lost.loses in
      let lost : mid.sealed.tables.pushed.count ≡ old.sealed.tables.pushed.count + loses.tables = ap (λ (s : Sealed). s.tables.pushed.count) loses.is in
      let ready = ap (λ (q : Pushed). q.count) is.ready.pushed in
      let needed : loses.tables ≡ old.needed = omega (arith, lost, is.pushed, ready) in
      ap (λ (v : View). v.sealed.counts.publishes) done
      ∙ ap (λ (s : Sealed). s.counts.publishes) loses.is
      ∙ ap (λ (n : ℕ). old.sealed.counts.publishes + cond (n == 0) 0 1) needed

  rows_published : Publishes (by_name old.fresh) (counted old.sealed) (counted new.sealed)
  rows_published =
      subst (λ (v : View). Publishes (by_name old.fresh) (counted old.sealed) (counted v.sealed)) (sym done)
      (subst (λ (h : ℕ). Publishes (by_name old.fresh) (counted old.sealed) (record { tables = p.tables; sealed = p.sealed; held = h })) is.ready.held is.publishes)

  -- once it is settled, it is published
  pub settled_publish : IsPublish {X = X} old new (Ok x)
  settled_publish = record {
    journal = ap (λ (v : View). v.journal) done ∙ ap (λ (v : View). v.journal) is.lost.is;
    clock = ap (λ (v : View). v.clock) done ∙ ap (λ (v : View). v.clock) is.lost.is;
    kept = ap (λ (v : View). v.kept) done ∙ ap (λ (v : View). v.kept) is.lost.is;
    limit = ap (λ (v : View). v.sealed.tables.pushed.limit) done ∙ ap (λ (q : Pushed). q.limit) is.ready.pushed ∙ unpublished_limit old mid is.lost;
    shows = subst (λ (v : View). ShowsJournal v.sealed.tables v.journal) (sym done) is.shows;
    rows = rows_published;
    empty = ap (λ (v : View). v.fresh) done;
    all = (ap (λ (v : View). v.needed) done, ap (λ (v : View). v.waiting) done);
    pushed = ap (λ (v : View). v.sealed.tables.pushed.count) done ∙ is.pushed;
    sealed = ap (λ (v : View). v.sealed.counts.rows_sealed) done ∙ is.sealed;
    publishes = publishes_more;
    fits = is.fits;
    err = tt;
    idle = λ none. refl;
    still = λ none. absurd (is.some none);
    full = λ (bad : Ok x ≡ Err RegistryFull). absurd (ok_not_full x bad);
    refused = tt;
  }

-- a forest in which nothing waits is published already
pub idle_publish : {X : Type 0} (old new : View) (x : X) → Waits old.fresh old.sealed.tables old.needed old.waiting → IsIdle old new
    → ShowsJournal old.sealed.tables old.journal → old.sealed.tables.pushed.count + old.needed ≤ old.sealed.tables.pushed.limit → IsPublish {X = X} old new (Ok x)
idle_publish {X = X} old new x waits idle shows fits =
    let fresh : old.fresh ≡ nothing_fresh = nothing_waits_fresh old.fresh old.sealed.tables old.needed old.waiting waits idle.none in
    let needed : old.needed ≡ 0 = nothing_waits_needed old.fresh old.sealed.tables old.needed old.waiting waits idle.none in
    let none : old.waiting ≡ 0 = idle.none in
    let more : old.sealed.counts.publishes ≡ old.sealed.counts.publishes + cond (0 == 0) 0 1 = omega arith in
    subst (λ (v : View). IsPublish {X = X} old v (Ok x)) (sym idle.same) (record {
      journal = refl;
      clock = refl;
      kept = refl;
      limit = refl;
      shows = shows;
      rows = publishes_nothing (by_name old.fresh) (counted old.sealed) (sym waits.waiting ∙ none);
      empty = fresh;
      all = (needed, none);
      pushed = omega (arith, needed);
      sealed = omega (arith, none);
      publishes = more ∙ ap (λ (n : ℕ). old.sealed.counts.publishes + cond (n == 0) 0 1) (sym needed);
      fits = fits;
      err = tt;
      idle = λ _. refl;
      still = λ _. refl;
      full = λ (bad : Ok x ≡ Err RegistryFull). absurd (ok_not_full x bad);
      refused = tt;
    })

-- and where all of its journal is shown, readers see all of it
pub all_is_seen : (forest : View) (public : PublicView) → IsPublic forest public → public.shown ≡ length forest.journal → public ≡ all_public forest.journal public.publications
all_is_seen forest public is all =
    let seen : List Entry → ℕ → List Entry → PublicView = λ front shown readable. record { front = front; publications = public.publications; shown = shown; readable = readable } in
    let front : public.front ≡ forest.journal = whole_beginning public.front forest.journal is.begins (omega (arith, is.shown, all)) in
    let readable : public.readable ≡ forest.journal = is.readable ∙ ap (λ n. take n forest.journal) all ∙ take-length forest.journal in
    ap (λ l. seen l public.shown public.readable) front ∙ ap (λ n. seen forest.journal n public.readable) all ∙ ap (λ l. seen forest.journal (length forest.journal) l) readable

-- where readers see all of the journal, all of it is in the history
pub front_of_all : (forest : View) (public : PublicView) → IsPublic forest public → public.readable ≡ forest.journal → public.front ≡ forest.journal
front_of_all forest public is seen =
    let within : public.shown ≤ length forest.journal = omega (arith, is.shown, no_longer public.front forest.journal is.begins) in
    let all : public.shown ≡ length forest.journal = sym (length-take-le public.shown forest.journal within) ∙ ap length (sym is.readable ∙ seen) in
    whole_beginning public.front forest.journal is.begins (omega (arith, is.shown, all))

-- what readers see after a publish, after a refusal, and where nothing waited
pub readable_all : {X : Type 0} (result : Result X Refusal) (old new : View) (after : PublicView) → new.journal ≡ old.journal
    → OnOk result (after ≡ all_public new.journal after.publications) → OnOk result (after.readable ≡ old.journal)
readable_all (Ok x) old new after same all = ap (λ (p : PublicView). p.readable) all ∙ same
readable_all (Err refusal) old new after same all = tt

pub readable_as : {X : Type 0} (result : Result X Refusal) (public after : PublicView) → OnErr result ((after.shown ≡ public.shown) × (after.readable ≡ public.readable))
    → OnErr result (after.readable ≡ public.readable)
readable_as (Ok x) public after same = tt
readable_as (Err refusal) public after same = same.1

pub readable_idle : {X : Type 0} (result : Result (Option X) Refusal) (public after : PublicView) → IfOk result (λ given. IfNone given (after ≡ public))
    → IfOk result (λ given. IfNone given (after.readable ≡ public.readable))
readable_idle (Ok (Some x)) public after same = tt
readable_idle (Ok None) public after same = ap (λ (p : PublicView). p.readable) same
readable_idle (Err refusal) public after same = tt

-- whatever was answered with it
pub published_as : {X Y : Type 0} (old new : View) (x : X) (y : Y) → IsPublish {X = X} old new (Ok x) → IsPublish {X = Y} old new (Ok y)
published_as old new x y is = record {
  journal = is.journal;
  clock = is.clock;
  kept = is.kept;
  limit = is.limit;
  shows = is.shows;
  rows = is.rows;
  empty = is.empty;
  all = is.all;
  pushed = is.pushed;
  sealed = is.sealed;
  publishes = is.publishes;
  fits = is.fits;
  err = tt;
  idle = λ none. refl;
  still = is.still;
  full = λ bad. absurd (ok_not_full y bad);
  refused = tt;
}

-- and so is a refusal
pub refused_as : {X Y : Type 0} (old new : View) (refusal : Refusal) → IsPublish {X = X} old new (Err refusal) → IsPublish {X = Y} old new (Err refusal)
refused_as {X = X} {Y = Y} old new refusal is = record {
  journal = is.journal;
  clock = is.clock;
  kept = is.kept;
  limit = is.limit;
  shows = tt;
  rows = tt;
  empty = tt;
  all = tt;
  pushed = tt;
  sealed = tt;
  publishes = tt;
  fits = tt;
  err = is.err;
  idle = λ none. absurd (false≢true (is.idle none));
  still = is.still;
  full = λ bad. is.full (same_refusal refusal bad);
  refused = is.refused;
} where
  same_refusal : (r : Refusal) → err_of Y r ≡ Err RegistryFull → err_of X r ≡ Err RegistryFull
  same_refusal r bad = let same : r ≡ RegistryFull = cc in ap (err_of X) same

-- where nothing waits a version is given, or its refusal changes nothing
pub taken_idle : {X : Type 0} (old new : View) (result : Result X Refusal) → IfErr result (λ refusal. refusal ≡ NoMemory) → IsIdle old new
    → ((x : X) → IsPublish {X = X} old new (Ok x)) → IsTaken {X = X} old new result
taken_idle old new (Ok x) memory idle publish = inl (publish x)
taken_idle old new (Err refusal) memory idle publish = inr (ap Err memory, idle)

-- what holds of every refusal and of every version
pub whatever_err : {X : Type 0} {P : Type 0} (result : Result X Refusal) → P → OnErr result P
whatever_err (Ok x) p = tt
whatever_err (Err refusal) p = p

pub whatever_ok : {X : Type 0} {P : Type 0} (result : Result X Refusal) → P → OnOk result P
whatever_ok (Ok x) p = p
whatever_ok (Err refusal) p = tt

-- want of memory is no full registry
pub memory_not_full : {X : Type 0} (refusal : Refusal) → refusal ≡ NoMemory → err_of X refusal ≡ Err RegistryFull → ⊥
memory_not_full refusal is bad = cc

-- a store whose publish was refused keeps its promise
pub store_refused : {X : Type 0} (old new : View) (counted : ℕ) (public after : PublicView) (waiting : List Waiting) → IsStore old counted public waiting
    → (refusal : Refusal) → IsPublish {X = X} old new (Err refusal) → IsPrefix after.front new.journal → length public.front ≤ length after.front
    → (after.shown ≡ public.shown) × (after.readable ≡ public.readable) → IsStore new counted after waiting
store_refused old new counted public after waiting store refusal publish begins further same =
    store_stays old new counted public after waiting store publish.journal publish.clock publish.kept
    (public_stays old new public after store.public publish.journal (unpublished_shows old new publish.err (take public.shown old.journal))
    (subst (IsPrefix after.front) publish.journal begins) further same.0 same.1)

-- and so does a store that was published, or whose publish was refused
pub store_brought : {X : Type 0} (old new : View) (counted : ℕ) (public after : PublicView) (waiting : List Waiting) (result : Result X Refusal)
    → IsStore old counted public waiting → IsPublish {X = X} old new result → OnOk result (after ≡ all_public new.journal after.publications)
    → IsPrefix after.front new.journal → length public.front ≤ length after.front
    → OnErr result ((after.shown ≡ public.shown) × (after.readable ≡ public.readable)) → IsStore new counted after waiting
store_brought old new counted public after waiting (Ok x) store publish all begins further same =
    store_shows old new counted public after waiting store publish.journal publish.clock publish.kept publish.shows all
store_brought old new counted public after waiting (Err refusal) store publish all begins further same =
    store_refused old new counted public after waiting store refusal publish begins further same
