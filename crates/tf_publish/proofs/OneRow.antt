-- What of a manifest changes where one row does.
use Rattle.std.proofs.Common.{◌≡◌, ◌≢◌, ℕ, ◌+◌, ◌<◌, List, [], ◌∷◌, length, map, Option, Bool, true, false, cond, refl, sym, ◌∙◌, ap, subst, slice_set, arith}
use Rattle.std.specs.Option.{option_flatten, option_map}
use Rattle.std.specs.Prelude.{◌==◌}
use Rattle.std.proofs.lemmas.Bool.{eq-eqb, false≢true}
use Rattle.tf_table.specs.declared.key.Key.{Key}
use Rattle.tf_table.specs.Content.{entry_at, entry_of}
use Rattle.tf_manifest.specs.declared.jobs.Job.{Job}
use Rattle.tf_manifest.specs.declared.jobs.Merged.{Merged}
use Rattle.tf_manifest.specs.declared.jobs.Merged.TheVariants as merged
use Rattle.tf_manifest.specs.declared.kind.Kind.{Kind}
use Rattle.tf_manifest.specs.declared.kind.Kind.TheVariants as kind
use Rattle.tf_manifest.specs.declared.row.Row.{Row}
use Rattle.tf_manifest.specs.Jobs.{InstallsIn, IsPickedFrom, StandsIn, job_of, kind_of_job, kind_of_merged, run_of}
use Rattle.tf_manifest.specs.Kinds.{kind_of, stamp_index, unit_index}
use Rattle.tf_registry.specs.Limit.{Pushed, one_more}
use Rattle.tf_registry.specs.Row.{content_at, is_nil, lists_of}
use Rattle.tf_registry.specs.Run.{Stands}
use Rattle.tf_registry.specs.Table.{Shown, shown}
use Rattle.tf_manifest.specs.declared.value.Value.{Value}
use Rattle.tf_manifest.specs.View.{StoredBy, View, content_in, place_by, references_in, rows_by, tables_by, value_by, value_in_kind, with_rows}
use Rattle.tf_rows.specs.Parts.{Entries, seen_rows}
use Rattle.tf_publish.specs.Publish.{MakesRoom, PublishesRow, needed_for}
use Rattle.tf_rows.specs.SealedRow.{IsSealedOf, PushesIn, entries_of_sealed, kind_of_sealed}
use Rattle.tf_rows.specs.declared.sealed_row.SealedRow.{SealedRow}
use Rattle.tf_rows.proofs.Apart.{apart_by, set_elsewhere, set_here, stamp_apart, unit_apart}
use Rattle.tf_rows.proofs.Parts.{value-seen}
use Rattle.tf_publish.proofs.Measures.{installed_references, placed, pushed_references, pushed_with}
use Rattle.tf_publish.proofs.Sealed.{found_sealed, same_in_front}

-- the tables of another row are as they were
pub others_stay : (view : View) (p : Pushed) (k other : Kind) (tables : List (Shown (StoredBy k))) → other ≢ k
    → tables_by (with_rows (record view { pushed = p }) k (slice_set (rows_by view k) (place_by k) tables)) other ≡ tables_by view other
others_stay view p (kind.Stamp u) (kind.Stamp other) tables h = set_elsewhere view.stamps (stamp_index u) (stamp_index other) tables (stamp_apart u other h)
others_stay view p (kind.Stamp u) _ tables h = refl
others_stay view p kind.Account kind.Account tables h = absurd (h refl)
others_stay view p kind.Account _ tables h = refl
others_stay view p kind.Transfer kind.Transfer tables h = absurd (h refl)
others_stay view p kind.Transfer _ tables h = refl
others_stay view p kind.Id kind.Id tables h = absurd (h refl)
others_stay view p kind.Id _ tables h = refl
others_stay view p (kind.Unit u) (kind.Unit other) tables h = set_elsewhere view.units (unit_index u) (unit_index other) tables (unit_apart u other h)
others_stay view p (kind.Unit u) _ tables h = refl
others_stay view p kind.State kind.State tables h = absurd (h refl)
others_stay view p kind.State _ tables h = refl
others_stay view p kind.Sums kind.Sums tables h = absurd (h refl)
others_stay view p kind.Sums _ tables h = refl
others_stay view p kind.Status kind.Status tables h = absurd (h refl)
others_stay view p kind.Status _ tables h = refl

-- and its own are the new ones
pub own_change : (view : View) (p : Pushed) (k : Kind) (tables : List (Shown (StoredBy k))) → place_by k < length (rows_by view k)
    → tables_by (with_rows (record view { pushed = p }) k (slice_set (rows_by view k) (place_by k) tables)) k ≡ tables
own_change view p (kind.Stamp u) tables h = set_here view.stamps (stamp_index u) tables h
own_change view p kind.Account tables h = set_here view.accounts 0 tables h
own_change view p kind.Transfer tables h = set_here view.transfers 0 tables h
own_change view p kind.Id tables h = set_here view.ids 0 tables h
own_change view p (kind.Unit u) tables h = set_here view.units (unit_index u) tables h
own_change view p kind.State tables h = set_here view.states 0 tables h
own_change view p kind.Sums tables h = set_here view.sums 0 tables h
own_change view p kind.Status tables h = set_here view.statuses 0 tables h

module _ {A N : Type 0} where
  job_kind : (m : Merged A N) → kind_of_job (job_of m) ≡ kind_of_merged m
  job_kind (merged.Stamp u out) = refl
  job_kind (merged.Account out) = refl
  job_kind (merged.Transfer out) = refl
  job_kind (merged.Id out) = refl
  job_kind (merged.Unit u out) = refl
  job_kind (merged.State out) = refl
  job_kind (merged.Sums out) = refl
  job_kind (merged.Status out) = refl

  job_stands : (view : View) (m : Merged A N) → Stands (tables_by view (kind_of_job (job_of m))) (run_of (job_of m)) → StandsIn view m
  job_stands view (merged.Stamp u out) h = h
  job_stands view (merged.Account out) h = h
  job_stands view (merged.Transfer out) h = h
  job_stands view (merged.Id out) h = h
  job_stands view (merged.Unit u out) h = h
  job_stands view (merged.State out) h = h
  job_stands view (merged.Sums out) h = h
  job_stands view (merged.Status out) h = h

  -- what a job that was picked is merged into stands in its row
  pub stands_still : (view : View) (r : Row) (j : Job A N) (m : Merged A N) → IsPickedFrom view r j → job_of m ≡ j → StandsIn view m
  stands_still view r j m picked is =
      job_stands view m (subst (λ (k : Job A N). Stands (tables_by view (kind_of_job k)) (run_of k)) (sym is) picked.stands)

  pub of_row : (view : View) (r : Row) (j : Job A N) (m : Merged A N) → IsPickedFrom view r j → job_of m ≡ j → kind_of_merged m ≡ kind_of r
  of_row view r j m picked is = sym (job_kind m) ∙ ap (λ (k : Job A N). kind_of_job k) is ∙ picked.from

  -- an install in a full row makes room there
  module _ (r : Row) (old new : View) (m : Merged A N) (installs : InstallsIn old m new) (of : kind_of_merged m ≡ kind_of r) (full : references_in old r ≡ 64) where
    shorter : references_in new r + 1 ≡ 64
    shorter =
        let k : Kind = kind_of_merged m in
        let many : length (tables_by old k) ≡ 64 = ap (λ (x : Kind). length (tables_by old x)) of ∙ full in
        let own : tables_by new k ≡ installs.installs.tables =
        ap (λ (v : View). tables_by v k) (installs.is ∙ ap (λ (rows : List (List (Shown (StoredBy k)))). with_rows (record old { pushed = one_more old.pushed }) k rows) installs.installs.is)
        ∙ own_change old (one_more old.pushed) k installs.installs.tables (placed (rows_by old k) (place_by k) (omega (arith, many))) in
        let less = installs.installs.installs.one_less in
        let now : references_in new r ≡ length installs.installs.tables = sym (ap (λ (x : Kind). length (tables_by new x)) of) ∙ ap (λ (ts : List (Shown (StoredBy k))). length ts) own in
        omega (arith, many, less, now)

    pub few_left : references_in new r < 64
    few_left = omega (arith, shorter)

    pub room_made : ((other : Row) (key : Key) → content_in new other key ≡ content_in old other key) → MakesRoom r old new
    room_made content =
        let k : Kind = kind_of_merged m in
        let is : new ≡ with_rows (record old { pushed = one_more old.pushed }) k (slice_set (rows_by old k) (place_by k) installs.installs.tables) =
        installs.is ∙ ap (λ (rows : List (List (Shown (StoredBy k)))). with_rows (record old { pushed = one_more old.pushed }) k rows) installs.installs.is in
        let now : new.pushed ≡ one_more old.pushed = ap (λ (v : View). v.pushed) installs.is ∙ pushed_with (record old { pushed = one_more old.pushed }) k installs.rows in
        record {
          content = content;
          references = λ other apart.
              ap (λ (v : View). references_in v other) is
              ∙ ap (λ (ts : List (Shown (StoredBy (kind_of other)))). length ts) (others_stay old (one_more old.pushed) k (kind_of other) installs.installs.tables (λ e. apart_by r other apart (e ∙ of)));
          few =
              let one = ap (λ (p : Pushed). p.count) now in
              let less = installed_references old new m installs in
              omega (arith, one, less);
          added =
              let one = ap (λ (p : Pushed). p.count) now in
              let less = installed_references old new m installs in
              omega (arith, one, less);
          count = ap (λ (p : Pushed). p.count) now ∙ ap (λ (b : Bool). old.pushed.count + cond b 1 0) (sym (eq-eqb (references_in old r) 64 full));
          limit = ap (λ (p : Pushed). p.limit) now;
        }

-- a row that isn't full has room
pub has_room_left : (r : Row) (view : View) → (references_in view r == 64) ≡ false → MakesRoom r view view
has_room_left r view few = record {
  content = λ other key. refl;
  references = λ other apart. refl;
  count = omega (arith, ap (λ (b : Bool). view.pushed.count + cond b 1 0) few);
  few = omega arith;
  added = omega arith;
  limit = refl;
}

nil_is : {X : Type 0} (xs : List X) → is_nil xs ≡ true → xs ≡ []
nil_is [] e = refl
nil_is (x ∷ xs) e = absurd (false≢true e)

-- a row without entries in its mutable table has nothing to publish
pub idle : (fresh : Entries) (r : Row) (view : View) → is_nil (fresh r) ≡ true → PublishesRow fresh r view view
idle fresh r view none =
    let empty : fresh r ≡ [] = nil_is (fresh r) none in
    let nothing : needed_for (fresh r) (references_in view r) ≡ 0 = ap (λ (rows : List (Key × Option Value)). needed_for rows (references_in view r)) empty in
    record {
      here = λ key. found_sealed fresh view r key (sym (ap (entry_at key) empty));
      others = record { content = λ other key apart. refl; references = λ other apart. refl };
      count = omega (arith, nothing);
      few = omega arith;
      added = omega arith;
      limit = refl;
    }

needed : (rows : List (Key × Option Value)) (references : ℕ) → is_nil rows ≡ false → needed_for rows references ≡ cond (references == 64) 1 0 + 1
needed [] references some = absurd (false≢true (sym some))
needed (row ∷ rows) references some = by_test (references == 64) where
  by_test : (b : Bool) → cond b 2 1 ≡ cond b 1 0 + 1
  by_test true = refl
  by_test false = refl

-- a row whose mutable table is put in front of its sealed ones, once there is room, is published
module _ {A : Type 0} (fresh : Entries) (r : Row) (old mid new : View) (s : SealedRow A) (of : IsSealedOf fresh r s) (room : MakesRoom r old mid) (pushes : PushesIn mid s new) where
  becomes : new ≡ with_rows (record mid { pushed = one_more mid.pushed }) (kind_of_sealed s) (slice_set (rows_by mid (kind_of_sealed s)) (place_by (kind_of_sealed s))
      (shown pushes.adds.number (record { rows = entries_of_sealed s; level = 0; oldest = is_nil (tables_by mid (kind_of_sealed s)) }) ∷ tables_by mid (kind_of_sealed s)))
  becomes = pushes.is ∙ ap (λ (rows : List (List (Shown (StoredBy (kind_of_sealed s))))). with_rows (record mid { pushed = one_more mid.pushed }) (kind_of_sealed s) rows) pushes.adds.is

  in_front : (key : Key) → value_in_kind new key (kind_of_sealed s) ≡ option_flatten (entry_of key (fresh r ∷ map (seen_rows (value_by (kind_of_sealed s))) (lists_of (tables_by mid (kind_of_sealed s)))))
  in_front key =
      let k = kind_of_sealed s in
      let seen = value_by k in
      let lists = lists_of (tables_by mid k) in
      ap (λ (v : View). value_in_kind v key k) becomes
      ∙ ap (λ (ts : List (Shown (StoredBy k))). option_map seen (content_at key ts)) (own_change mid (one_more mid.pushed) k (shown pushes.adds.number (record { rows = entries_of_sealed s; level = 0; oldest = is_nil (tables_by mid k) }) ∷ tables_by mid k) pushes.adds.within)
      ∙ sym (value-seen seen key (entries_of_sealed s ∷ lists))
      ∙ ap (λ (rows : List (Key × Option Value)). option_flatten (entry_of key (rows ∷ map (seen_rows seen) lists))) of.entries

  other_tables : (other : Row) → other ≢ r → tables_by new (kind_of other) ≡ tables_by mid (kind_of other)
  other_tables other apart =
      ap (λ (v : View). tables_by v (kind_of other)) becomes
      ∙ others_stay mid (one_more mid.pushed) (kind_of_sealed s) (kind_of other)
      (shown pushes.adds.number (record { rows = entries_of_sealed s; level = 0; oldest = is_nil (tables_by mid (kind_of_sealed s)) }) ∷ tables_by mid (kind_of_sealed s))
      (λ e. apart_by r other apart (e ∙ of.of))

  now : new.pushed ≡ one_more mid.pushed
  now = ap (λ (v : View). v.pushed) pushes.is ∙ pushed_with (record mid { pushed = one_more mid.pushed }) (kind_of_sealed s) pushes.rows

  pub row_published : is_nil (fresh r) ≡ false → PublishesRow fresh r old new
  row_published some =
      let counted : new.pushed.count ≡ mid.pushed.count + 1 = ap (λ (p : Pushed). p.count) now in
      let before = room.count in
      let all = needed (fresh r) (references_in old r) some in
      record {
        here = λ key.
            subst (λ (k : Kind). value_in_kind new key k ≡ option_flatten (entry_of key (fresh r ∷ map (seen_rows (value_by k)) (lists_of (tables_by mid k))))) of.of (in_front key)
            ∙ same_in_front fresh old mid (λ other k. room.content other k) r key;
        others = record {
          content = λ other key apart. ap (λ (ts : List (Shown (StoredBy (kind_of other)))). option_map (value_by (kind_of other)) (content_at key ts)) (other_tables other apart) ∙ room.content other key;
          references = λ other apart. ap (λ (ts : List (Shown (StoredBy (kind_of other)))). length ts) (other_tables other apart) ∙ room.references other apart;
        };
        count = omega (arith, counted, before, all);
        few =
            let references = pushed_references mid new s pushes in
            let fewer = room.few in
            omega (arith, counted, references, fewer);
        added =
            let references = pushed_references mid new s pushes in
            let fewer = room.added in
            omega (arith, counted, references, fewer);
        limit = ap (λ (p : Pushed). p.limit) now ∙ room.limit;
      }
