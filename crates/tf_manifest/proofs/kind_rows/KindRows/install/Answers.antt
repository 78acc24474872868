use borrow.Author.Rules.{scaled_Fits}
use Rattle.std.proofs.Common.{◌≡◌, ◌<◌, ◌∙◌, ap, sym, subst, length, List, IfErr, [], slice_set}
use Rattle.std.specs.Prelude.{slice_index_or}
use Rattle.std.specs.List.{refill}
use Rattle.std.proofs.lemmas.List.{get_or_default}
use Rattle.tf_registry.specs.Install.{OnFull, OnStale, IfNoMemory}
use Rattle.tf_registry.specs.Run.{Stands, Installs}
use Rattle.tf_registry.specs.Table.{Shown}
use Rattle.tf_manifest.proofs.Maps.{refill_whole, length-slice_set, set_back, on_err, on_ok}
use Rattle.tf_manifest.proofs.kind_rows.KindRows.install.Given as given
use Rattle.tf_manifest.proofs.kind_rows.KindRows.install.Goals as goal

module _ (g : given.Over) (c : goal.After-self-1 g) where
  rows : c.as_mut_slice.result.now ≡ c.args.self.now
  rows = c.as_mut_slice.ensures.value ∙ c.self.view_is

  same : slice_index_or c.as_mut_slice.result.now c.args.at c.index-as_mut_slice-at.result ≡ slice_index_or c.args.self.now c.args.at []
  same =
      let within : c.args.at < length c.as_mut_slice.result.now = subst (λ (rs : List (List (Shown g.row.V.Denot))). c.args.at < length rs) (sym rows) c.requires in
      get_or_default c.as_mut_slice.result.now c.args.at c.index-as_mut_slice-at.result [] within
      ∙ ap (λ (rs : List (List (Shown g.row.V.Denot))). slice_index_or rs c.args.at []) rows

  -- the row that was changed, in its place
  written : refill c.self.inside.list.len c.self.inside.list.items (slice_set c.as_mut_slice.result.now c.args.at c.install.new.self) ≡ slice_set c.args.self.now c.args.at c.install.new.self
  written =
      refill_whole c.self.inside.list.len c.self.inside.list.items (slice_set c.as_mut_slice.result.now c.args.at c.install.new.self)
      (sym c.as_mut_slice.ensures.len ∙ sym (length-slice_set c.as_mut_slice.result.now c.args.at c.install.new.self))
      ∙ ap (λ (rs : List (List (Shown g.row.V.Denot))). slice_set rs c.args.at c.install.new.self) rows

pub returns-clause-installs : goal.returns-clause-installs
returns-clause-installs g c =
    on_ok c.install.result _ _
    (λ i. record {
      tables = c.install.new.self;
      is = written g c;
      installs = subst (λ (ts : List (Shown g.row.V.Denot)). Installs ts c.args.merged.run c.args.merged.table c.install.new.self) (same g c) i;
    })
    c.install.ensures.installs

pub returns-clause-err : goal.returns-clause-err
returns-clause-err g c =
    on_err c.install.result _ _
    (λ h. (written g c ∙ set_back c.args.self.now c.args.at c.install.new.self [] (h.0 ∙ same g c), h.1))
    c.install.ensures.err

pub returns-clause-stale : goal.returns-clause-stale
returns-clause-stale g c =
    subst (λ (ts : List (Shown g.row.V.Denot)). IfErr c.install.result (λ e. OnStale e (Stands ts c.args.merged.run → ⊥)))
    (same g c) c.install.ensures.stale

pub returns-clause-full : goal.returns-clause-full
returns-clause-full g c =
    subst (λ (ts : List (Shown g.row.V.Denot)). IfErr c.install.result (λ e. OnFull e (Stands ts c.args.merged.run × (c.args.pushes.now.count ≡ c.args.pushes.now.limit))))
    (same g c) c.install.ensures.full

pub returns-clause-no_memory : goal.returns-clause-no_memory
returns-clause-no_memory g c =
    subst (λ (ts : List (Shown g.row.V.Denot)). IfErr c.install.result (λ e. IfNoMemory e (λ m. Stands ts c.args.merged.run × (c.args.pushes.now.count < c.args.pushes.now.limit))))
    (same g c) c.install.ensures.no_memory

pub returns-clause-count : goal.returns-clause-count
returns-clause-count g c = ap length (written g c) ∙ length-slice_set c.args.self.now c.args.at c.install.new.self

pub returns-clause-pushed : goal.returns-clause-pushed
returns-clause-pushed g c = c.install.ensures.pushed

pub returns-clause-room : goal.returns-clause-room
returns-clause-room g c = c.install.ensures.room

pub returns-clause-back : goal.returns-clause-back
returns-clause-back g c = c.install.ensures.back

pub invariant_of-self : goal.invariant_of-self
invariant_of-self g c = c.self.invariant

pub bounds-as_mut_slice-at : goal.bounds-as_mut_slice-at
bounds-as_mut_slice-at g c =
    subst (λ (rs : List (List (Shown g.row.V.Denot))). c.args.at < length rs) (sym (c.as_mut_slice.ensures.value ∙ c.self.view_is)) c.requires

pub offset_bounds-as_mut_slice-at : goal.offset_bounds-as_mut_slice-at
offset_bounds-as_mut_slice-at g c = scaled_Fits _ _ _ (bounds-as_mut_slice-at g c) c.as_mut_slice.type_inv.1
