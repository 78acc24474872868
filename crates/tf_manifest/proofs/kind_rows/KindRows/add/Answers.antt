use borrow.Author.Rules.{scaled_Fits}
use Rattle.std.proofs.Common.{◌≡◌, ℕ, ◌<◌, ◌∙◌, ap, sym, subst, length, List, [], ◌∷◌, slice_set}
use Rattle.std.specs.Prelude.{slice_index_or}
use Rattle.std.specs.List.{refill}
use Rattle.std.proofs.lemmas.List.{get_or_default}
use Rattle.tf_registry.specs.Row.{is_nil, weight}
use Rattle.tf_registry.specs.Table.{Shown}
use Rattle.tf_manifest.proofs.Maps.{refill_whole, length-slice_set}
use Rattle.tf_manifest.proofs.kind_rows.KindRows.add.Given as given
use Rattle.tf_manifest.proofs.kind_rows.KindRows.add.Goals as goal

-- a row read through the slice, with whatever it reads past the end
same : {X : Type 0} (slice rows : List (List X)) (at : ℕ) (row : List X) → slice ≡ rows → at < length rows → slice_index_or slice at row ≡ slice_index_or rows at []
same slice rows at row is within = ap (λ rs. slice_index_or rs at row) is ∙ get_or_default rows at row [] within

pub add-requires-clause-room : goal.add-requires-clause-room
add-requires-clause-room g c =
    subst (λ (ts : List (Shown g.row.V.Denot)). length ts < 64)
    (sym (same _ _ c.args.at c.index-as_mut_slice-at.result (c.as_mut_slice.ensures.value ∙ c.self.view_is) c.requires.at)) c.requires.room

pub add-requires-clause-light : goal.add-requires-clause-light
add-requires-clause-light g c =
    subst (λ (ts : List (Shown g.row.V.Denot)). weight ts < 1048576)
    (sym (same _ _ c.args.at c.index-as_mut_slice-at.result (c.as_mut_slice.ensures.value ∙ c.self.view_is) c.requires.at)) c.requires.light

pub add-requires-clause-oldest : goal.add-requires-clause-oldest
add-requires-clause-oldest g c =
    c.requires.oldest
    ∙ sym (ap (λ (ts : List (Shown g.row.V.Denot)). is_nil ts) (same _ _ c.args.at c.index-as_mut_slice-at.result (c.as_mut_slice.ensures.value ∙ c.self.view_is) c.requires.at))

pub add-requires-clause-level : goal.add-requires-clause-level
add-requires-clause-level g c = c.requires.level

pub invariant_of-self : goal.invariant_of-self
invariant_of-self g c = c.self.invariant

-- the row that was changed, in its place
written : (g : given.Over) (c : goal.After-self-1 g) → refill c.self.inside.list.len c.self.inside.list.items (slice_set c.as_mut_slice.result.now c.args.at c.add.new.self) ≡ slice_set c.args.self.now c.args.at c.add.new.self
written g c =
    refill_whole c.self.inside.list.len c.self.inside.list.items (slice_set c.as_mut_slice.result.now c.args.at c.add.new.self)
    (sym c.as_mut_slice.ensures.len ∙ sym (length-slice_set c.as_mut_slice.result.now c.args.at c.add.new.self))
    ∙ ap (λ (rs : List (List (Shown g.row.V.Denot))). slice_set rs c.args.at c.add.new.self) (c.as_mut_slice.ensures.value ∙ c.self.view_is)

pub returns-clause-value : goal.returns-clause-value
returns-clause-value g c =
    written g c
    ∙ ap (slice_set c.args.self.now c.args.at)
    (c.add.ensures ∙ ap (λ (ts : List (Shown g.row.V.Denot)). c.args.table ∷ ts) (same _ _ c.args.at c.index-as_mut_slice-at.result (c.as_mut_slice.ensures.value ∙ c.self.view_is) c.requires.at))

pub returns-clause-count : goal.returns-clause-count
returns-clause-count g c = ap length (written g c) ∙ length-slice_set c.args.self.now c.args.at c.add.new.self

pub bounds-as_mut_slice-at : goal.bounds-as_mut_slice-at
bounds-as_mut_slice-at g c =
    subst (λ (rs : List (List (Shown g.row.V.Denot))). c.args.at < length rs) (sym (c.as_mut_slice.ensures.value ∙ c.self.view_is)) c.requires.at

pub offset_bounds-as_mut_slice-at : goal.offset_bounds-as_mut_slice-at
offset_bounds-as_mut_slice-at g c = scaled_Fits _ _ _ (bounds-as_mut_slice-at g c) c.as_mut_slice.type_inv.1
