use Rattle.std.proofs.Common.{◌≡◌, ℕ, ◌<◌, ◌∷◌, [], List, length, Bool, Option, refl, sym, ◌∙◌, ap, subst, slice_set, arith}
use Rattle.std.specs.Prelude.{slice_index_or}
use Rattle.tf_table.specs.declared.key.Key.{Key}
use Rattle.tf_registry.specs.Limit.{Pushed}
use Rattle.tf_registry.specs.Row.{is_nil}
use Rattle.tf_registry.specs.Table.{Shown, Table, shown}
use Rattle.tf_manifest.specs.View.{AreLight}
use Rattle.tf_rows.specs.SealedRow.{AddsAt}
use Rattle.tf_publish.proofs.InFront.{light_with}
use Rattle.tf_publish.proofs.in_front.push_at.Goals as goal

-- a table of level 0 that was put in front of one of the rows
adds_at : {V : Type 0} (old new : List (List (Shown V))) (at : ℕ) (entries : List (Key × Option V)) (oldest : Bool) (t : Shown V) → at < length old → new ≡ slice_set old at (t ∷ slice_index_or old at [])
    → t.table ≡ record { rows = entries; level = 0; oldest = oldest } → oldest ≡ is_nil (slice_index_or old at []) → AddsAt old at entries new
adds_at {V = V} old new at entries oldest t within is table none = record {
  number = t.number;
  within = within;
  is = is
      ∙ ap (λ (s : Table V). slice_set old at (shown t.number s ∷ slice_index_or old at [])) table
      ∙ ap (λ (b : Bool). slice_set old at (shown t.number (record { rows = entries; level = 0; oldest = b }) ∷ slice_index_or old at [])) none;
}

pub row-requires : goal.row-requires
row-requires g c = c.requires.at

pub returns-in-Err-clause-light : goal.returns-in-Err-clause-light
returns-in-Err-clause-light g c = c.requires.light

pub returns-in-Err-clause-err : goal.returns-in-Err-clause-err
returns-in-Err-clause-err g c = (refl, refl)

pub returns-in-Err-clause-refusal : goal.returns-in-Err-clause-refusal
returns-in-Err-clause-refusal g c = c.in-Err.ensures.err

pub push-requires : goal.push-requires
push-requires g c = c.requires.pushes

pub add-requires-clause-at : goal.add-requires-clause-at
add-requires-clause-at g c = c.requires.at

pub add-requires-clause-room : goal.add-requires-clause-room
add-requires-clause-room g c = c.requires.room

pub add-requires-clause-light : goal.add-requires-clause-light
add-requires-clause-light g c = omega (arith, c.requires.light c.args.at [] c.requires.at, c.requires.pushes, c.count-count.ensures.within.limit)

pub add-requires-clause-level : goal.add-requires-clause-level
add-requires-clause-level g c = ap (λ (t : Table g.row.V.Denot). t.level) (c.in-Ok-push.ensures.pushed ∙ c.in-Ok.ensures.value ∙ c.new.ensures)

pub add-requires-clause-oldest : goal.add-requires-clause-oldest
add-requires-clause-oldest g c =
    ap (λ (t : Table g.row.V.Denot). t.oldest) (c.in-Ok-push.ensures.pushed ∙ c.in-Ok.ensures.value ∙ c.new.ensures)
    ∙ c.is_empty-oldest.ensures
    ∙ ap (λ (ts : List (Shown g.row.V.Denot)). is_nil ts) c.row.ensures.row

pub returns-in-Ok-push-clause-adds : goal.returns-in-Ok-push-clause-adds
returns-in-Ok-push-clause-adds g c =
    adds_at c.args.rows.now c.add.new.self c.args.at c.args.table c.is_empty-oldest.result c.in-Ok-push.table c.requires.at c.add.ensures.value
    (c.in-Ok-push.ensures.pushed ∙ c.in-Ok.ensures.value ∙ c.new.ensures)
    (c.is_empty-oldest.ensures ∙ ap (λ (ts : List (Shown g.row.V.Denot)). is_nil ts) c.row.ensures.row)

pub returns-in-Ok-push-clause-length : goal.returns-in-Ok-push-clause-length
returns-in-Ok-push-clause-length g c = c.add.ensures.count

pub returns-in-Ok-push-clause-light : goal.returns-in-Ok-push-clause-light
returns-in-Ok-push-clause-light g c =
    subst (λ (p : Pushed). AreLight p.count c.add.new.self) (sym c.in-Ok-push.ensures.counted)
    (light_with c.args.pushes.now.count c.args.rows.now c.add.new.self c.args.at c.in-Ok-push.table c.requires.at c.requires.light
    (ap (λ (t : Table g.row.V.Denot). t.level) (c.in-Ok-push.ensures.pushed ∙ c.in-Ok.ensures.value ∙ c.new.ensures))
    c.add.ensures.value)

pub returns-in-Ok-push-clause-more : goal.returns-in-Ok-push-clause-more
returns-in-Ok-push-clause-more g c =
    let counted = ap (λ (p : Pushed). p.count) c.in-Ok-push.ensures.counted in
    omega (arith, counted)

pub returns-in-Ok-push-clause-counted : goal.returns-in-Ok-push-clause-counted
returns-in-Ok-push-clause-counted g c = c.in-Ok-push.ensures.counted

pub returns-clause-light : goal.returns-clause-light
returns-clause-light g c = subst (λ (p : Pushed). AreLight p.count c.args.rows.now) (sym c.in-Err-push.ensures.err) c.requires.light

pub returns-clause-more : goal.returns-clause-more
returns-clause-more g c =
    let same = ap (λ (p : Pushed). p.count) c.in-Err-push.ensures.err in
    omega (arith, same)

pub returns-clause-err : goal.returns-clause-err
returns-clause-err g c = (refl, c.in-Err-push.ensures.err)

pub returns-clause-refusal : goal.returns-clause-refusal
returns-clause-refusal g c = refl
