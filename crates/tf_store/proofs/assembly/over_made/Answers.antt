use Rattle.std.proofs.Common.{◌∙◌, refl}
use Rattle.tf_store.proofs.Kept.{store_new}
use Rattle.tf_store.proofs.assembly.over_made.Goals as goal

pub empty-requires-clause-copies : goal.empty-requires-clause-copies
empty-requires-clause-copies g c = rw c.in-Ok.ensures.first at c.requires.shown

pub new-requires : goal.new-requires
new-requires g c = rw c.in-Ok.ensures.second at c.requires.empty

pub invariant_of-store : goal.invariant_of-store
invariant_of-store g c =
    store_new c.new.result c.new-in-Ok.result c.empty.result c.new-in-Ok-2.result.waiting c.requires.sealed.0 c.new.ensures.journal c.new.ensures.kept
    (c.new.ensures.sealed ∙ (rw c.in-Ok.ensures.second at c.requires.sealed.1)) (c.empty_manifests_show_nothing.ensures c.requires.sealed.0)
    c.new-in-Ok.ensures c.empty.ensures c.new-in-Ok-2.ensures

pub returns-in-Ok-clause-sealed : goal.returns-in-Ok-clause-sealed
returns-in-Ok-clause-sealed g c = λ limit is. c.new.ensures.sealed ∙ (rw c.in-Ok.ensures.second at is)

pub returns-in-Ok-clause-beside : goal.returns-in-Ok-clause-beside
returns-in-Ok-clause-beside g c = rw c.in-Ok.ensures.first refl

pub returns-in-Ok-clause-opened : goal.returns-in-Ok-clause-opened
returns-in-Ok-clause-opened g c = λ ok. rw c.in-Ok.ensures.first refl
