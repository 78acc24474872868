use Rattle.std.proofs.Common.{◌≡◌, ◌∙◌, sym, subst, ap}
use Rattle.std.specs.List.{All}
use Rattle.std.specs.Prelude.{map}
use Rattle.std.proofs.lemmas.List.Elements.{All-same}
use Rattle.tf_store.specs.Receipt.{IsReceiptOf, Waits, receipt_of}
use Rattle.tf_store.specs.Store.{IsStore, View}
use Rattle.tf_store.proofs.Beginnings.{receipts_of}
use Rattle.tf_store.proofs.Kept.{store_emptied}
use Rattle.tf_store.proofs.Published.{front_of_all}
use Rattle.tf_store.proofs.publishing.Store+Forest+Rows+T+A+S+A+C+A+S.hand_over.Goals as goal

pub hand_over-requires : goal.hand_over-requires
hand_over-requires g c =
    let seen = subst (λ (v : View). v.readable ≡ v.forest.journal) (sym c.self.view_is) c.requires in
    let front = c.front.ensures ∙ front_of_all c.self.inside.forest c.self.inside.public c.self.invariant.public seen in
    subst (λ l. All (Waits l) c.self.inside.queue.waiting) (sym front) c.self.invariant.waits

pub invariant_of-self : goal.invariant_of-self
invariant_of-self g c =
    let forest = c.self.inside.forest in
    subst (IsStore forest c.self.inside.tally c.self.inside.public) (sym c.hand_over.ensures.none)
    (store_emptied forest c.self.inside.tally c.self.inside.public c.self.inside.queue.waiting c.self.invariant)

pub returns-clause-receipts : goal.returns-clause-receipts
returns-clause-receipts g c =
    let seen = subst (λ (v : View). v.readable ≡ v.forest.journal) (sym c.self.view_is) c.requires in
    let front = c.front.ensures ∙ front_of_all c.self.inside.forest c.self.inside.public c.self.invariant.public seen in
    c.hand_over.ensures.receipts ∙ ap (λ l. map (receipt_of l) c.self.inside.queue.waiting) front ∙ ap (λ (v : View). v.waiting) c.self.view_is

pub returns-clause-own : goal.returns-clause-own
returns-clause-own g c =
    let seen = subst (λ (v : View). v.readable ≡ v.forest.journal) (sym c.self.view_is) c.requires in
    let front = c.front.ensures ∙ front_of_all c.self.inside.forest c.self.inside.public c.self.invariant.public seen in
    let journal = c.self.inside.forest.journal in
    let waiting = c.self.inside.queue.waiting in
    subst (λ (v : View). All (IsReceiptOf v.forest.journal) c.hand_over.result.items) c.self.view_is
    (All-same (IsReceiptOf journal) _ _ (c.hand_over.ensures.receipts ∙ ap (λ l. map (receipt_of l) waiting) front) (receipts_of journal waiting c.self.invariant.waits))

pub returns-clause-handed : goal.returns-clause-handed
returns-clause-handed g c = ap (map (receipt_of c.self.inside.forest.journal)) c.hand_over.ensures.none

pub returns-clause-forest : goal.returns-clause-forest
returns-clause-forest g c = ap (λ (v : View). v.forest) c.self.view_is

pub returns-clause-readable : goal.returns-clause-readable
returns-clause-readable g c = ap (λ (v : View). v.readable) c.self.view_is
