use Rattle.std.proofs.Common.{◌∙◌, Ok, sym, subst}
use Rattle.std.specs.List.{All}
use Rattle.tf_forest.specs.Forest as forest
use Rattle.tf_store.specs.Publish.{IsPublish}
use Rattle.tf_store.specs.Receipt.{IsReceiptOf}
use Rattle.tf_store.proofs.Published.{published_as, refused_as}
use Rattle.tf_store.proofs.publishing.Store+Forest+Rows+T+A+S+A+C+A+S.publish.Goals as goal

pub hand_over-requires : goal.hand_over-requires
hand_over-requires g c = c.in-Ok.ensures.readable ∙ sym c.in-Ok.ensures.publish.journal

pub returns-clause-publish : goal.returns-clause-publish
returns-clause-publish g c =
    let old : forest.View = c.args.self.now.forest in
    subst (λ (v : forest.View). IsPublish old v (Ok c.hand_over.result)) (sym c.hand_over.ensures.forest)
    (published_as old c.show_stored.new.self.forest _ c.hand_over.result c.in-Ok.ensures.publish)

pub returns-clause-own : goal.returns-clause-own
returns-clause-own g c =
    subst (λ (v : forest.View). All (IsReceiptOf v.journal) c.hand_over.result.items) (sym c.hand_over.ensures.forest) c.hand_over.ensures.own

pub returns-clause-receipts : goal.returns-clause-receipts
returns-clause-receipts g c = c.hand_over.ensures.receipts ∙ c.show_stored.ensures.waiting

pub returns-clause-handed : goal.returns-clause-handed
returns-clause-handed g c = c.hand_over.ensures.handed

pub returns-clause-readable : goal.returns-clause-readable
returns-clause-readable g c = c.hand_over.ensures.readable ∙ c.in-Ok.ensures.readable

pub returns-in-Err-clause-publish : goal.returns-in-Err-clause-publish
returns-in-Err-clause-publish g c = refused_as c.args.self.now.forest c.show_stored.new.self.forest c.in-Err.refusal c.in-Err.ensures.publish

pub returns-in-Err-clause-parts : goal.returns-in-Err-clause-parts
returns-in-Err-clause-parts g c = c.in-Err.ensures.parts

pub returns-in-Err-clause-wait : goal.returns-in-Err-clause-wait
returns-in-Err-clause-wait g c = c.show_stored.ensures.waiting

pub returns-in-Err-clause-unread : goal.returns-in-Err-clause-unread
returns-in-Err-clause-unread g c = c.in-Err.ensures.unread
