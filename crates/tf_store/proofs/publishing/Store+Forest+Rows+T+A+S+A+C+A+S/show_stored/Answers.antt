use Rattle.std.proofs.Common.{◌≡◌, ◌∙◌, IfOk, IfNone, IfSome, OnErr, OnOk, subst, ap}
use Rattle.std.specs.Prelude.{map}
use Rattle.tf_publish.specs.Partly.{CountsParts}
use Rattle.tf_publish.specs.Tables.{by_name}
use Rattle.tf_store.specs.Publish.{IsIdle, IsPublish}
use Rattle.tf_store.specs.Receipt.{receipt_of}
use Rattle.tf_store.specs.Store.{View}
use Rattle.tf_store.proofs.Published.{readable_all, readable_as, readable_idle, store_brought}
use Rattle.tf_store.proofs.publishing.Store+Forest+Rows+T+A+S+A+C+A+S.show_stored.Goals as goal

pub bring_up-requires-clause-lawful : goal.bring_up-requires-clause-lawful
bring_up-requires-clause-lawful g c = c.self.invariant.lawful.lawful

pub bring_up-requires-clause-kept : goal.bring_up-requires-clause-kept
bring_up-requires-clause-kept g c = c.self.invariant.kept

pub bring_up-requires-clause-public : goal.bring_up-requires-clause-public
bring_up-requires-clause-public g c = c.self.invariant.public

pub invariant_of-self : goal.invariant_of-self
invariant_of-self g c =
    let brought = c.bring_up.ensures in
    store_brought c.self.inside.forest c.bring_up.new.forest c.self.inside.tally c.self.inside.public c.bring_up.new.public c.self.inside.queue.waiting c.bring_up.result
    c.self.invariant brought.publish brought.all brought.begins brought.further brought.refused

pub returns-clause-publish : goal.returns-clause-publish
returns-clause-publish g c = subst (λ (v : View). IsPublish v.forest c.bring_up.new.forest c.bring_up.result) c.self.view_is c.bring_up.ensures.publish

pub returns-clause-parts : goal.returns-clause-parts
returns-clause-parts g c =
    subst (λ (v : View). OnErr c.bring_up.result (CountsParts (by_name v.forest.fresh) v.forest.sealed c.bring_up.new.forest.sealed)) c.self.view_is c.bring_up.ensures.parts

pub returns-clause-version : goal.returns-clause-version
returns-clause-version g c =
    subst (λ (v : View). IfOk c.bring_up.result (λ given. IfSome given (λ version. version ≡ v.forest.journal))) c.self.view_is c.bring_up.ensures.version

pub returns-clause-idle : goal.returns-clause-idle
returns-clause-idle g c = subst (λ (v : View). IfOk c.bring_up.result (λ given. IfNone given (IsIdle v.forest c.bring_up.new.forest))) c.self.view_is c.bring_up.ensures.idle

pub returns-clause-uncounted : goal.returns-clause-uncounted
returns-clause-uncounted g c =
    subst (λ (v : View). IfOk c.bring_up.result (λ given. IfNone given (CountsParts (by_name v.forest.fresh) v.forest.sealed c.bring_up.new.forest.sealed)))
    c.self.view_is c.bring_up.ensures.uncounted

pub returns-clause-waiting : goal.returns-clause-waiting
returns-clause-waiting g c =
    ap (λ l. map (receipt_of l) c.self.inside.queue.waiting) c.bring_up.ensures.publish.journal ∙ ap (λ (v : View). v.waiting) c.self.view_is

pub returns-clause-readable : goal.returns-clause-readable
returns-clause-readable g c =
    subst (λ (v : View). OnOk c.bring_up.result (c.bring_up.new.public.readable ≡ v.forest.journal)) c.self.view_is
    (readable_all c.bring_up.result c.self.inside.forest c.bring_up.new.forest c.bring_up.new.public c.bring_up.ensures.publish.journal c.bring_up.ensures.all)

pub returns-clause-unread : goal.returns-clause-unread
returns-clause-unread g c =
    subst (λ (v : View). OnErr c.bring_up.result (c.bring_up.new.public.readable ≡ v.readable)) c.self.view_is
    (readable_as c.bring_up.result c.self.inside.public c.bring_up.new.public c.bring_up.ensures.refused)

pub returns-clause-unchanged : goal.returns-clause-unchanged
returns-clause-unchanged g c =
    subst (λ (v : View). IfOk c.bring_up.result (λ given. IfNone given (c.bring_up.new.public.readable ≡ v.readable))) c.self.view_is
    (readable_idle c.bring_up.result c.self.inside.public c.bring_up.new.public c.bring_up.ensures.same)
