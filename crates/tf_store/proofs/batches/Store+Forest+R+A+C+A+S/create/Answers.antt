use Rattle.std.proofs.Common.{◌≡◌, ◌++◌, ◌∷◌, [], subst, IfOk, OnErr}
use Rattle.std.specs.Prelude.{map}
use Rattle.tf_store.specs.Events.{batch_of}
use Rattle.tf_store.specs.Receipt.{receipt_of}
use Rattle.tf_store.specs.Store.{View}
use Rattle.tf_store.proofs.Runs.{facts}
use Rattle.tf_store.proofs.Unchanged.{unchanged_forest}
use Rattle.tf_store.proofs.Kept.{all_wait, receipts_wait, run_kept, store_grows}
use Rattle.tf_store.proofs.batches.Store+Forest+R+A+C+A+S.create.Goals as goal

pub invariant_of-self : goal.invariant_of-self
invariant_of-self g c =
    let old = c.self.inside.forest in
    let new = c.run_batch-reply.new.ledger in
    let store = c.self.invariant in
    let ran = c.run_batch-reply.ensures in
    let f = facts (λ s. s.journal) (λ s. s.clock) (λ s. s.kept) old new (batch_of c.args.events) c.args.now c.run_batch-reply.result ran.run in
    store_grows old new c.self.inside.tally c.run_batch-reply.new.tally c.self.inside.public c.self.inside.queue.waiting c.run_batch-reply.new.queue.waiting
    store f.lawful (run_kept (λ s. s.journal) (λ s. s.clock) (λ s. s.kept) old new (batch_of c.args.events) c.args.now c.run_batch-reply.result ran.run store.kept)
    ran.lasting ran.begins ran.counted
    (all_wait (λ s. s.journal) (λ s. s.clock) (λ s. s.kept) old new (batch_of c.args.events) c.args.now c.run_batch-reply.result ran.run ran.begins
    c.self.inside.queue.waiting c.run_batch-reply.new.queue.waiting ran.waits ran.refused store.waits)

pub returns-clause-receipt : goal.returns-clause-receipt
returns-clause-receipt g c =
    let old = c.self.inside.forest in
    let new = c.run_batch-reply.new.ledger in
    let ran = c.run_batch-reply.ensures in
    subst (λ (v : View). IfOk c.run_batch-reply.result (λ reply. map (receipt_of new.journal) c.run_batch-reply.new.queue.waiting ≡ v.waiting
    ++ record { events = batch_of c.args.events; moment = c.args.now; clock = v.forest.clock; reply = reply; first = v.forest.journal; second = new.journal } ∷ []))
    c.self.view_is
    (receipts_wait (λ s. s.journal) (λ s. s.clock) (λ s. s.kept) old new (batch_of c.args.events) c.args.now c.run_batch-reply.result ran.begins
    c.self.inside.queue.waiting c.run_batch-reply.new.queue.waiting ran.waits c.self.invariant.waits)

pub returns-clause-unchanged : goal.returns-clause-unchanged
returns-clause-unchanged g c =
    let old = c.self.inside.forest in
    let new = c.run_batch-reply.new.ledger in
    let f = facts (λ s. s.journal) (λ s. s.clock) (λ s. s.kept) old new (batch_of c.args.events) c.args.now c.run_batch-reply.result c.run_batch-reply.ensures.run in
    subst (λ (v : View). OnErr c.run_batch-reply.result (new ≡ v.forest)) c.self.view_is
    (unchanged_forest old new c.run_batch-reply.result f.unchanged c.run_batch-reply.ensures.unchanged c.self.invariant.kept
    (record { at_rest = c.facts.ensures.at_rest; waits = c.facts.ensures.waits }) (record { at_rest = c.facts-2.ensures.at_rest; waits = c.facts-2.ensures.waits }))
