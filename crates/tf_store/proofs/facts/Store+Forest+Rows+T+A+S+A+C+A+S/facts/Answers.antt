use mathlib.Core.List.{IsPrefix}
use Rattle.std.proofs.Common.{◌≡◌, ◌∙◌, List, length, sym, subst}
use Rattle.std.specs.List.{All}
use Rattle.tf_journal.specs.declared.entry.Entry.{Entry}
use Rattle.tf_journal.specs.Laws.{IsWithinLimits}
use Rattle.tf_journal.specs.Lawful.{IsLawfulAt}
use Rattle.tf_manifest.specs.Shows.{Shows}
use Rattle.tf_publish.specs.Tables.{by_name}
use Rattle.tf_rows.specs.Counts.{AreBounded}
use Rattle.tf_rows.specs.Next.{content_in}
use Rattle.tf_rows.specs.Parts.{parts_of}
use Rattle.tf_store.specs.Book.{book_of}
use Rattle.tf_store.specs.Receipt.{IsReceiptOf}
use Rattle.tf_store.specs.Store.{View}
use Rattle.tf_store.proofs.Beginnings.{begins_taken, receipts_of}
use Rattle.tf_store.proofs.facts.Store+Forest+Rows+T+A+S+A+C+A+S.facts.Goals as goal

pub returns-clause-lawful : goal.returns-clause-lawful
returns-clause-lawful g c = subst (λ (v : View). IsLawfulAt v.forest.clock v.forest.journal) c.self.view_is c.self.invariant.lawful

pub returns-clause-limits : goal.returns-clause-limits
returns-clause-limits g c =
    subst (λ (v : View). IsWithinLimits v.forest.journal) c.self.view_is
    (c.journals_are_within_limits.ensures c.self.inside.forest.journal c.self.invariant.lawful.lawful.sound)

pub returns-clause-kept : goal.returns-clause-kept
returns-clause-kept g c = subst (λ (v : View). v.forest.kept ≡ length v.forest.journal) c.self.view_is c.self.invariant.kept

pub returns-clause-rows : goal.returns-clause-rows
returns-clause-rows g c =
    subst (λ (v : View). Shows (content_in (parts_of (by_name v.forest.fresh) v.forest.sealed.tables)) v.forest.journal) c.self.view_is c.facts_of_rows.ensures.shows

pub returns-clause-readable : goal.returns-clause-readable
returns-clause-readable g c =
    let public = c.self.invariant.public in
    subst (λ (v : View). IsPrefix v.readable v.forest.journal) c.self.view_is
    (subst (λ (l : List Entry). IsPrefix l c.self.inside.forest.journal) (sym public.readable) (begins_taken c.self.inside.public.shown c.self.inside.forest.journal))

pub returns-clause-receipts : goal.returns-clause-receipts
returns-clause-receipts g c =
    subst (λ (v : View). All (IsReceiptOf v.forest.journal) v.waiting) c.self.view_is
    (receipts_of c.self.inside.forest.journal c.self.inside.queue.waiting c.self.invariant.waits)

pub returns-clause-bounded : goal.returns-clause-bounded
returns-clause-bounded g c = subst (λ (v : View). AreBounded v.forest.sealed) c.self.view_is c.facts_of_rows.ensures.bounded

pub returns-clause-book : goal.returns-clause-book
returns-clause-book g c = subst (λ (v : View). c.count.result ≡ book_of v.forest.journal) c.self.view_is (c.count.ensures ∙ c.self.invariant.counted)
