use Rattle.std.proofs.Common.{◌≡◌, List, IfOk, inl, subst}
use Rattle.tf_journal.specs.declared.entry.Entry.{Entry}
use Rattle.tf_store.proofs.Published.{published_as, refused_as, taken_idle, whatever_err, whatever_ok}
use Rattle.tf_store.proofs.publishing.Store+Forest+Rows+T+A+S+A+C+A+S.take_version.Goals as goal

pub returns-in-Ok-Some-clause-publish : goal.returns-in-Ok-Some-clause-publish
returns-in-Ok-Some-clause-publish g c = inl (published_as c.args.self.now.forest c.show_stored.new.self.forest _ c.in-Ok-Some.version c.in-Ok-Some.ensures.publish)

pub returns-in-Ok-None-clause-publish : goal.returns-in-Ok-None-clause-publish
returns-in-Ok-None-clause-publish g c =
    let old = c.args.self.now.forest in
    let new = c.show_stored.new.self.forest in
    taken_idle old new c.seen.result c.seen.ensures.refusal (rw c.in-Ok-None.field-0-is at c.in-Ok-None.ensures.idle) (λ x. published_as old new _ x c.in-Ok-None.ensures.publish)

pub returns-in-Err-clause-publish : goal.returns-in-Err-clause-publish
returns-in-Err-clause-publish g c = inl (refused_as c.args.self.now.forest c.show_stored.new.self.forest c.in-Err.refusal c.in-Err.ensures.publish)

pub returns-in-Ok-None-clause-parts : goal.returns-in-Ok-None-clause-parts
returns-in-Ok-None-clause-parts g c = whatever_err c.seen.result (rw c.in-Ok-None.field-0-is at c.in-Ok-None.ensures.uncounted)

pub returns-in-Ok-Some-clause-version : goal.returns-in-Ok-Some-clause-version
returns-in-Ok-Some-clause-version g c = rw c.in-Ok-Some.field-0-is at c.in-Ok-Some.ensures.version

pub returns-in-Ok-None-clause-version : goal.returns-in-Ok-None-clause-version
returns-in-Ok-None-clause-version g c = subst (λ (l : List Entry). IfOk c.seen.result (λ version. version ≡ l)) c.in-Ok-None.ensures.readable c.seen.ensures.version

pub returns-in-Ok-None-clause-readable : goal.returns-in-Ok-None-clause-readable
returns-in-Ok-None-clause-readable g c = whatever_ok c.seen.result c.in-Ok-None.ensures.readable

pub returns-in-Ok-None-clause-unread : goal.returns-in-Ok-None-clause-unread
returns-in-Ok-None-clause-unread g c = whatever_err c.seen.result (rw c.in-Ok-None.field-0-is at c.in-Ok-None.ensures.unchanged)
