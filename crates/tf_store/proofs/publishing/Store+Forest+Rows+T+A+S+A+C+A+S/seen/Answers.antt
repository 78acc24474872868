use Rattle.std.proofs.Common.{◌≡◌, IfOk, subst}
use Rattle.tf_store.specs.Store.{View}
use Rattle.tf_store.proofs.publishing.Store+Forest+Rows+T+A+S+A+C+A+S.seen.Goals as goal

pub returns-clause-version : goal.returns-clause-version
returns-clause-version g c = subst (λ (v : View). IfOk c.version.result (λ version. version ≡ v.readable)) c.self.view_is c.version.ensures.version

pub returns-clause-refusal : goal.returns-clause-refusal
returns-clause-refusal g c = c.version.ensures.refusal
