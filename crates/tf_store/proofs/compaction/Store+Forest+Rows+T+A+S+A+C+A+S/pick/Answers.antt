use Rattle.std.proofs.Common.{◌≡◌, ℕ, ◌<◌, subst, IfOk, IfSome, IfNone, IsSome}
use Rattle.tf_registry.specs.Run.{count_at}
use Rattle.tf_manifest.specs.Jobs.{IsPickedFrom}
use Rattle.tf_manifest.specs.Kinds.{kind_of}
use Rattle.tf_manifest.specs.View.{references_in, tables_by}
use Rattle.tf_store.specs.Store.{View}
use Rattle.tf_store.proofs.compaction.Store+Forest+Rows+T+A+S+A+C+A+S.pick.Goals as goal

pub returns-clause-some : goal.returns-clause-some
returns-clause-some g c =
    subst (λ (v : View). IfOk c.pick.result (λ found. IfSome found (IsPickedFrom v.forest.sealed.tables c.args.row))) c.self.view_is c.pick.ensures.some

pub returns-clause-none : goal.returns-clause-none
returns-clause-none g c =
    subst (λ (v : View). IfOk c.pick.result (λ found. IfNone found ((level : ℕ) → count_at level (tables_by v.forest.sealed.tables (kind_of c.args.row)) < 4)))
    c.self.view_is c.pick.ensures.none

pub returns-clause-full : goal.returns-clause-full
returns-clause-full g c =
    subst (λ (v : View). references_in v.forest.sealed.tables c.args.row ≡ 64 → IfOk c.pick.result IsSome) c.self.view_is c.pick.ensures.full
