use Rattle.std.proofs.Common.{◌≡◌, ◌<◌, ◌∙◌, ℕ, ap, subst}
use Rattle.std.specs.Prelude.{IfNone, IfOk, IsSome}
use Rattle.tf_manifest.specs.Kinds.{kind_of}
use Rattle.tf_registry.specs.Run.{count_at}
use Rattle.tf_manifest.specs.View.{View as Tables, references_in, tables_by}
use Rattle.tf_forest.specs.Forest.{View}
use Rattle.tf_forest.proofs.compaction.Forest+Rows+F+A+N+A.pick.Goals as goal

pub returns-clause-none : goal.returns-clause-none
returns-clause-none g c =
    subst (λ (tables : Tables). IfOk c.pick.result (λ found. IfNone found ((level : ℕ) → count_at level (tables_by tables (kind_of c.args.row)) < 4)))
    (c.manifest.ensures ∙ ap (λ (view : View). view.sealed.tables) c.self.view_is) c.pick.ensures.none

pub returns-clause-full : goal.returns-clause-full
returns-clause-full g c =
    subst (λ (tables : Tables). references_in tables c.args.row ≡ 64 → IfOk c.pick.result IsSome)
    (c.manifest.ensures ∙ ap (λ (view : View). view.sealed.tables) c.self.view_is) c.pick.ensures.full
