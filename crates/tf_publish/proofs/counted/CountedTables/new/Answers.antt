use Rattle.std.proofs.Common.{sym, subst}
use Rattle.tf_manifest.specs.View.{View}
use Rattle.tf_rows.specs.Counts.{IsCounted}
use Rattle.tf_publish.proofs.Bounds.{none_counted}
use Rattle.tf_publish.proofs.counted.CountedTables.new.Goals as goal

pub invariant_of-result : goal.invariant_of-result
invariant_of-result g c = subst (λ (v : View). IsCounted (record { tables = v; sealed = 0; held = 0 })) (sym c.in_ok-new.ensures.none) (none_counted c.args.registries.now.limit)
