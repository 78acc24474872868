use Rattle.std.specs.Prelude.{is_some}
use Rattle.tf_registry.specs.Row.{content_at}
use Rattle.tf_manifest.specs.Rows.{key_of}
use Rattle.tf_query.proofs.filters.object_timestamps.Goals as goal

pub returns-clause-ok : goal.returns-clause-ok
returns-clause-ok g c =
    c.timestamps_unless_refused.ensures.ok (λ t. is_some (content_at (key_of 0 t) c.args.objects.now)) c.object_scan-scan.ensures.direction c.object_scan-scan.ensures.members
