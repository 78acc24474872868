use Rattle.std.proofs.Common.{ap, arith}
use Rattle.tf_manifest.specs.View.{View, references_in}
use Rattle.tf_publish.proofs.Tables.{place_left}
use Rattle.tf_publish.proofs.pushing.make_room.Goals as goal

pub returns-then-references-lt64-clause-place : goal.returns-then-references-lt64-clause-place
returns-then-references-lt64-clause-place g c =
    let is = c.references.ensures.value in
    let few = c.if-references-lt64.true in
    let same = ap (λ (v : View). references_in v c.args.row) c.manifest-manifest.ensures in
    place_left c.args.row c.args.next.now (omega (arith, is, few, same))
