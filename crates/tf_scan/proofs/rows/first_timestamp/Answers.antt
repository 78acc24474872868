use Rattle.std.proofs.Common.{◌∙◌, ap, sym}
use Rattle.std.specs.Prelude.{map}
use Rattle.tf_table.specs.declared.key.Key.{Key}
use Rattle.tf_scan.specs.Place.{first_in}
use Rattle.tf_scan.proofs.Taking.{first-empty, time-taken, times-runs}
use Rattle.tf_scan.proofs.rows.first_timestamp.Goals as goal

pub returns-in-Some : goal.returns-in-Some
returns-in-Some g c =
    let d = c.args.direction in
    sym (ap (first_in d) (times-runs c.runs.result.0.now c.runs.result.1 c.args.rows.now c.runs.ensures.rows)
    ∙ time-taken (λ (key : Key). key.timestamp) d c.in-Some.key.now c.runs.result.0.now c.in-Some._others.now c.in-Some.ensures)

pub returns-in-None : goal.returns-in-None
returns-in-None g c =
    let d = c.args.direction in
    sym (ap (first_in d) (times-runs c.runs.result.0.now c.runs.result.1 c.args.rows.now c.runs.ensures.rows)
    ∙ ap (λ keys. first_in d (map (λ (key : Key). key.timestamp) keys)) c.in-None.ensures
    ∙ first-empty d)
