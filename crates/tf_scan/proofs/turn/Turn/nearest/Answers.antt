use Rattle.std.proofs.Common.{◌∙◌, ap, sym}
use Rattle.tf_scan.specs.Place.{nearer}
use Rattle.tf_scan.specs.Turn.{nearest_at}
use Rattle.tf_scan.proofs.Turns.{nearest-parts}
use Rattle.tf_scan.proofs.turn.Turn.nearest.Goals as goal

pub returns : goal.returns
returns g c =
    let d = c.args.direction in
    c.nearer_of.ensures
    ∙ ap (λ n. nearer d n c.args.self.until) c.nearest_of_place.ensures
    ∙ ap (nearer d (nearest_at d c.args.self.place c.args.places.now)) c.requires
    ∙ sym (nearest-parts d c.args.self.place c.args.places.now)
