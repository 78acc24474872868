use Rattle.std.proofs.Common.{◌≡◌, ◌<◌, List, length, get_or, Option, None, arith, ap, sym, ◌∙◌, subst}
use Rattle.std.proofs.lemmas.Option.{slice_get_past, slice_get-get_or}
use Rattle.tf_table.specs.declared.key.Key.{Key}
use Rattle.tf_table.specs.Rows.{rows_of}
use Rattle.tf_table.proofs.LaidOut.{length-rows_of, key_there}
use Rattle.tf_table.proofs.sealed.Sealed.front_at.Goals as goal

pub invariant_of-result : goal.invariant_of-result
invariant_of-result g c =
    let keys = c.self.inside.keys.items in
    let es = c.self.inside.entries in
    let d : Key × Option g.row.V.Denot = (c.index.result.now, None) in
    let rows = length-rows_of keys es c.self.invariant.laid.paired in
    let within : c.args.place < length (rows_of keys es) = omega arith in
    let there : (get_or (rows_of keys es) c.args.place d).0 ≡ c.index.result.now = key_there keys es c.args.place d c.self.invariant.laid.paired (omega arith) ∙ sym c.index.ensures in
    subst (λ (rs : List (Key × Option g.row.V.Denot)). (c.args.place < length rs) × ((get_or rs c.args.place d).0 ≡ c.index.result.now)) c.self.view_is (within, there)

pub returns-then-place-len-clause-value : goal.returns-then-place-len-clause-value
returns-then-place-len-clause-value g c =
    let d : Key × Option g.row.V.Denot = (c.index.result.now, None) in
    let rows = length-rows_of c.self.inside.keys.items c.self.inside.entries c.self.invariant.laid.paired in
    let seen = ap length c.self.view_is in
    sym (slice_get-get_or c.args.self.now c.args.place d (omega arith))

pub returns-else-place-len-clause-value : goal.returns-else-place-len-clause-value
returns-else-place-len-clause-value g c =
    let rows = length-rows_of c.self.inside.keys.items c.self.inside.entries c.self.invariant.laid.paired in
    let seen = ap length c.self.view_is in
    sym (slice_get_past c.args.self.now c.args.place (omega arith))
