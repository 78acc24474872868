use Rattle.std.proofs.Common.{[], ◌∷◌, ◌++◌, length, arith, ap, ◌∙◌}
use Rattle.tf_table.specs.Rows.{Drafted}
use Rattle.tf_table.proofs.LaidOut.{length-rows_of, rows_of-more}
use Rattle.tf_table.proofs.draft.Draft.add.Goals as goal

pub add-requires-clause-fits : goal.add-requires-clause-fits
add-requires-clause-fits g c =
    let rows = length-rows_of c.self.inside.keys.items c.self.inside.entries c.self.invariant.0 in
    let len = c.self.inside.keys.ok.0 in
    let seen = ap (λ (d : Drafted g.row.V.Denot). length d.rows) c.self.view_is in
    let room = ap (λ (d : Drafted g.row.V.Denot). d.room) c.self.view_is in
    omega (arith, c.len-rows.ensures, rows, len, seen, room, c.requires)

pub push_reserved-requires : goal.push_reserved-requires
push_reserved-requires g c =
    let rows = length-rows_of c.self.inside.keys.items c.self.inside.entries c.self.invariant.0 in
    let len = c.self.inside.keys.ok.0 in
    let seen = ap (λ (d : Drafted g.row.V.Denot). length d.rows) c.self.view_is in
    let room = ap (λ (d : Drafted g.row.V.Denot). d.room) c.self.view_is in
    omega (arith, c.self.invariant.1.0, rows, len, seen, room, c.requires)

pub returns-clause-rows : goal.returns-clause-rows
returns-clause-rows g c =
    rows_of-more c.self.inside.keys.items c.push_reserved.new.self.items c.self.inside.entries c.add.new.self c.len-rows.result c.args.key.now c.args.entry.now (omega (arith, c.len-rows.ensures, c.self.inside.keys.ok.0)) c.self.invariant.0 c.push_reserved.ensures.items c.in_ok-add.ensures.rows
    ∙ ap (λ (d : Drafted g.row.V.Denot). d.rows ++ (c.args.key.now, c.args.entry.now) ∷ []) c.self.view_is
