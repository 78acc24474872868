use Rattle.std.proofs.Common.{◌≡◌, ◌+◌, ◌-◌, length, take, drop, arith, ap, sym, ◌∙◌}
use Rattle.std.proofs.lemmas.List.{drop-take, drop-drop, length-take-le, length-drop}
use Rattle.tf_table.proofs.cursor.Cursor.pass.Goals as goal

pub returns : goal.returns
returns g c =
    let t = c.self.inside in
    let rows = t.table.now in
    let count = c.args.count in
    let rest = t.to - (t.from + count) in
    let long : length (take (t.to - t.from) (drop t.from rows)) ≡ t.to - t.from = length-take-le (t.to - t.from) (drop t.from rows) (omega (arith, length-drop t.from rows, c.self.invariant.0, c.self.invariant.1)) in
    let split : count + rest ≡ t.to - t.from = omega (arith, long, ap length c.self.view_is, c.requires) in
    ap (take rest) (sym (drop-drop count t.from rows))
    ∙ sym (drop-take count rest (drop t.from rows))
    ∙ ap (λ n. drop count (take n (drop t.from rows))) split
    ∙ ap (drop count) c.self.view_is
