use Rattle.std.proofs.Common.{◌≡◌, ◌∙◌, ◌++◌, ◌∷◌, [], List, Option, Some, slice_get, get_or, length, take, sym, ap, arith}
use Rattle.std.proofs.lemmas.List.{length-map, length-take-le, take_more, take_all}
use Rattle.std.proofs.lemmas.Option.{get_or_from_slice_get}
use Rattle.tf_table.specs.declared.key.Key.{Key}
use Rattle.tf_registry.specs.Table.{Shown}
use Rattle.tf_registry.specs.Row.{lists_of}
use Rattle.tf_look_ups.proofs.gapped.gapped.Goals as goal

pub push_reserved-requires : goal.push_reserved-requires
push_reserved-requires g c =
    let shown = c.args.references.now in
    let lists = lists_of shown in
    let long : length lists ≡ length c.args.references.now = length-map shown (λ (t : Shown g.row.V.Denot). t.table.rows) in
    let many = length-take-le c.loop-place.place lists (omega (arith, long)) in
    omega (arith, many, ap length c.loop-place.invariant.items, c.loop-place.invariant.room)

pub loop-place-preserved : goal.loop-place-preserved
loop-place-preserved g c =
    let rows : List (Key × Option g.row.V.Denot) = c.of.result in
    let i = c.loop-place.place in
    let shown = c.args.references.now in
    let lists = lists_of shown in
    let long : length lists ≡ length c.args.references.now = length-map shown (λ (t : Shown g.row.V.Denot). t.table.rows) in
    let there : slice_get lists i ≡ Some rows = c.table_at.ensures ∙ ap Some (sym c.of.ensures) in
    let one : get_or lists i rows ≡ rows = get_or_from_slice_get lists i rows rows there in
    record {
      items = c.push_reserved.ensures.items
          ∙ ap (λ (ls : List (List (Key × Option g.row.V.Denot))). ls ++ rows ∷ []) c.loop-place.invariant.items
          ∙ ap (λ (rs : List (Key × Option g.row.V.Denot)). take i lists ++ rs ∷ []) (sym one)
          ∙ sym (take_more lists i rows (omega (arith, long)));
      room = c.push_reserved.ensures.capacity ∙ c.loop-place.invariant.room;
    }

pub returns-clause-ok : goal.returns-clause-ok
returns-clause-ok g c =
    let shown = c.args.references.now in
    let lists = lists_of shown in
    let long : length lists ≡ length c.args.references.now = length-map shown (λ (t : Shown g.row.V.Denot). t.table.rows) in
    c.loop-place.invariant.items ∙ take_all c.loop-place.place lists (omega (arith, long))
