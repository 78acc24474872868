use Rattle.std.proofs.Common.{◌≡◌, ℕ, List, [], ◌∷◌, ◌++◌, Option, arith, take, ap, sym, subst, ◌∙◌}
use Rattle.std.specs.Prelude.{is_some}
use Rattle.std.specs.List.{AllByRecursion}
use Rattle.std.specs.Option.{option_flatten}
use Rattle.std.proofs.lemmas.List.{take_more, take_all}
use Rattle.tf_table.specs.Content.{entry_at, entry_of, first_some}
use Rattle.tf_registry.specs.Row.{lists_of}
use Rattle.tf_manifest.specs.Rows.{key_of}
use Rattle.tf_registry.specs.Table.{Table, Shown}
use Rattle.tf_table.specs.declared.key.Key.{Key}
use Rattle.tf_scan.specs.Place.{rows_left, lists_left, IsPlace}
use Rattle.tf_scan.proofs.Prefixes.{in_order-prefix, among-prefix}
use Rattle.tf_scan.proofs.Across.{each-push, entry_of-push, shown-push}
use Rattle.tf_scan.proofs.prefix.Prefix.expecting.Given as given
use Rattle.tf_scan.proofs.prefix.Prefix.expecting.Goals as goal

pub loop-reference-preserved : goal.loop-reference-preserved
loop-reference-preserved g c =
    let v = c.args.value in
    let items = c.loop-reference.places.items in
    let place = c.new.result in
    let refs = c.references-reference-items.result.now in
    let i = c.loop-reference.reference-index in
    let ref = c.reference-item.result in
    record {
      right = subst (AllByRecursion (IsPlace c.args.direction v)) (sym c.push.ensures.items) (each-push (IsPlace c.args.direction v) items place c.loop-reference.invariant.right (c.new.ensures.right v));
      count = omega (arith, c.push.ensures.len, c.loop-reference.invariant.count);
      same = λ t.
          let key = key_of v t in
          let table = c.table-in-loop-reference.ensures ∙ ap (λ (b : Table g.row.V.Denot). b.rows) c.table.ensures in
          ap (λ ps. entry_of key (lists_left c.args.direction v ps)) c.push.ensures.items
          ∙ entry_of-push c.args.direction v t items place
          ∙ ap (λ x. first_some x (entry_at key (rows_left c.args.direction v place))) (c.loop-reference.invariant.same t)
          ∙ ap (first_some (entry_of key (lists_of (take i refs)))) (c.new.ensures.rows v t ∙ ap (λ (rows : List (Key × Option g.row.V.Denot)). entry_at key rows) table)
          ∙ sym (shown-push key (take i refs) ref)
          ∙ ap (λ q. entry_of key (lists_of (take i refs ++ q ∷ []))) c.reference-item.is
          ∙ ap (λ rs. entry_of key (lists_of rs)) (sym (take_more refs i ref (omega arith)));
    }

-- the places say of each key what the tables say
all : (g : given.Over) (c : goal.After-of-turn g) → (t : ℕ) → entry_of (key_of c.args.value t) (lists_left c.args.direction c.args.value c.loop-reference.places.items) ≡ entry_of (key_of c.args.value t) (lists_of c.args.tables.now)
all g c t =
    let key = key_of c.args.value t in
    let refs = c.references-reference-items.result.now in
    c.loop-reference.invariant.same t
    ∙ ap (λ rs. entry_of key (lists_of rs)) (take_all c.loop-reference.reference-index refs c.loop-reference-test.false)
    ∙ ap (λ (ts : List (Shown g.row.V.Denot)). entry_of key (lists_of ts)) c.references-reference-items.ensures.value

pub returns-clause-in_order : goal.returns-clause-in_order
returns-clause-in_order g c = in_order-prefix c.args.direction c.args.value (lists_left c.args.direction c.args.value c.loop-reference.places.items)

pub returns-clause-members : goal.returns-clause-members
returns-clause-members g c = λ t. among-prefix c.args.direction c.args.value t (lists_left c.args.direction c.args.value c.loop-reference.places.items) ∙ ap (λ x. is_some (option_flatten x)) (all g c t)
