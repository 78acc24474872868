use Rattle.std.proofs.Common.{◌≡◌, Some, ap, sym, ◌∙◌, subst}
use Rattle.std.specs.List.{slice_get}
use Rattle.std.specs.Option.{option_map}
use Rattle.tf_table.specs.Key.{key_cmp}
use Rattle.tf_table.specs.Content.{entry_at}
use Rattle.tf_table.proofs.Keys.{keys_total, exact_keys}
use Rattle.tf_mutable.proofs.Logged.{value_at-found, value_at-in_order}
use Rattle.tf_mutable.proofs.log.LogMutableTable.find.Goals as goal

pub returns-in-Some : goal.returns-in-Some
returns-in-Some g c =
    let rows = c.self.inside.rows.items in
    let key = c.args.key.now in
    let place = c.in-Some.place in
    let found : option_map (λ r. r.0) (slice_get rows place) ≡ Some key = subst (λ rs. option_map (λ r. r.0) (slice_get rs place) ≡ Some key) c.deref.ensures.value c.in-Some.ensures.found in
    ap Some c.as_ref.ensures.value ∙ sym (value_at-found key_cmp keys_total exact_keys rows place key c.index.result.now found c.index.ensures c.self.invariant.once)
    ∙ sym (value_at-in_order key_cmp keys_total exact_keys key rows) ∙ ap (entry_at key) c.self.view_is

pub returns-in-None : goal.returns-in-None
returns-in-None g c =
    let rows = c.self.inside.rows.items in
    let key = c.args.key.now in
    sym (sym (ap (entry_at key) c.deref.ensures.value) ∙ c.in-None.ensures.missing) ∙ sym (value_at-in_order key_cmp keys_total exact_keys key rows) ∙ ap (entry_at key) c.self.view_is
