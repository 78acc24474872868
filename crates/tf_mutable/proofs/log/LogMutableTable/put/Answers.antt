use Rattle.std.proofs.Common.{◌≡◌, [], ◌∷◌, ◌++◌, List, Option, None, true, ap, sym, ◌∙◌, subst}
use Rattle.tf_sorted.specs.Rows.{IsRising, with_row}
use Rattle.tf_table.specs.declared.key.Key.{Key}
use Rattle.tf_table.specs.Key.{key_cmp}
use Rattle.tf_table.specs.Content.{entry_at}
use Rattle.tf_mutable.specs.Mutable.{in_order, IsLogged}
use Rattle.tf_table.proofs.Keys.{keys_total, exact_keys}
use Rattle.std.proofs.lemmas.Bool.{false≢true}
use Rattle.tf_mutable.proofs.Logged.{value_at-in_order, once-push, in_order-push, some_pushed}
use Rattle.tf_mutable.proofs.log.LogMutableTable.put.Goals as goal
use Rattle.tf_mutable.proofs.log.LogMutableTable.put.Goals.{then-self, else-self}

pub invariant_of-self : goal.invariant_of-self
invariant_of-self g c =
    let rows = c.self.inside.rows.items in
    let absent : entry_at c.args.key rows ≡ None = sym (value_at-in_order key_cmp keys_total exact_keys c.args.key rows) ∙ ap (entry_at c.args.key) c.self.view_is ∙ c.requires in
    let pushed = rows ++ (c.args.key, c.args.entry) ∷ [] in
    let rises : c.if-self.rises ≡ true → IsRising key_cmp pushed = elim c.if-self.branch [
      | then-self w ↦ λ t. subst (λ (rs : List (Key × Option g.row.V.Denot)). IsRising key_cmp (rs ++ (c.args.key, c.args.entry) ∷ [])) w.deref.ensures.value (w.ends_below-rises.ensures c.args.entry (sym w.rises-is ∙ t))
      | else-self w ↦ λ t. absurd (false≢true (sym w.if-self.false ∙ sym w.rises-is ∙ t))
    ] in
    subst (IsLogged c.if-self.rises) (sym c.in-Ok.ensures.items) (record {
      once = once-push key_cmp keys_total exact_keys rows c.args.key c.args.entry absent c.self.invariant.once;
      rising = rises;
      none = λ e. absurd (some_pushed rows (c.args.key, c.args.entry) e);
    })

pub returns-in-Ok-clause-rows : goal.returns-in-Ok-clause-rows
returns-in-Ok-clause-rows g c =
    let rows = c.self.inside.rows.items in
    let absent : entry_at c.args.key rows ≡ None = sym (value_at-in_order key_cmp keys_total exact_keys c.args.key rows) ∙ ap (entry_at c.args.key) c.self.view_is ∙ c.requires in
    ap in_order c.in-Ok.ensures.items ∙ in_order-push key_cmp keys_total exact_keys rows c.args.key c.args.entry absent ∙ ap (with_row key_cmp c.args.key c.args.entry) c.self.view_is
