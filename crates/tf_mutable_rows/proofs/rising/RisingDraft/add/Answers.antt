use Rattle.std.proofs.Common.{◌≡◌, true, ap, subst, sym, ◌∙◌}
use Rattle.tf_sorted.specs.Rows.{IsRising}
use Rattle.tf_table.specs.Key.{key_cmp}
use Rattle.tf_mutable_rows.specs.Rising.{is_above, last_key}
use Rattle.tf_mutable_rows.proofs.Gathered.{last_key-push, rising-push}
use Rattle.tf_mutable_rows.proofs.rising.RisingDraft.add.Goals as goal

pub invariant_of-self-2 : goal.invariant_of-self-2
invariant_of-self-2 g c =
    let rows = c.self.inside.draft.rows in
    let key = c.args.key.now in
    let put = c.in_ok-add.ensures.rows in
    let above : is_above key (last_key rows) ≡ true = ap (is_above key) (sym c.self.invariant.1) ∙ sym c.is_behind.ensures ∙ c.if-not-is_behind.false in
    (subst (IsRising key_cmp) (sym put) (rising-push rows key c.args.entry.now c.self.invariant.0 above), sym (ap last_key put ∙ last_key-push rows (key, c.args.entry.now)))
