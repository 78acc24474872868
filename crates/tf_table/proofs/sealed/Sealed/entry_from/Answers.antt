use Rattle.std.proofs.Common.{◌≡◌, length, get_or, None, true, false, arith, ap, sym, ◌∙◌, subst}
use Rattle.std.specs.Ordering.{is_lt, is_eq}
use Rattle.tf_table.specs.Key.{key_cmp}
use Rattle.tf_table.specs.Rows.{rows_of}
use Rattle.tf_table.specs.Content.{entry_at}
use Rattle.tf_table.proofs.Found.{laid_before, entry_at-found, entry_at-missing, entry_at-end}
use Rattle.tf_table.proofs.sealed.Sealed.entry_from.Goals as goal
use Rattle.tf_table.proofs.sealed.Sealed.entry_from.Goals.{else-place-len-via-then-place-len+else-is_eq, else-place-len-via-else-place-len}

pub returns-then-is_eq : goal.returns-then-is_eq
returns-then-is_eq g c =
    let t = c.self.inside in
    let keys = t.keys.items in
    let p = c.count_below-place.result in
    let before = laid_before t.least t.greatest keys t.entries c.self.invariant.laid c.args.key.now p (omega arith) (λ q d e. subst (λ ks. is_lt (key_cmp (get_or ks q d) c.args.key.now) ≡ true) c.deref.ensures.value (c.count_below-place.ensures.before q d e)) in
    sym (entry_at-found t.least t.greatest keys t.entries c.self.invariant.laid c.args.key.now p c.index.result.now c.entry.result.now before (omega arith) c.index.ensures
    (sym (ap is_eq c.cmp.ensures) ∙ sym c.is_eq.ensures ∙ c.if-is_eq.true) (c.entry.ensures (length keys) _ (omega arith)))
    ∙ ap (entry_at c.args.key.now) c.self.view_is

pub returns : goal.returns
returns g c =
    let t = c.self.inside in
    let keys = t.keys.items in
    let p = c.count_below-place.result in
    let before = laid_before t.least t.greatest keys t.entries c.self.invariant.laid c.args.key.now p (omega arith) (λ q d e. subst (λ ks. is_lt (key_cmp (get_or ks q d) c.args.key.now) ≡ true) c.deref.ensures.value (c.count_below-place.ensures.before q d e)) in
    let none : entry_at c.args.key.now (rows_of keys t.entries) ≡ None = elim c.else-place-len.branch [
      | else-place-len-via-then-place-len+else-is_eq w ↦ entry_at-missing t.least t.greatest keys t.entries c.self.invariant.laid c.args.key.now p w.index.result.now before (omega arith) w.index.ensures
          (ap (λ k. is_lt (key_cmp k c.args.key.now)) w.index.ensures ∙ subst (λ ks. is_lt (key_cmp (get_or ks p w.index.result.now) c.args.key.now) ≡ false) c.deref.ensures.value (c.count_below-place.ensures.after w.index.result.now (omega arith)))
          (sym (ap is_eq w.cmp.ensures) ∙ sym w.is_eq.ensures ∙ w.if-is_eq.false)
      | else-place-len-via-else-place-len w ↦ entry_at-end t.least t.greatest keys t.entries c.self.invariant.laid c.args.key.now p before (omega arith)
    ] in
    sym none ∙ ap (entry_at c.args.key.now) c.self.view_is
