use Rattle.std.proofs.Common.{◌≡◌, length, get_or, arith, ap, sym, ◌∙◌, subst}
use Rattle.std.specs.Ordering.{is_eq}
use Rattle.tf_table.specs.Content.{entry_at}
use Rattle.tf_table.proofs.Found.{entry_at-there}
use Rattle.tf_table.proofs.Keys.{exact_keys}
use Rattle.tf_table.proofs.Rising.{equal_from}
use Rattle.tf_table.proofs.sealed.Sealed.entry_near.Goals as goal

pub returns-then-is_eq : goal.returns-then-is_eq
returns-then-is_eq g c =
    let t = c.self.inside in
    let keys = t.keys.items in
    let same : c.args.key.now ≡ c.index.result.now = exact_keys c.args.key.now c.index.result.now (equal_from _ (sym (ap is_eq c.cmp.ensures) ∙ sym c.is_eq.ensures ∙ c.if-is_eq.true)) in
    sym (entry_at-there t.least t.greatest keys t.entries c.self.invariant.laid c.args.key.now c.args.place c.entry.result.now (omega arith)
    (subst (λ k. k ≡ get_or keys c.args.place k) (sym same) c.index.ensures) (c.entry.ensures (length keys) _ (omega arith)))
    ∙ ap (entry_at c.args.key.now) c.self.view_is
