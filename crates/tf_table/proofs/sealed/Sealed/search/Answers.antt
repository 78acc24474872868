use Rattle.std.proofs.Common.{◌≡◌, ◌-◌, length, get_or, None, arith, ap, sym, ◌∙◌, subst}
use Rattle.tf_table.specs.Entries.{entries_of}
use Rattle.tf_table.specs.Rows.{rows_of}
use Rattle.tf_table.specs.Content.{entry_at}
use Rattle.tf_table.proofs.Found.{dense_found, dense_within, entry_at-under, entry_at-over}
use Rattle.tf_table.proofs.sealed.Sealed.search.Goals as goal
use Rattle.tf_table.proofs.sealed.Sealed.search.Goals.{then-is_below-via-then-is_below, then-is_below-via-else-is_below+then-is_below-2}

pub returns-then-is_below : goal.returns-then-is_below
returns-then-is_below g c =
    let t = c.self.inside in
    let none : entry_at c.args.key.now (rows_of t.keys.items t.entries) ≡ None = elim c.then-is_below.branch [
      | then-is_below-via-then-is_below w ↦ entry_at-under t.least t.greatest t.keys.items t.entries c.self.invariant.laid c.args.key.now (sym c.is_below.ensures ∙ w.if-is_below.true)
      | then-is_below-via-else-is_below+then-is_below-2 w ↦ entry_at-over t.least t.greatest t.keys.items t.entries c.self.invariant.laid c.args.key.now (sym w.is_below-else-is_below.ensures ∙ w.if-is_below-2.true)
    ] in
    sym none ∙ ap (entry_at c.args.key.now) c.self.view_is

pub returns-then-are_dense : goal.returns-then-are_dense
returns-then-are_dense g c =
    let t = c.self.inside in
    let keys = t.keys.items in
    let dense = c.are_dense.ensures c.if-are_dense.true in
    let from = sym c.is_below.ensures ∙ c.if-is_below.false in
    let upto = sym c.is_below-else-is_below.ensures ∙ c.if-is_below-2.false in
    let place : c.saturating_sub-place.result ≡ c.args.key.now.timestamp - t.least.timestamp = c.saturating_sub-place.ensures in
    let within = dense_within t.least t.greatest keys t.entries c.self.invariant.laid (omega (arith, dense.0)) dense.1 (omega (arith, dense.2)) c.args.key.now from upto in
    let entry = c.entry.ensures (length keys) c.entry.result.now (omega arith) in
    sym (dense_found t.least t.greatest keys t.entries c.self.invariant.laid (omega (arith, dense.0)) dense.1 (omega (arith, dense.2)) c.args.key.now from upto c.entry.result.now
    (subst (λ p. get_or (entries_of (length keys) t.entries) p c.entry.result.now ≡ c.entry.result.now) place entry))
    ∙ ap (entry_at c.args.key.now) c.self.view_is
