use Rattle.std.proofs.Common.{◌≡◌, ◌∙◌, arith, ap, length, sym, subst}
use Rattle.tf_table.specs.Content.{AreDated}
use Rattle.tf_table.specs.Entries.{entries_of}
use Rattle.tf_table.specs.Rows.{rows_of}
use Rattle.tf_table.proofs.Found.{dated_there}
use Rattle.tf_table.proofs.sealed.Sealed.dated_entries.Goals as goal

pub returns-in-Each : goal.returns-in-Each
returns-in-Each g c =
    let t = c.self.inside in
    let keys = t.keys.items in
    let dense = c.are_dense.ensures c.if-not-are_dense.false in
    subst (λ rows. AreDated t.least.timestamp c.as_slice.result.now rows) c.self.view_is
    (subst (λ es. AreDated t.least.timestamp es (rows_of keys t.entries)) entries
    (λ time early late.
    dated_there t.least t.greatest keys t.entries c.self.invariant.laid (omega (arith, dense.0)) dense.1 (omega (arith, dense.2)) time early (omega (arith, late, paired))))
  where
    paired : length (entries_of (length c.self.inside.keys.items) c.self.inside.entries) ≡ length c.self.inside.keys.items
    paired = c.self.invariant.laid.paired

    entries : entries_of (length c.self.inside.keys.items) c.self.inside.entries ≡ c.as_slice.result.now
    entries = ap (entries_of (length c.self.inside.keys.items)) c.in-Each.is ∙ sym c.as_slice.ensures.value
