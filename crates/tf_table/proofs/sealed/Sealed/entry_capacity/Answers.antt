use Rattle.std.proofs.Common.{length, arith, ap, sym, subst}
use Rattle.tf_table.specs.Content.{AreTombstones, HaveOneEntry}
use Rattle.tf_table.specs.Entries.{entries_of, HaveNoValue, IsStored}
use Rattle.tf_table.proofs.LaidOut.{length-rows_of}
use Rattle.tf_table.proofs.Stored.{one_of_same, none_of_rows}
use Rattle.tf_table.proofs.sealed.Sealed.entry_capacity.Goals as goal

pub returns-in-Same-clause-fewer : goal.returns-in-Same-clause-fewer
returns-in-Same-clause-fewer g c = λ less.
    let t = c.self.inside in
    let rows = length-rows_of t.keys.items t.entries c.self.invariant.laid.paired in
    let seen = ap length c.self.view_is in
    (omega arith, subst HaveOneEntry c.self.view_is (one_of_same t.keys.items t.entries c.in-Same.field-0 c.in-Same.is c.self.invariant.laid.paired))

pub returns-in-Each-clause-within : goal.returns-in-Each-clause-within
returns-in-Each-clause-within g c =
    let t = c.self.inside in
    let stored = subst (IsStored (length t.keys.items)) c.in-Each.is c.self.invariant.fitted.1 in
    let rows = length-rows_of t.keys.items t.entries c.self.invariant.laid.paired in
    let seen = ap length c.self.view_is in
    omega (arith, stored.0, c.capacity.ensures)

pub returns-in-Each-clause-fewer : goal.returns-in-Each-clause-fewer
returns-in-Each-clause-fewer g c = λ less.
    let t = c.self.inside in
    let stored = subst (IsStored (length t.keys.items)) c.in-Each.is c.self.invariant.fitted.1 in
    let rows = length-rows_of t.keys.items t.entries c.self.invariant.laid.paired in
    let seen = ap length c.self.view_is in
    absurd (omega (arith, stored.0, c.capacity.ensures))

pub returns-in-Each-clause-tombstones : goal.returns-in-Each-clause-tombstones
returns-in-Each-clause-tombstones g c = λ tombstones.
    let t = c.self.inside in
    let rows = subst AreTombstones (sym c.self.view_is) tombstones in
    let none = none_of_rows t.keys.items t.entries c.self.invariant.laid.paired rows in
    let stored = subst (IsStored (length t.keys.items)) c.in-Each.is c.self.invariant.fitted.1 in
    absurd (stored.1 (subst (λ es. HaveNoValue (entries_of (length t.keys.items) es)) c.in-Each.is none))
