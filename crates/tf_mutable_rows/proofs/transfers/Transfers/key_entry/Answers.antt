use Rattle.std.proofs.Common.{sym, ◌∙◌}
use Rattle.tf_mutable_rows.proofs.Indexes.{key_differs, key_found, key_missing}
use Rattle.tf_mutable_rows.proofs.transfers.Transfers.key_entry.Goals as goal

pub returns-in_default : goal.returns-in_default
returns-in_default g c = key_missing c.self.inside.objects c.args.self.now c.self.view_is c.self.invariant c.args.field c.args.key.now c.time_key-object.result c.time_key-object.ensures c.in_default.ensures

pub returns-then-within-key : goal.returns-then-within-key
returns-then-within-key g c =
    key_found c.self.inside.objects c.args.self.now c.self.view_is c.self.invariant c.args.field c.args.key.now c.time_key-object.result c.time_key-object.ensures
    _ c.in-Some.ensures (sym c.within.ensures ∙ c.if-within-key.true)

pub returns-else-within-key : goal.returns-else-within-key
returns-else-within-key g c =
    key_differs c.self.inside.objects c.args.self.now c.self.view_is c.self.invariant c.args.field c.args.key.now c.time_key-object.result c.time_key-object.ensures
    _ c.in-Some.ensures (λ e. c.if-within-key.false (c.within.ensures ∙ e))
