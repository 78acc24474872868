use Rattle.std.proofs.Common.{length, ap, sym, ◌∙◌, subst}
use Rattle.tf_sorted.specs.Rows.{IsRising}
use Rattle.tf_table.specs.Key.{key_cmp}
use Rattle.tf_table.proofs.Keys.{keys_total, exact_keys}
use Rattle.tf_mutable.proofs.Logged.{rising-in_order}
use Rattle.tf_mutable_rows.specs.Hashed.{keyed}
use Rattle.tf_mutable_rows.proofs.Hashing.{counted_in_order, equal_keys, hashed_eq}
use Rattle.tf_mutable_rows.proofs.hashed.HashedMutableTable.len.Goals as goal

pub returns-clause-value : goal.returns-clause-value
returns-clause-value g c = c.len.ensures.len ∙ sym (counted_in_order hashed_eq equal_keys c.self.inside.rows.entries c.len.ensures.unique) ∙ ap length c.self.view_is

pub returns-clause-rising : goal.returns-clause-rising
returns-clause-rising g c = subst (IsRising key_cmp) c.self.view_is (rising-in_order key_cmp keys_total exact_keys (keyed c.self.inside.rows.entries))
