use Rattle.std.proofs.Common.{◌≡◌, ℕ, take, not, ◌&&◌, ◌||◌}
use Rattle.std.specs.Prelude.{is_some, IfSome}
use Rattle.std.specs.List.{list_all}
use Rattle.tf_query.specs.Conditions.{asks_nothing, is_left, meets_all}
use Rattle.tf_query.proofs.scans.narrowed.Given as goal

abbrev pub invariant-loop-condition : goal.invariant-loop-condition
invariant-loop-condition g l = record {
  direction : IfSome l.left (λ s. s.direction ≡ l.window.direction);
  some : is_some l.left ≡ (is_some l.initial.left || not (list_all asks_nothing (take l.condition-index l.conditions)));
  members : (t : ℕ) → is_left t l.left ≡ (is_left t l.initial.left && meets_all l.manifest (take l.condition-index l.conditions) t);
}
