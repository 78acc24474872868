use Rattle.std.proofs.Common.{rules, Result, Ok, Err, OnOk, Option, None, true, refl, sym, ◌∙◌}
use Rattle.std.specs.List.Sorted.{IsSortedBy, IsStableBy}
use Rattle.std.proofs.lemmas.List.Sorted.{ranks_by, answers_always}
use Rattle.tf_table.specs.declared.key.Key.{Key}
use Rattle.tf_table.specs.Key.{key_cmp}
use Rattle.tf_mutable.specs.Mutable.{in_order, IsLogged}
use Rattle.tf_table.proofs.Keys.{keys_total, exact_keys}
use Rattle.tf_mutable.proofs.Logged.{in_order-is, rising-in_order, value_at-in_order, same_values}
use Rattle.tf_mutable.proofs.Sorting.{is_below, of_key-stable, once-stable, rising-sorted}
use Rattle.tf_mutable.proofs.log.sort_by_key.Goals as goal

on_ok : {X E : Type 0} (P Q : Type 0) (r : Result X E) → (P → Q) → OnOk r P → OnOk r Q
on_ok P Q (Ok x) f p = f p
on_ok P Q (Err e) f p = tt

pub returns-clause-sorted : goal.returns-clause-sorted
returns-clause-sorted g c =
    let old = c.args.rows.now.items in
    let new = c.sort_by.new.self.items in
    let test = is_below {E = Option g.row.V.Denot} key_cmp keys_total exact_keys in
    let order = ranks_by keys_total (λ (r : Key × Option g.row.V.Denot). r.0) in
    let stable : IsStableBy test old new = c.sort_by.ensures.stable test order (answers_always _ _ _ (λ f a r f' called. search rules)) in
    on_ok _ (IsLogged true new) c.sort_by.result (λ sorts.
    let sorted : IsSortedBy test new = sorts test order (answers_always _ _ _ (λ f a r f' called. search rules)) in
    let once = once-stable key_cmp keys_total exact_keys old new None stable c.requires.once in
    record {
      once = once;
      rising = λ _. rising-sorted key_cmp keys_total exact_keys new sorted once;
      none = λ _. refl;
    }) c.sort_by.ensures.sorted

pub returns-clause-same : goal.returns-clause-same
returns-clause-same g c =
    let old = c.args.rows.now.items in
    let new = c.sort_by.new.self.items in
    let test = is_below {E = Option g.row.V.Denot} key_cmp keys_total exact_keys in
    let order = ranks_by keys_total (λ (r : Key × Option g.row.V.Denot). r.0) in
    let stable : IsStableBy test old new = c.sort_by.ensures.stable test order (answers_always _ _ _ (λ f a r f' called. search rules)) in
    in_order-is key_cmp keys_total exact_keys new (in_order old) (rising-in_order key_cmp keys_total exact_keys old)
    (λ key. value_at-in_order key_cmp keys_total exact_keys key old ∙ sym (same_values key_cmp keys_total exact_keys new old key (of_key-stable key_cmp keys_total exact_keys old new None stable key)))
