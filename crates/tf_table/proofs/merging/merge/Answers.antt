use Rattle.std.proofs.Common.{◌≤◌, length, Result, Ok, Err, IfOk, rules, ap, ◌∙◌, subst, sym}
use Rattle.tf_table.specs.Key.{key_cmp}
use Rattle.tf_table.specs.Content.{entry_of, kept}
use Rattle.tf_table.specs.Merge.{IsMerged}
use Rattle.tf_table.proofs.Keys.{keys_total, exact_keys}
use Rattle.tf_table.proofs.Determined.{is_combined, is_content}
use Rattle.tf_table.proofs.Merged.{rows_left-sum, rows_left-tables}
use Rattle.tf_table.proofs.Walks.{lists_of}
use Rattle.tf_table.proofs.merging.merge.Goals as goal

-- what a good result meets, in other words
in_ok : {X E : Type 0} (P Q : X → Type 0) (r : Result X E) → ((x : X) → P x → Q x) → IfOk r P → IfOk r Q
in_ok P Q (Ok x) f h = f x h
in_ok P Q (Err e) f h = tt

pub returns-clause-above : goal.returns-clause-above
returns-clause-above g c = λ not_bottom.
    let lists = lists_of c.args.tables.now in
    let all : IfOk c.map_err.result (λ rows. IsMerged c.args.bottom lists rows) = search rules in
    in_ok (λ rows. IsMerged c.args.bottom lists rows) _ c.map_err.result
    (λ rows m. is_combined key_cmp keys_total exact_keys lists rows m.rising (λ key. m.entries key ∙ ap (λ b. kept b (entry_of key lists)) not_bottom)) all

pub returns-clause-content : goal.returns-clause-content
returns-clause-content g c = λ at_bottom.
    let lists = lists_of c.args.tables.now in
    let all : IfOk c.map_err.result (λ rows. IsMerged c.args.bottom lists rows) = search rules in
    in_ok (λ rows. IsMerged c.args.bottom lists rows) _ c.map_err.result
    (λ rows m. is_content key_cmp keys_total exact_keys lists rows m.rising (λ key. m.entries key ∙ ap (λ b. kept b (entry_of key lists)) at_bottom)) all

pub returns-clause-length : goal.returns-clause-length
returns-clause-length g c =
    let lists = lists_of c.args.tables.now in
    let all : IfOk c.map_err.result (λ rows. IsMerged c.args.bottom lists rows) = search rules in
    in_ok (λ rows. IsMerged c.args.bottom lists rows) _ c.map_err.result
    (λ rows m. subst (λ n. length rows ≤ n) (sym (rows_left-sum lists) ∙ rows_left-tables c.args.tables.now) m.within) all
