use Rattle.std.proofs.Common.{sym, ◌∙◌}
use Rattle.tf_table.specs.Key.{key_cmp}
use Rattle.tf_table.specs.Content.{content_of}
use Rattle.tf_table.proofs.Keys.{keys_total, exact_keys}
use Rattle.tf_table.proofs.Determined.{rows_ext, content_rises, content_has}
use Rattle.tf_table.proofs.laws.content_is_a_map.Goals as goal

pub returns-clause-rising : goal.returns-clause-rising
returns-clause-rising g c = λ tables. content_rises key_cmp keys_total exact_keys tables

pub returns-clause-values : goal.returns-clause-values
returns-clause-values g c = λ tables key. content_has key_cmp keys_total exact_keys tables key

pub returns-clause-alone : goal.returns-clause-alone
returns-clause-alone g c = λ tables pairs rising values.
    rows_ext key_cmp keys_total exact_keys pairs (content_of tables) rising (content_rises key_cmp keys_total exact_keys tables)
    (λ key. values key ∙ sym (content_has key_cmp keys_total exact_keys tables key))
