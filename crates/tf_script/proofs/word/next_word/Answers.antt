use Rattle.std.proofs.Common.{arith}
use Rattle.std.proofs.lemmas.Bool.Decides.{nat_tests}
use Rattle.tf_script.proofs.WordLemmas.{words_from-first, words_from-none, word_length}
use Rattle.tf_script.proofs.word.next_word.Goals as goal

pub returns-then-is_empty-clause-words : goal.returns-then-is_empty-clause-words
returns-then-is_empty-clause-words c =
    words_from-none _ _ _ _ c.leading_spaces-spaces.ensures.count c.split_at.ensures.back (grind (arith, nat_tests))

pub returns-clause-words : goal.returns-clause-words
returns-clause-words c =
    words_from-first _ _ _ _ _ _ _ c.leading_spaces-spaces.ensures.count c.split_at.ensures.back (grind (arith, nat_tests)) c.length_before-count.ensures.count c.split_at-2.ensures.front c.split_at-2.ensures.back

pub returns-clause-shorter : goal.returns-clause-shorter
returns-clause-shorter c =
    let long = word_length _ _ _ c.leading_spaces-spaces.ensures.count c.split_at.ensures.back (grind (arith, nat_tests)) in
    omega (arith, long, c.length_before-count.ensures.count, c.split_at.ensures.back_len, c.split_at-2.ensures.back_len)
