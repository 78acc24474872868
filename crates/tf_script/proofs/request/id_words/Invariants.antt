use Rattle.std.proofs.Common.{◌≡◌, ℕ, Ok, Err, length}
use Rattle.tf_script.specs.Statements.{ids_of}
use Rattle.tf_script.specs.Reader.WordViews.{words_of, HasColumns}
use Rattle.tf_script.specs.Reader.LineViews.{leading_ids}
use Rattle.tf_script.proofs.request.id_words.Given as goal

abbrev pub invariant-loop-word : goal.invariant-loop-word
invariant-loop-word l = record {
  columns : HasColumns l.rest;
  -- the words so far are ids
  ids : ids_of (words_of l.rest) ≡ Ok (leading_ids (words_of l.rest)) → ids_of (words_of l.words) ≡ Ok (leading_ids (words_of l.words));
  fault : (column : ℕ) → ids_of (words_of l.rest) ≡ Err column → ids_of (words_of l.words) ≡ Err column;
}

abbrev pub decreases-loop-word : goal.decreases-loop-word
decreases-loop-word l = length l.rest.bytes.now
