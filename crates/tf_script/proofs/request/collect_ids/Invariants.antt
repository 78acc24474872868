use Rattle.std.proofs.Common.{◌≡◌, ◌++◌, length}
use Rattle.tf_script.specs.Reader.WordViews.{words_of, HasColumns}
use Rattle.tf_script.specs.Reader.LineViews.{leading_ids}
use Rattle.tf_script.proofs.request.collect_ids.Given as goal

abbrev pub invariant-loop-word : goal.invariant-loop-word
invariant-loop-word g l = record {
  columns : HasColumns l.rest;
  -- the ids so far, and those that are left
  ids : l.ids.items ++ leading_ids (words_of l.rest) ≡ leading_ids (words_of l.words);
}

abbrev pub decreases-loop-word : goal.decreases-loop-word
decreases-loop-word g l = length l.rest.bytes.now
