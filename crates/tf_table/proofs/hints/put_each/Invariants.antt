use Rattle.std.proofs.Common.{◌≡◌, length, take}
use Rattle.tf_table.specs.Filter.{HoldsEach}
use Rattle.tf_table.proofs.hints.put_each.Given as goal

abbrev pub invariant-loop-key : goal.invariant-loop-key
invariant-loop-key g l = record {
  held : HoldsEach l.words.items l.filter_words (take l.key-index l.keys);
  words : length l.words.items ≡ length l.initial.words.items;
}
