use Rattle.std.proofs.Common.{◌≡◌, length}
use Rattle.tf_mutable_rows.proofs.IndexWords.{AreOfIndex}
use Rattle.tf_mutable_rows.proofs.index_words.sealed_in_order.Given as goal

abbrev pub invariant-loop-word : goal.invariant-loop-word
invariant-loop-word g l = record {
  rows : length l.draft.rows ≡ l.word-index;
  room : l.draft.room ≡ length l.objects;
  among : AreOfIndex l.field l.objects l.draft.rows;
}
