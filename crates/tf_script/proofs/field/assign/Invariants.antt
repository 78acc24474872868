use Rattle.std.proofs.Common.{◌≡◌, length, map}
use Rattle.tf_script.specs.Reader.WordViews.{words_of, HasColumns}
use Rattle.tf_script.specs.Fields.{assigned}
use Rattle.tf_script.specs.Reader.Tables.{field_of, Fit}
use Rattle.tf_script.proofs.field.assign.Given as goal

abbrev pub invariant-loop-word : goal.invariant-loop-word
invariant-loop-word l = record {
  columns : HasColumns l.rest;
  lengths : length l.values ≡ length l.table;
  fit : Fit (map field_of l.table) l.values;
  -- the words that are left complete the values
  complete : assigned (map field_of l.table) l.values (words_of l.rest)
      ≡ assigned (map field_of l.table) l.initial.values (words_of l.words);
}

abbrev pub decreases-loop-word : goal.decreases-loop-word
decreases-loop-word l = length l.rest.bytes.now
