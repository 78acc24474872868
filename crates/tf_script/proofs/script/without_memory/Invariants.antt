use Rattle.std.proofs.Common.{◌+◌, ◌≤◌, length}
use Rattle.tf_records.specs.declared.refusal.Refusal.{Refusal}
use Rattle.tf_script.specs.Lines.{lines_of}
use Rattle.tf_script.specs.Script.{commands_from}
use Rattle.tf_script.specs.CommandViews.{Explains}
use Rattle.tf_script.proofs.script.without_memory.Given as goal

abbrev pub invariant-loop-rest : goal.invariant-loop-rest
invariant-loop-rest l = record {
  -- each line took a byte
  numbered : l.number + length l.rest ≤ l.initial.number + length l.lines;
  -- what explains the lines that are left explains all
  explains : (refusal : Refusal)
      → Explains refusal (commands_from l.batch l.number (lines_of l.rest))
      → Explains refusal (commands_from l.initial.batch l.initial.number (lines_of l.lines));
}

abbrev pub decreases-loop-rest : goal.decreases-loop-rest
decreases-loop-rest l = length l.rest
