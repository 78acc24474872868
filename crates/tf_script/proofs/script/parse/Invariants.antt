use Rattle.std.proofs.Common.{◌≡◌, ◌+◌, ◌≤◌, length}
use Rattle.tf_script.specs.Lines.{lines_of}
use Rattle.tf_script.specs.Statements.{◌<&>◌}
use Rattle.tf_script.specs.Script.{commands_from, script_of}
use Rattle.tf_script.specs.Reader.Reading.{batch_of, resumed}
use Rattle.tf_script.proofs.script.parse.Given as goal

abbrev pub invariant-loop-rest : goal.invariant-loop-rest
invariant-loop-rest g l = record {
  -- each line took a byte
  numbered : l.number + length l.rest ≤ length l.script + 1;
  -- what is read and the lines that are left are the script
  read : (commands_from (batch_of l.reading.unfinished) l.number (lines_of l.rest) <&> resumed l.reading) ≡ script_of l.script;
}

abbrev pub decreases-loop-rest : goal.decreases-loop-rest
decreases-loop-rest g l = length l.rest
