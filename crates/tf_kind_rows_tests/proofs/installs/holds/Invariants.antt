use Rattle.std.specs.Arc.{arc_value}
use Rattle.tf_kind_rows_tests.proofs.installs.holds.Given as goal

abbrev pub ghosts-with_rows : goal.ghosts-with_rows
ghosts-with_rows g a = record { shelf = λ _. arc_value a.registry.now }
