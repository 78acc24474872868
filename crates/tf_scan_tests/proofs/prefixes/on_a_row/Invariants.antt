use Rattle.tf_scan_tests.proofs.prefixes.on_a_row.Given as goal

abbrev pub ghosts-with_row : goal.ghosts-with_row
ghosts-with_row g a = record { shelf = λ _. a.registry.now }
