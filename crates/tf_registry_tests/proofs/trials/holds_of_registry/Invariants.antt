use Rattle.tf_registry_tests.proofs.trials.holds_of_registry.Given as goal

abbrev pub ghosts-holds : goal.ghosts-holds
ghosts-holds g a = record { shelf = λ _. a.registry.now }
