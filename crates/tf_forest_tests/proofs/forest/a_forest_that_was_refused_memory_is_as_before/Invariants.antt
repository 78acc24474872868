use Rattle.tf_manifest.specs.Registries.{shelf_of}
use Rattle.tf_forest_tests.proofs.forest.a_forest_that_was_refused_memory_is_as_before.Given as goal

abbrev pub ghosts-are_random_refused : goal.ghosts-are_random_refused
ghosts-are_random_refused g a = record { shelf = shelf_of a.registries.now }
