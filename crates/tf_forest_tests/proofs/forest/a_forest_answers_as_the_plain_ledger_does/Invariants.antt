use Rattle.tf_manifest.specs.Registries.{shelf_of}
use Rattle.tf_forest_tests.proofs.forest.a_forest_answers_as_the_plain_ledger_does.Given as goal

abbrev pub ghosts-are_all_alike : goal.ghosts-are_all_alike
ghosts-are_all_alike g a = record { shelf = shelf_of a.registries.now }
