use Rattle.tf_manifest.specs.Registries.{shelf_of}
use Rattle.tf_forest_tests.proofs.versions.many_filters_are_answered_at_once_as_one_by_one.Given as goal

abbrev pub ghosts-try_many : goal.ghosts-try_many
ghosts-try_many g a = record { shelf = shelf_of a.registries.now }
