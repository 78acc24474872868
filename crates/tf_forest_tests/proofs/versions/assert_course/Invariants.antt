use Rattle.tf_manifest.specs.Registries.{shelf_of}
use Rattle.tf_forest_tests.proofs.versions.assert_course.Given as goal

abbrev pub ghosts-try_each : goal.ghosts-try_each
ghosts-try_each g a = record { shelf = shelf_of a.registries.now }
