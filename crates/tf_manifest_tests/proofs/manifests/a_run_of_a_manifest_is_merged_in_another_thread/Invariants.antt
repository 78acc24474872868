use Rattle.tf_manifest.specs.Registries.{shelf_of}
use Rattle.tf_manifest_tests.proofs.manifests.a_run_of_a_manifest_is_merged_in_another_thread.Given as goal

abbrev pub ghosts-holds : goal.ghosts-holds
ghosts-holds g a = record { shelf = shelf_of a.registries.now }
