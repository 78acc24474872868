use Rattle.tf_manifest.specs.Registries.{shelf_of}
use Rattle.tf_manifest_tests.proofs.manifests.a_job_of_a_manifest_is_installed_once_under_its_limit_whatever_was_pushed.Given as goal

abbrev pub ghosts-all_hold : goal.ghosts-all_hold
ghosts-all_hold g a = record { shelf = shelf_of a.registries.now }
