use Rattle.tf_manifest.specs.Registries.{shelf_of}
use Rattle.tf_served.proofs.script.run_with_registries.Given as goal

abbrev pub ghosts-run_named-S-Naming : goal.ghosts-run_named-S-Naming
ghosts-run_named-S-Naming g a = record { shelf = shelf_of a.registries.now }

abbrev pub ghosts-run_named-S-Ledger : goal.ghosts-run_named-S-Ledger
ghosts-run_named-S-Ledger g a = record {
  name = a.blank.ledger.name;
  parts = a.blank.ledger.parts;
}

abbrev pub ghosts-run_named-S-HistoryName : goal.ghosts-run_named-S-HistoryName
ghosts-run_named-S-HistoryName g a = record { history = a.blank.history }
