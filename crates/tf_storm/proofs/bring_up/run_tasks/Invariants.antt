use Rattle.tf_manifest.specs.Registries.{shelf_of}
use Rattle.tf_storm.proofs.bring_up.run_tasks.Given as goal

abbrev pub ghosts-with_name-S-Naming : goal.ghosts-with_name-S-Naming
ghosts-with_name-S-Naming g a = record { shelf = shelf_of a.registries.now }

abbrev pub ghosts-with_name-S-Ledger : goal.ghosts-with_name-S-Ledger
ghosts-with_name-S-Ledger g a = record {
  name = a.blank.ledger.name;
  parts = a.blank.ledger.parts;
}

abbrev pub ghosts-with_name-S-HistoryName : goal.ghosts-with_name-S-HistoryName
ghosts-with_name-S-HistoryName g a = record { history = a.blank.history }
