use Rattle.std.proofs.Common.{◌<◌, length, subst}
use Rattle.tf_manifest.specs.View.{tables_by}
use Rattle.tf_rows.specs.declared.sealed_row.SealedRow.{SealedRow}
use Rattle.tf_rows.specs.SealedRow.{kind_of_sealed}
use Rattle.tf_publish.proofs.in_front.push_in_front.Goals as goal

pub push_stamps-requires-clause-room : goal.push_stamps-requires-clause-room
push_stamps-requires-clause-room g c = subst (λ (x : SealedRow g.row.A.Denot). length (tables_by c.args.manifest.now (kind_of_sealed x)) < 64) c.in-Stamp.is c.requires.room

pub push_accounts-requires-clause-room : goal.push_accounts-requires-clause-room
push_accounts-requires-clause-room g c = subst (λ (x : SealedRow g.row.A.Denot). length (tables_by c.args.manifest.now (kind_of_sealed x)) < 64) c.in-Account.is c.requires.room

pub push_transfers-requires-clause-room : goal.push_transfers-requires-clause-room
push_transfers-requires-clause-room g c = subst (λ (x : SealedRow g.row.A.Denot). length (tables_by c.args.manifest.now (kind_of_sealed x)) < 64) c.in-Transfer.is c.requires.room

pub push_ids-requires-clause-room : goal.push_ids-requires-clause-room
push_ids-requires-clause-room g c = subst (λ (x : SealedRow g.row.A.Denot). length (tables_by c.args.manifest.now (kind_of_sealed x)) < 64) c.in-Id.is c.requires.room

pub push_units-requires-clause-room : goal.push_units-requires-clause-room
push_units-requires-clause-room g c = subst (λ (x : SealedRow g.row.A.Denot). length (tables_by c.args.manifest.now (kind_of_sealed x)) < 64) c.in-Unit.is c.requires.room

pub push_states-requires-clause-room : goal.push_states-requires-clause-room
push_states-requires-clause-room g c = subst (λ (x : SealedRow g.row.A.Denot). length (tables_by c.args.manifest.now (kind_of_sealed x)) < 64) c.in-State.is c.requires.room

pub push_sums-requires-clause-room : goal.push_sums-requires-clause-room
push_sums-requires-clause-room g c = subst (λ (x : SealedRow g.row.A.Denot). length (tables_by c.args.manifest.now (kind_of_sealed x)) < 64) c.in-Sums.is c.requires.room

pub push_statuses-requires-clause-room : goal.push_statuses-requires-clause-room
push_statuses-requires-clause-room g c = subst (λ (x : SealedRow g.row.A.Denot). length (tables_by c.args.manifest.now (kind_of_sealed x)) < 64) c.in-Status.is c.requires.room
