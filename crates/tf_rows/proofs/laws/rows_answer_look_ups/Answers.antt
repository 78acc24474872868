use Rattle.tf_rows.proofs.FoundInRows.{found_is_read, party_is_read, pending_is_read, shown_is_read, status_is_read, transfer_is_read, use_is_read}
use Rattle.tf_rows.proofs.laws.rows_answer_look_ups.Goals as goal

pub returns-clause-parties : goal.returns-clause-parties
returns-clause-parties c = party_is_read c.rows_are_maps.ensures

pub returns-clause-uses : goal.returns-clause-uses
returns-clause-uses c = use_is_read c.rows_are_maps.ensures

pub returns-clause-transfers : goal.returns-clause-transfers
returns-clause-transfers c = transfer_is_read c.rows_are_maps.ensures

pub returns-clause-pending : goal.returns-clause-pending
returns-clause-pending c = pending_is_read c.rows_are_maps.ensures

pub returns-clause-shown : goal.returns-clause-shown
returns-clause-shown c = shown_is_read c.rows_are_maps.ensures

pub returns-clause-statuses : goal.returns-clause-statuses
returns-clause-statuses c = status_is_read c.rows_are_maps.ensures

pub returns-clause-found : goal.returns-clause-found
returns-clause-found c = found_is_read c.rows_are_maps.ensures
