use Rattle.std.proofs.Common.{List, ◌++◌, ap₂, refl, sym, subst}
use Rattle.tf_manifest.specs.declared.row.Row.TheVariants as row
use Rattle.tf_rows.specs.declared.change.Change.{Change}
use Rattle.tf_rows.specs.Changes.{CanChangeAll, listed}
use Rattle.tf_rows.specs.Made.{AreMade}
use Rattle.tf_rows.specs.Record.{record_changes}
use Rattle.tf_rows.proofs.Listed.{histories_listed, history_changes, id_change, in_parts, one_listed, pending_changes, states_listed}
use Rattle.tf_rows.proofs.Made.{begun, fitting, further, last_made, stopped}
use Rattle.tf_rows.proofs.Reordered.{exchanged}
use Rattle.tf_rows.proofs.Single.{single_one, single_two}
use Rattle.tf_rows.proofs.transfers.make_transfer.Goals as goal

pub make_two-requires-clause-single : goal.make_two-requires-clause-single
make_two-requires-clause-single g c =
    single_two row.AccountSums row.AccountSums refl refl _ _ (listed c.state_change.result) (listed c.state_change-2.result) c.state_change.ensures c.state_change-2.ensures

pub make_two-requires-clause-can : goal.make_two-requires-clause-can
make_two-requires-clause-can g c =
    let first = begun g.S.RowSet.has_row g.S.RowSet.fits g.S.RowSet.takes_any _ c.args.steps.now _ _ (in_parts c.args.found.now c.args.transfer.now) c.requires.can in
    fitting _ _ _ _ _ _ _ _ _ (states_listed c.args.found.now c.args.transfer.now c.party_after-debit.result c.party_after-credit.result c.party_after-debit.ensures c.party_after-credit.ensures c.state_change.result c.state_change-2.result c.state_change.ensures c.state_change-2.ensures) _ _ first

pub make_any-requires-clause-single : goal.make_any-requires-clause-single
make_any-requires-clause-single g c =
    single_one c.put-id.result _ c.put-id.ensures refl

pub make_any-requires-clause-can : goal.make_any-requires-clause-can
make_any-requires-clause-can g c =
    let first = begun g.S.RowSet.has_row g.S.RowSet.fits g.S.RowSet.takes_any _ c.args.steps.now _ _ (in_parts c.args.found.now c.args.transfer.now) c.requires.can in
    let states = further _ _ _ _ _ _ _ _ _ (states_listed c.args.found.now c.args.transfer.now c.party_after-debit.result c.party_after-credit.result c.party_after-debit.ensures c.party_after-credit.ensures c.state_change.result c.state_change-2.result c.state_change.ensures c.state_change-2.ensures) _ _ first _ _ tt c.in-Ok.ensures.made in
    let next = exchanged _ _ _ _ _ _ _ _ _ _ _ states refl refl in
    fitting _ _ _ _ _ _ _ _ _ (one_listed c.put-id.result (id_change c.args.transfer.now) c.put-id.ensures) _ _ next

pub returns-in-Err-make_any-clause-made : goal.returns-in-Err-make_any-clause-made
returns-in-Err-make_any-clause-made g c =
    let first = begun g.S.RowSet.has_row g.S.RowSet.fits g.S.RowSet.takes_any _ c.args.steps.now _ _ (in_parts c.args.found.now c.args.transfer.now) c.requires.can in
    let states = further _ _ _ _ _ _ _ _ _ (states_listed c.args.found.now c.args.transfer.now c.party_after-debit.result c.party_after-credit.result c.party_after-debit.ensures c.party_after-credit.ensures c.state_change.result c.state_change-2.result c.state_change.ensures c.state_change-2.ensures) _ _ first _ _ tt c.in-Ok.ensures.made in
    let next = exchanged _ _ _ _ _ _ _ _ _ _ _ states refl refl in
    stopped _ _ _ _ _ _ _ _ _ (one_listed c.put-id.result (id_change c.args.transfer.now) c.put-id.ensures) _ _ next _ _ c.in-Err-make_any.refusal c.in-Err-make_any.ensures.made

pub make_record-requires : goal.make_record-requires
make_record-requires g c =
    let first = begun g.S.RowSet.has_row g.S.RowSet.fits g.S.RowSet.takes_any _ c.args.steps.now _ _ (in_parts c.args.found.now c.args.transfer.now) c.requires.can in
    let states = further _ _ _ _ _ _ _ _ _ (states_listed c.args.found.now c.args.transfer.now c.party_after-debit.result c.party_after-credit.result c.party_after-debit.ensures c.party_after-credit.ensures c.state_change.result c.state_change-2.result c.state_change.ensures c.state_change-2.ensures) _ _ first _ _ tt c.in-Ok.ensures.made in
    let next = exchanged _ _ _ _ _ _ _ _ _ _ _ states refl refl in
    let id = further _ _ _ _ _ _ _ _ _ (one_listed c.put-id.result (id_change c.args.transfer.now) c.put-id.ensures) _ _ next _ _ tt c.in-Ok-make_any.ensures.made in
    fitting _ _ _ _ _ _ (record_changes c.args.transfer.now) (record_changes c.args.transfer.now) (pending_changes c.args.found.now c.args.transfer.now ++ history_changes c.args.found.now c.args.transfer.now) refl _ _ id

pub returns-in-Err-make_record-clause-made : goal.returns-in-Err-make_record-clause-made
returns-in-Err-make_record-clause-made g c =
    let first = begun g.S.RowSet.has_row g.S.RowSet.fits g.S.RowSet.takes_any _ c.args.steps.now _ _ (in_parts c.args.found.now c.args.transfer.now) c.requires.can in
    let states = further _ _ _ _ _ _ _ _ _ (states_listed c.args.found.now c.args.transfer.now c.party_after-debit.result c.party_after-credit.result c.party_after-debit.ensures c.party_after-credit.ensures c.state_change.result c.state_change-2.result c.state_change.ensures c.state_change-2.ensures) _ _ first _ _ tt c.in-Ok.ensures.made in
    let next = exchanged _ _ _ _ _ _ _ _ _ _ _ states refl refl in
    let id = further _ _ _ _ _ _ _ _ _ (one_listed c.put-id.result (id_change c.args.transfer.now) c.put-id.ensures) _ _ next _ _ tt c.in-Ok-make_any.ensures.made in
    stopped _ _ _ _ _ _ (record_changes c.args.transfer.now) (record_changes c.args.transfer.now) (pending_changes c.args.found.now c.args.transfer.now ++ history_changes c.args.found.now c.args.transfer.now) refl _ _ id _ _ c.in-Err-make_record.refusal c.in-Err-make_record.ensures.made

pub make_two-requires-2-clause-single : goal.make_two-requires-2-clause-single
make_two-requires-2-clause-single g c =
    single_two row.PendingStatus row.Expiry refl refl _ _ (listed c.status_after-status.result) (listed c.expiry_after-expiry.result) c.status_after-status.ensures c.expiry_after-expiry.ensures

pub make_two-requires-2-clause-can : goal.make_two-requires-2-clause-can
make_two-requires-2-clause-can g c =
    let first = begun g.S.RowSet.has_row g.S.RowSet.fits g.S.RowSet.takes_any _ c.args.steps.now _ _ (in_parts c.args.found.now c.args.transfer.now) c.requires.can in
    let states = further _ _ _ _ _ _ _ _ _ (states_listed c.args.found.now c.args.transfer.now c.party_after-debit.result c.party_after-credit.result c.party_after-debit.ensures c.party_after-credit.ensures c.state_change.result c.state_change-2.result c.state_change.ensures c.state_change-2.ensures) _ _ first _ _ tt c.in-Ok.ensures.made in
    let next = exchanged _ _ _ _ _ _ _ _ _ _ _ states refl refl in
    let id = further _ _ _ _ _ _ _ _ _ (one_listed c.put-id.result (id_change c.args.transfer.now) c.put-id.ensures) _ _ next _ _ tt c.in-Ok-make_any.ensures.made in
    let whole = further _ _ _ _ _ _ (record_changes c.args.transfer.now) (record_changes c.args.transfer.now) (pending_changes c.args.found.now c.args.transfer.now ++ history_changes c.args.found.now c.args.transfer.now) refl _ _ id _ _ tt c.in-Ok-make_record.ensures.made in
    fitting _ _ _ _ _ _ _ _ _ (ap₂ (λ (a b : List Change). a ++ b) c.status_after-status.ensures c.expiry_after-expiry.ensures) _ _ whole

pub returns-in-Err-make_two-clause-made : goal.returns-in-Err-make_two-clause-made
returns-in-Err-make_two-clause-made g c =
    let first = begun g.S.RowSet.has_row g.S.RowSet.fits g.S.RowSet.takes_any _ c.args.steps.now _ _ (in_parts c.args.found.now c.args.transfer.now) c.requires.can in
    let states = further _ _ _ _ _ _ _ _ _ (states_listed c.args.found.now c.args.transfer.now c.party_after-debit.result c.party_after-credit.result c.party_after-debit.ensures c.party_after-credit.ensures c.state_change.result c.state_change-2.result c.state_change.ensures c.state_change-2.ensures) _ _ first _ _ tt c.in-Ok.ensures.made in
    let next = exchanged _ _ _ _ _ _ _ _ _ _ _ states refl refl in
    let id = further _ _ _ _ _ _ _ _ _ (one_listed c.put-id.result (id_change c.args.transfer.now) c.put-id.ensures) _ _ next _ _ tt c.in-Ok-make_any.ensures.made in
    let whole = further _ _ _ _ _ _ (record_changes c.args.transfer.now) (record_changes c.args.transfer.now) (pending_changes c.args.found.now c.args.transfer.now ++ history_changes c.args.found.now c.args.transfer.now) refl _ _ id _ _ tt c.in-Ok-make_record.ensures.made in
    stopped _ _ _ _ _ _ _ _ _ (ap₂ (λ (a b : List Change). a ++ b) c.status_after-status.ensures c.expiry_after-expiry.ensures) _ _ whole _ _ c.in-Err-make_two.refusal c.in-Err-make_two.ensures.made

pub make_two-requires-3-clause-single : goal.make_two-requires-3-clause-single
make_two-requires-3-clause-single g c =
    single_two row.History row.History refl refl _ _ (listed c.history_change-debit_history.result) (listed c.history_change-credit_history.result) c.history_change-debit_history.ensures c.history_change-credit_history.ensures

pub make_two-requires-3-clause-can : goal.make_two-requires-3-clause-can
make_two-requires-3-clause-can g c =
    let first = begun g.S.RowSet.has_row g.S.RowSet.fits g.S.RowSet.takes_any _ c.args.steps.now _ _ (in_parts c.args.found.now c.args.transfer.now) c.requires.can in
    let states = further _ _ _ _ _ _ _ _ _ (states_listed c.args.found.now c.args.transfer.now c.party_after-debit.result c.party_after-credit.result c.party_after-debit.ensures c.party_after-credit.ensures c.state_change.result c.state_change-2.result c.state_change.ensures c.state_change-2.ensures) _ _ first _ _ tt c.in-Ok.ensures.made in
    let next = exchanged _ _ _ _ _ _ _ _ _ _ _ states refl refl in
    let id = further _ _ _ _ _ _ _ _ _ (one_listed c.put-id.result (id_change c.args.transfer.now) c.put-id.ensures) _ _ next _ _ tt c.in-Ok-make_any.ensures.made in
    let whole = further _ _ _ _ _ _ (record_changes c.args.transfer.now) (record_changes c.args.transfer.now) (pending_changes c.args.found.now c.args.transfer.now ++ history_changes c.args.found.now c.args.transfer.now) refl _ _ id _ _ tt c.in-Ok-make_record.ensures.made in
    let pending = further _ _ _ _ _ _ _ _ _ (ap₂ (λ (a b : List Change). a ++ b) c.status_after-status.ensures c.expiry_after-expiry.ensures) _ _ whole _ _ tt c.in-Ok-make_two.ensures.made in
    subst (λ (cs : List Change). CanChangeAll g.S.RowSet.has_row g.S.RowSet.fits g.S.RowSet.takes_any cs (g.S.RowSet.parts c.make_two-2.new.set)) (sym (histories_listed c.args.found.now c.args.transfer.now c.party_after-debit.result c.party_after-credit.result c.party_after-debit.ensures c.party_after-credit.ensures c.history_change-debit_history.result c.history_change-credit_history.result c.history_change-debit_history.ensures c.history_change-credit_history.ensures)) pending.can

pub returns-clause-made : goal.returns-clause-made
returns-clause-made g c =
    let first = begun g.S.RowSet.has_row g.S.RowSet.fits g.S.RowSet.takes_any _ c.args.steps.now _ _ (in_parts c.args.found.now c.args.transfer.now) c.requires.can in
    let states = further _ _ _ _ _ _ _ _ _ (states_listed c.args.found.now c.args.transfer.now c.party_after-debit.result c.party_after-credit.result c.party_after-debit.ensures c.party_after-credit.ensures c.state_change.result c.state_change-2.result c.state_change.ensures c.state_change-2.ensures) _ _ first _ _ tt c.in-Ok.ensures.made in
    let next = exchanged _ _ _ _ _ _ _ _ _ _ _ states refl refl in
    let id = further _ _ _ _ _ _ _ _ _ (one_listed c.put-id.result (id_change c.args.transfer.now) c.put-id.ensures) _ _ next _ _ tt c.in-Ok-make_any.ensures.made in
    let whole = further _ _ _ _ _ _ (record_changes c.args.transfer.now) (record_changes c.args.transfer.now) (pending_changes c.args.found.now c.args.transfer.now ++ history_changes c.args.found.now c.args.transfer.now) refl _ _ id _ _ tt c.in-Ok-make_record.ensures.made in
    let pending = further _ _ _ _ _ _ _ _ _ (ap₂ (λ (a b : List Change). a ++ b) c.status_after-status.ensures c.expiry_after-expiry.ensures) _ _ whole _ _ tt c.in-Ok-make_two.ensures.made in
    last_made _ _ _ _ _ _ _ _ _ pending _ _ _
    (subst (λ (cs : List Change). AreMade g.S.RowSet.has_row g.S.RowSet.fits g.S.RowSet.takes_any cs c.make_two-3.result c.make_two-2.new.steps c.make_two-3.new.steps (g.S.RowSet.parts c.make_two-2.new.set) (g.S.RowSet.parts c.make_two-3.new.set)) (histories_listed c.args.found.now c.args.transfer.now c.party_after-debit.result c.party_after-credit.result c.party_after-debit.ensures c.party_after-credit.ensures c.history_change-debit_history.result c.history_change-credit_history.result c.history_change-debit_history.ensures c.history_change-credit_history.ensures) c.make_two-3.ensures.made)
