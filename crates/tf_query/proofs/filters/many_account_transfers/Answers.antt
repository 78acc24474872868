use Rattle.std.specs.Prelude.{vec_capacity}
use Rattle.tf_query.specs.Asked.{account_filter_at}
use Rattle.tf_look_ups.specs.Reads.{transfer_in}
use Rattle.tf_query.specs.Windows.{account_window}
use Rattle.tf_query.proofs.Asked.{few-rows, rows-of-first}
use Rattle.tf_query.proofs.filters.many_account_transfers.Goals as goal

pub returns-in-Ok-clause-ok : goal.returns-in-Ok-clause-ok
returns-in-Ok-clause-ok g c =
    rows-of-first c.transfers_at.result (λ v. v.items) (transfer_in c.args.manifest.now) (account_window c.args.filter.now) (account_filter_at c.args.manifest.now c.args.filter.now) c.in-Ok.timestamps.items _ c.as_slice.ensures.value c.in-Ok.ensures.ok c.transfers_at.ensures.ok

pub returns-in-Ok-clause-room : goal.returns-in-Ok-clause-room
returns-in-Ok-clause-room g c =
    few-rows c.transfers_at.result (λ rows. vec_capacity rows) (account_window c.args.filter.now) (account_filter_at c.args.manifest.now c.args.filter.now) c.in-Ok.timestamps.items _ c.as_slice.ensures.value c.in-Ok.ensures.ok c.transfers_at.ensures.room
