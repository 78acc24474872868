use Rattle.std.proofs.Common.{◌∙◌, ℕ, Ok, ap, refl, take}
use Rattle.std.specs.Prelude.{vec_capacity}
use Rattle.tf_query.specs.Asked.{account_filter_at}
use Rattle.tf_look_ups.specs.Reads.{transfer_in}
use Rattle.tf_query.specs.Windows.{AreFirst, account_window}
use Rattle.tf_query.proofs.Asked.{few-rows, first-read, rows-of-first}
use Rattle.tf_query.proofs.filters.few_account_transfers.Given.{Over}
use Rattle.tf_query.proofs.filters.few_account_transfers.Goals as goal

-- the timestamps in the part are the first
first-few : (g : Over) (c : goal.After-transfers_at g) → AreFirst (account_window c.args.filter.now) (account_filter_at c.args.manifest.now c.args.filter.now) (take c.few_within-count.result c.few_within-count.new.part)
first-few g c =
    first-read {E = ℕ} (Ok (take c.few_within-count.result c.few_within-count.new.part)) (λ timestamps. timestamps) (account_window c.args.filter.now) c.of_account_filter-window.result _
    (account_filter_at c.args.manifest.now c.args.filter.now) _ c.of_account_filter-window.ensures
    (c.in-Ok.ensures.direction ∙ ap (λ w. w.direction) c.of_account_filter-window.ensures) c.few_within-count.ensures.first c.few_within-count.ensures.in_order
    c.in-Ok.ensures.members

pub returns-in-Ok-clause-ok : goal.returns-in-Ok-clause-ok
returns-in-Ok-clause-ok g c =
    rows-of-first c.transfers_at.result (λ v. v.items) (transfer_in c.args.manifest.now) (account_window c.args.filter.now) (account_filter_at c.args.manifest.now c.args.filter.now) _ _ refl (first-few g c) c.transfers_at.ensures.ok

pub returns-in-Ok-clause-room : goal.returns-in-Ok-clause-room
returns-in-Ok-clause-room g c =
    few-rows c.transfers_at.result (λ rows. vec_capacity rows) (account_window c.args.filter.now) (account_filter_at c.args.manifest.now c.args.filter.now) _ _ refl (first-few g c) c.transfers_at.ensures.room
