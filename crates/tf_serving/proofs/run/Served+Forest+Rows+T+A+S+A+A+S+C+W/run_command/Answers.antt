use Rattle.std.proofs.Common.{true, refl}
use Rattle.tf_journal.specs.Answer.{looked_up_accounts, looked_up_transfers}
use Rattle.tf_script.specs.Command.{accounts, transfers, pulse, publish, compact, query, lookup_accounts, lookup_transfers}
use Rattle.tf_main.specs.Line.{account_line, compacted_line, published_line, transfer_line}
use Rattle.tf_serving.proofs.Views.{journal_of, clock_of, publishes_of}
use Rattle.tf_serving.proofs.Serving.{done_or_full, nothing_to_do}
use Rattle.tf_main.proofs.Answered.{found_run, served_run, any_answer}
use Rattle.tf_serving.proofs.run.Served+Forest+Rows+T+A+S+A+A+S+C+W.run_command.Goals as goal

pub returns-in-Accounts-clause-run : goal.returns-in-Accounts-clause-run
returns-in-Accounts-clause-run g c = rw c.in-Accounts.is (rw c.as_slice.ensures.value at c.run_accounts.ensures)

pub returns-in-Transfers-clause-run : goal.returns-in-Transfers-clause-run
returns-in-Transfers-clause-run g c = rw c.in-Transfers.is (rw c.as_slice-in-Transfers.ensures.value at c.run_transfers.ensures)

pub returns-in-Pulse-clause-run : goal.returns-in-Pulse-clause-run
returns-in-Pulse-clause-run g c = rw c.in-Pulse.is c.run_pulse.ensures

pub returns-in-Publish-clause-run : goal.returns-in-Publish-clause-run
returns-in-Publish-clause-run g c = rw c.in-Publish.is
    (served_run true journal_of clock_of publishes_of c.args.self.now.store.now.forest c.publish.new.self.store.now.forest
    publish (λ done. published_line) published_line c.publish.result _ _ c.write_publish.result
    refl c.publish.ensures.served (any_answer c.publish.result published_line) c.requires c.write_publish.ensures)

pub returns-in-Compact-clause-run : goal.returns-in-Compact-clause-run
returns-in-Compact-clause-run g c = rw c.in-Compact.is
    (served_run true journal_of clock_of publishes_of c.args.self.now.store.now.forest c.compact.new.self.store.now.forest
    compact (λ done. compacted_line) compacted_line c.compact.result _ _ c.write_compaction.result
    refl c.compact.ensures.served (any_answer c.compact.result compacted_line) c.requires c.write_compaction.ensures)

pub returns-in-LookupAccounts-clause-run : goal.returns-in-LookupAccounts-clause-run
returns-in-LookupAccounts-clause-run g c = rw c.in-LookupAccounts.is
    (found_run true journal_of clock_of publishes_of c.args.self.now.store.now.forest c.lookup_accounts.new.self.store.now.forest
    (lookup_accounts c.in-LookupAccounts.ids.items) account_line (λ rows. rows.items)
    (looked_up_accounts (journal_of c.args.self.now.store.now.forest) c.in-LookupAccounts.ids.items) c.lookup_accounts.result _ _ c.write_found.result
    refl (rw c.as_slice-in-LookupAccounts.ensures.value at c.lookup_accounts.ensures.served)
    (rw c.as_slice-in-LookupAccounts.ensures.value at c.lookup_accounts.ensures.ok) c.requires c.write_found.ensures)

pub returns-in-LookupTransfers-clause-run : goal.returns-in-LookupTransfers-clause-run
returns-in-LookupTransfers-clause-run g c = rw c.in-LookupTransfers.is
    (found_run true journal_of clock_of publishes_of c.args.self.now.store.now.forest c.lookup_transfers.new.self.store.now.forest
    (lookup_transfers c.in-LookupTransfers.ids.items) transfer_line (λ rows. rows.items)
    (looked_up_transfers (journal_of c.args.self.now.store.now.forest) c.in-LookupTransfers.ids.items) c.lookup_transfers.result _ _ c.write_found-in-LookupTransfers.result
    refl (rw c.as_slice-in-LookupTransfers.ensures.value at c.lookup_transfers.ensures.served)
    (rw c.as_slice-in-LookupTransfers.ensures.value at c.lookup_transfers.ensures.ok) c.requires c.write_found-in-LookupTransfers.ensures)

pub returns-in-Accounts-clause-done : goal.returns-in-Accounts-clause-done
returns-in-Accounts-clause-done g c = rw c.in-Accounts.is (nothing_to_do (accounts c.in-Accounts.now c.in-Accounts.events.items) c.run_accounts.new.self.store.now.forest _ _ _ tt)

pub returns-in-Transfers-clause-done : goal.returns-in-Transfers-clause-done
returns-in-Transfers-clause-done g c = rw c.in-Transfers.is (nothing_to_do (transfers c.in-Transfers.now c.in-Transfers.events.items) c.run_transfers.new.self.store.now.forest _ _ _ tt)

pub returns-in-Pulse-clause-done : goal.returns-in-Pulse-clause-done
returns-in-Pulse-clause-done g c = rw c.in-Pulse.is (nothing_to_do (pulse c.in-Pulse.now c.in-Pulse.max) c.run_pulse.new.self.store.now.forest _ _ _ tt)

pub returns-in-LookupAccounts-clause-done : goal.returns-in-LookupAccounts-clause-done
returns-in-LookupAccounts-clause-done g c = rw c.in-LookupAccounts.is (nothing_to_do (lookup_accounts c.in-LookupAccounts.ids.items) c.lookup_accounts.new.self.store.now.forest _ _ _ tt)

pub returns-in-LookupTransfers-clause-done : goal.returns-in-LookupTransfers-clause-done
returns-in-LookupTransfers-clause-done g c = rw c.in-LookupTransfers.is (nothing_to_do (lookup_transfers c.in-LookupTransfers.ids.items) c.lookup_transfers.new.self.store.now.forest _ _ _ tt)

pub returns-in-Query-clause-done : goal.returns-in-Query-clause-done
returns-in-Query-clause-done g c = rw c.in-Query.is (nothing_to_do (query c.in-Query.query) c.run_query.new.self.store.now.forest _ _ _ tt)

pub returns-in-Publish-clause-done : goal.returns-in-Publish-clause-done
returns-in-Publish-clause-done g c = rw c.in-Publish.is
    (done_or_full c.args.self.now.store.now.forest c.publish.new.self.store.now.forest publish (λ done. published_line) c.publish.result _ _ c.write_publish.result
    refl c.publish.ensures.served c.write_publish.ensures c.publish.ensures.all)

pub returns-in-Compact-clause-done : goal.returns-in-Compact-clause-done
returns-in-Compact-clause-done g c = rw c.in-Compact.is
    (done_or_full c.args.self.now.store.now.forest c.compact.new.self.store.now.forest compact (λ done. compacted_line) c.compact.result _ _ c.write_compaction.result
    refl c.compact.ensures.served c.write_compaction.ensures c.compact.ensures.merged)
