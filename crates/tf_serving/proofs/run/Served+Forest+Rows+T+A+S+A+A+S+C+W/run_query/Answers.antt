use Rattle.std.proofs.Common.{true, refl}
use Rattle.tf_journal.specs.Answer.{account_transfers_of, found_accounts_of, found_transfers_of, history_of}
use Rattle.tf_script.specs.Command as command
use Rattle.tf_script.specs.declared.command.Query.TheVariants.{AccountTransfers, AccountBalances, Accounts, Transfers}
use Rattle.tf_main.specs.Line.{account_line, balance_line, transfer_line}
use Rattle.tf_serving.proofs.Views.{journal_of, clock_of, publishes_of}
use Rattle.tf_main.proofs.Answered.{found_run}
use Rattle.tf_serving.proofs.run.Served+Forest+Rows+T+A+S+A+A+S+C+W.run_query.Goals as goal

pub returns-in-AccountTransfers : goal.returns-in-AccountTransfers
returns-in-AccountTransfers g c = rw c.in-AccountTransfers.is
    (found_run true journal_of clock_of publishes_of c.args.self.now.store.now.forest c.get_account_transfers.new.self.store.now.forest
    (command.query (AccountTransfers c.in-AccountTransfers.filter)) transfer_line (λ rows. rows.items)
    (account_transfers_of (journal_of c.args.self.now.store.now.forest) c.in-AccountTransfers.filter) c.get_account_transfers.result _ _ c.write_found.result
    refl c.get_account_transfers.ensures.served c.get_account_transfers.ensures.ok c.requires c.write_found.ensures)

pub returns-in-AccountBalances : goal.returns-in-AccountBalances
returns-in-AccountBalances g c = rw c.in-AccountBalances.is
    (found_run true journal_of clock_of publishes_of c.args.self.now.store.now.forest c.get_account_balances.new.self.store.now.forest
    (command.query (AccountBalances c.in-AccountBalances.filter)) balance_line (λ rows. rows.items)
    (history_of (journal_of c.args.self.now.store.now.forest) c.in-AccountBalances.filter) c.get_account_balances.result _ _ c.write_found-in-AccountBalances.result
    refl c.get_account_balances.ensures.served c.get_account_balances.ensures.ok c.requires c.write_found-in-AccountBalances.ensures)

pub returns-in-Accounts : goal.returns-in-Accounts
returns-in-Accounts g c = rw c.in-Accounts.is
    (found_run true journal_of clock_of publishes_of c.args.self.now.store.now.forest c.query_accounts.new.self.store.now.forest
    (command.query (Accounts c.in-Accounts.filter)) account_line (λ rows. rows.items)
    (found_accounts_of (journal_of c.args.self.now.store.now.forest) c.in-Accounts.filter) c.query_accounts.result _ _ c.write_found-in-Accounts.result
    refl c.query_accounts.ensures.served c.query_accounts.ensures.ok c.requires c.write_found-in-Accounts.ensures)

pub returns-in-Transfers : goal.returns-in-Transfers
returns-in-Transfers g c = rw c.in-Transfers.is
    (found_run true journal_of clock_of publishes_of c.args.self.now.store.now.forest c.query_transfers.new.self.store.now.forest
    (command.query (Transfers c.in-Transfers.filter)) transfer_line (λ rows. rows.items)
    (found_transfers_of (journal_of c.args.self.now.store.now.forest) c.in-Transfers.filter) c.query_transfers.result _ _ c.write_found-in-Transfers.result
    refl c.query_transfers.ensures.served c.query_transfers.ensures.ok c.requires c.write_found-in-Transfers.ensures)
