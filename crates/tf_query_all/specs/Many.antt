-- Filters of all four queries, and what they are answered.
use Rattle.std.specs.Prelude.{◌≡◌, List, map, Ok, Result}
use Rattle.std.specs.Borrow.{Bor}
use Rattle.std.specs.List.{AllZip}
use Rattle.tf_journal.specs.declared.entry.Entry.{Entry}
use Rattle.tf_journal.specs.Answer.{account_transfers_of, found_accounts_of, found_transfers_of, history_of}
use Rattle.tf_query_all.specs.declared.filter.Answer.{Answer}
use Rattle.tf_query_all.specs.declared.filter.Answer.TheVariants as answer
use Rattle.tf_query_all.specs.declared.filter.Filter.{Filter}
use Rattle.tf_query_all.specs.declared.filter.Filter.TheVariants as filter

module _ {A : Type 0} where
  -- rows of the query that a filter is of: those that a journal has
  abbrev pub IsAnswer : List Entry → Filter → Answer A → Type 0
  IsAnswer journal (filter.AccountTransfers asked) (answer.AccountTransfers rows) = rows.items ≡ account_transfers_of journal asked
  IsAnswer journal (filter.AccountBalances asked) (answer.AccountBalances rows) = rows.items ≡ history_of journal asked
  IsAnswer journal (filter.Accounts asked) (answer.Accounts rows) = rows.items ≡ found_accounts_of journal asked
  IsAnswer journal (filter.Transfers asked) (answer.Transfers rows) = rows.items ≡ found_transfers_of journal asked
  IsAnswer journal _ _ = ⊥

-- each question has an answer that a call with a reference to it may give
abbrev pub AreAnswered : {Q Y E : Type 0} → (Bor Q → Result Y E → Type 0) → List Q → List Y → Type 0
AreAnswered {Q} may_answer questions answers = (asked : List (Bor Q)) × (map (λ (question : Bor Q). question.now) asked ≡ questions)
    × AllZip (λ question answer. may_answer question (Ok answer)) asked answers
