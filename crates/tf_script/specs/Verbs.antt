-- The words that begin a command.
use Rattle.std.specs.Prelude.{ℕ, List, [], ◌∷◌, Option, Some, map, slice_get, codes}
use Rattle.tf_script.specs.Values.{◌>>=◌, place_of}
use Rattle.tf_script.specs.declared.verb.Verb.{Verb}
use Rattle.tf_script.specs.declared.verb.Verb.TheVariants.{Accounts, Transfers, Pulse, Publish, Compact, GetAccountTransfers, GetAccountBalances, QueryAccounts, QueryTransfers, LookupAccounts, LookupTransfers}

-- each command by its word
abbrev pub verbs : List (List ℕ × Verb)
verbs =
    (codes "accounts", Accounts)
    ∷ (codes "transfers", Transfers)
    ∷ (codes "pulse", Pulse)
    ∷ (codes "publish", Publish)
    ∷ (codes "compact", Compact)
    ∷ (codes "get_account_transfers", GetAccountTransfers)
    ∷ (codes "get_account_balances", GetAccountBalances)
    ∷ (codes "query_accounts", QueryAccounts)
    ∷ (codes "query_transfers", QueryTransfers)
    ∷ (codes "lookup_accounts", LookupAccounts)
    ∷ (codes "lookup_transfers", LookupTransfers)
    ∷ []

-- the command that a word begins
unfoldable pub verb_of : List ℕ → Option Verb
verb_of text = do
  place ← place_of (map (λ (entry : List ℕ × Verb). entry.0) verbs) text
  entry ← slice_get verbs place
  Some entry.1
