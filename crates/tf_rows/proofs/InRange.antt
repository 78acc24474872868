-- The sums that the rows of a sound journal have are in range, so those that its next transfer leaves are.
use Rattle.std.proofs.Common.{◌≡◌, List, [], Option, Some, None, subst, refl, ap, inl, arith}
use Rattle.std.specs.Prelude.{IfSome}
use Rattle.std.specs.Option.{option_map_or}
use Rattle.tf_records.specs.declared.account.Account.{Account}
use Rattle.tf_journal.specs.declared.entry.Entry.{Entry}
use Rattle.tf_journal.specs.declared.side.Side.{Side}
use Rattle.tf_journal.specs.declared.side.Side.TheVariants.{Debit, Credit}
use Rattle.tf_journal.specs.Journal.{accounts_of}
use Rattle.tf_journal.specs.Laws.{IsWithinLimits}
use Rattle.tf_journal.specs.Lawful.{IsSound}
use Rattle.tf_manifest.specs.declared.row.Row.TheVariants as row
use Rattle.tf_manifest.specs.declared.value.State.{State}
use Rattle.tf_manifest.specs.declared.value.Value.TheVariants as value
use Rattle.tf_manifest.specs.Rows.{Pair, key_of, rows_of, state_of}
use Rattle.tf_manifest.specs.Shows.{value_of}
use Rattle.tf_manifest.proofs.Members.{Has, has_made}
use Rattle.tf_manifest.proofs.OneValue.{has_at}
use Rattle.tf_table.specs.declared.key.Key.{Key}
use Rattle.tf_rows.specs.declared.found.Party.{Party}
use Rattle.tf_rows.specs.Edits.{Edit, put, state_edit}
use Rattle.tf_rows.specs.LookUps.{as_state}
use Rattle.tf_rows.specs.Range.{IsInRange}
use Rattle.tf_rows.proofs.Changes.{RowsAreMaps}

balances_fit : (journal : List Entry) → IsWithinLimits journal → (side : Side) (a : Account) → IsInRange side (state_of journal a).sums
balances_fit journal limits Debit a = let sum = limits.sums Debit a.id in record { pending = omega (arith, sum); posted = omega (arith, sum) }
balances_fit journal limits Credit a = let sum = limits.sums Credit a.id in record { pending = omega (arith, sum); posted = omega (arith, sum) }

-- a state that the journal's rows have is that of an account
states_fit : RowsAreMaps → (journal : List Entry) → IsSound journal → IsWithinLimits journal → (k : Key) (s : State)
    → value_of journal row.AccountSums k ≡ Some (value.State s) → (side : Side) → IsInRange side s.sums
states_fit maps journal sound limits k s has side =
    let at = (maps journal sound row.AccountSums k (value.State s)).1 has in
    let made = has_made (λ (a : Account). (key_of 0 a.timestamp, value.State (state_of journal a))) (accounts_of journal) (k, value.State s) (has_at (rows_of journal row.AccountSums) at.0 (k, value.State s) at.1 at.2) in
    subst (λ (o : Option State). IfSome o (λ (t : State). IsInRange side t.sums)) (ap (λ (p : Pair). as_state p.1) made.is) (balances_fit journal limits side made.from)

module _ (maps : RowsAreMaps) (after : List Entry) (sound : IsSound after) (limits : IsWithinLimits after) where
  -- where an edit of an account's state is right, the state is in range
  pub edit_fits : (side : Side) (change : State → State) (party : Option Party)
      → ((edit : Edit) → Has (option_map_or (state_edit change) party []) edit → value_of after row.AccountSums edit.0 ≡ edit.1)
      → IfSome party (λ p. IsInRange side (change p.state).sums)
  edit_fits side change None right = tt
  edit_fits side change (Some p) right =
      states_fit maps after sound limits (key_of 0 p.account.timestamp) (change p.state)
      (right (put (key_of 0 p.account.timestamp) (value.State (change p.state))) (inl refl)) side
