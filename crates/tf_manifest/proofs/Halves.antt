-- Manifests that are put together from two halves.
use Rattle.std.proofs.Common.{◌≡◌, ℕ, ◌≤◌, List, [], replicate, Option, Some, None, IfSome, refl, sym, ◌∙◌, ap, subst, arith}
use Rattle.std.specs.List.{All}
use Rattle.std.proofs.lemmas.List.Elements.{All-replicate}
use Rattle.std.specs.Option.{option_zip}
use Rattle.tf_journal.specs.declared.status.Status.{Status}
use Rattle.tf_records.specs.declared.account.Account.{Account}
use Rattle.tf_records.specs.declared.sums.Sums.{Sums}
use Rattle.tf_records.specs.declared.transfer.Transfer.{Transfer}
use Rattle.tf_manifest.specs.declared.kinds.Stored.{Stored}
use Rattle.tf_manifest.specs.declared.value.IdStamp.{IdStamp}
use Rattle.tf_manifest.specs.declared.value.State.{State}
use Rattle.tf_manifest.specs.Halves.{Rows, AreRecords, AreStates}
use Rattle.tf_manifest.specs.View.{View, IsLight, HasRows, no_tables}
use Rattle.tf_registry.specs.Limit.{Pushed}
use Rattle.tf_registry.specs.Row.{weight}
use Rattle.tf_registry.specs.Table.{Shown}

both : {S T : Type 0} (P : S → Type 0) (Q : T → Type 0) (a : Option S) (b : Option T) → IfSome a P → IfSome b Q → IfSome (option_zip a b) (λ p. P p.0 × Q p.1)
both P Q None b x y = tt
both P Q (Some s) None x y = tt
both P Q (Some s) (Some t) x y = (x, y)

weaker : {S : Type 0} (P Q : S → Type 0) (a : Option S) → ((s : S) → P s → Q s) → IfSome a P → IfSome a Q
weaker P Q None f h = tt
weaker P Q (Some s) f h = f s h

-- what holds of two values that are there holds of each
pub zipped : {S T : Type 0} (P : S → Type 0) (Q : T → Type 0) (a : Option S) (b : Option T) (s : S) (t : T) → Some (s, t) ≡ option_zip a b → IfSome a P → IfSome b Q → P s × Q t
zipped P Q a b s t e x y = subst (λ o. IfSome o (λ p. P p.0 × Q p.1)) (sym e) (both P Q a b x y)

abbrev pub RecordRows : Type 0
RecordRows = (Rows ℕ × Rows (Stored Account)) × (Rows (Stored Transfer) × Rows IdStamp)

abbrev pub StateRows : Type 0
StateRows = (Rows (Unit {0}) × Rows State) × (Rows (Stored Sums) × Rows (Stored Status))

module _ (view : View) where
  -- four kinds of rows that are there are the first half
  pub records : (stamps : Option (Rows ℕ)) (accounts : Option (Rows (Stored Account))) (transfers : Option (Rows (Stored Transfer))) (ids : Option (Rows IdStamp)) (all : Option RecordRows)
      → IfSome stamps (λ rows. rows ≡ view.stamps) → IfSome accounts (λ rows. rows ≡ view.accounts) → IfSome transfers (λ rows. rows ≡ view.transfers) → IfSome ids (λ rows. rows ≡ view.ids)
      → all ≡ option_zip (option_zip stamps accounts) (option_zip transfers ids) → IfSome all (AreRecords view)
  records stamps accounts transfers ids all h1 h2 h3 h4 is =
      weaker (λ h. ((h.0.0 ≡ view.stamps) × (h.0.1 ≡ view.accounts)) × ((h.1.0 ≡ view.transfers) × (h.1.1 ≡ view.ids))) (AreRecords view) all
      (λ h e. record { stamps = e.0.0; accounts = e.0.1; transfers = e.1.0; ids = e.1.1 })
      (subst (λ o. IfSome o (λ h. ((h.0.0 ≡ view.stamps) × (h.0.1 ≡ view.accounts)) × ((h.1.0 ≡ view.transfers) × (h.1.1 ≡ view.ids)))) (sym is)
      (both (λ p. (p.0 ≡ view.stamps) × (p.1 ≡ view.accounts)) (λ p. (p.0 ≡ view.transfers) × (p.1 ≡ view.ids)) (option_zip stamps accounts) (option_zip transfers ids)
      (both (λ rows. rows ≡ view.stamps) (λ rows. rows ≡ view.accounts) stamps accounts h1 h2)
      (both (λ rows. rows ≡ view.transfers) (λ rows. rows ≡ view.ids) transfers ids h3 h4)))

  -- four kinds of rows that are there are the second half
  pub states : (units : Option (Rows (Unit {0}))) (balances : Option (Rows State)) (sums : Option (Rows (Stored Sums))) (statuses : Option (Rows (Stored Status))) (all : Option StateRows)
      → IfSome units (λ rows. rows ≡ view.units) → IfSome balances (λ rows. rows ≡ view.states) → IfSome sums (λ rows. rows ≡ view.sums) → IfSome statuses (λ rows. rows ≡ view.statuses)
      → all ≡ option_zip (option_zip units balances) (option_zip sums statuses) → IfSome all (AreStates view)
  states units balances sums statuses all h1 h2 h3 h4 is =
      weaker (λ h. ((h.0.0 ≡ view.units) × (h.0.1 ≡ view.states)) × ((h.1.0 ≡ view.sums) × (h.1.1 ≡ view.statuses))) (AreStates view) all
      (λ h e. record { units = e.0.0; states = e.0.1; sums = e.1.0; statuses = e.1.1 })
      (subst (λ o. IfSome o (λ h. ((h.0.0 ≡ view.units) × (h.0.1 ≡ view.states)) × ((h.1.0 ≡ view.sums) × (h.1.1 ≡ view.statuses)))) (sym is)
      (both (λ p. (p.0 ≡ view.units) × (p.1 ≡ view.states)) (λ p. (p.0 ≡ view.sums) × (p.1 ≡ view.statuses)) (option_zip units balances) (option_zip sums statuses)
      (both (λ rows. rows ≡ view.units) (λ rows. rows ≡ view.states) units balances h1 h2)
      (both (λ rows. rows ≡ view.sums) (λ rows. rows ≡ view.statuses) sums statuses h3 h4)))

-- the rows of two halves and a count of pushes
abbrev pub of_halves : RecordRows → StateRows → Pushed → View
of_halves records states pushed = record {
  stamps = records.0.0;
  accounts = records.0.1;
  transfers = records.1.0;
  ids = records.1.1;
  units = states.0.0;
  states = states.0.1;
  sums = states.1.0;
  statuses = states.1.1;
  pushed = pushed;
}

pub whole : (view : View) (records : RecordRows) (states : StateRows) (pushed : Pushed) → AreRecords view records → AreStates view states → pushed ≡ view.pushed → of_halves records states pushed ≡ view
whole view records states pushed r s p =
    ap (λ (x : Rows ℕ). record (of_halves records states pushed) { stamps = x }) r.stamps
    ∙ ap (λ (x : Rows (Stored Account)). record (of_halves records states pushed) { stamps = view.stamps; accounts = x }) r.accounts
    ∙ ap (λ (x : Rows (Stored Transfer)). record (of_halves records states pushed) { stamps = view.stamps; accounts = view.accounts; transfers = x }) r.transfers
    ∙ ap (λ (x : Rows IdStamp). record view { ids = x; units = states.0.0; states = states.0.1; sums = states.1.0; statuses = states.1.1; pushed = pushed }) r.ids
    ∙ ap (λ (x : Rows (Unit {0})). record view { units = x; states = states.0.1; sums = states.1.0; statuses = states.1.1; pushed = pushed }) s.units
    ∙ ap (λ (x : Rows State). record view { states = x; sums = states.1.0; statuses = states.1.1; pushed = pushed }) s.states
    ∙ ap (λ (x : Rows (Stored Sums)). record view { sums = x; statuses = states.1.1; pushed = pushed }) s.sums
    ∙ ap (λ (x : Rows (Stored Status)). record view { statuses = x; pushed = pushed }) s.statuses
    ∙ ap (λ (x : Pushed). record view { pushed = x }) p

-- what always holds of a manifest holds of one that is put together
pub sound : (view : View) (records : RecordRows) (states : StateRows) (pushed : Pushed) (r : Option RecordRows) (s : Option StateRows)
    → Some (records, states) ≡ option_zip r s → IfSome r (AreRecords view) → IfSome s (AreStates view) → pushed ≡ view.pushed → IsLight view × HasRows view
    → IsLight (of_halves records states pushed) × HasRows (of_halves records states pushed)
sound view records states pushed r s e hr hs p holds =
    let parts : AreRecords view records × AreStates view states = zipped (AreRecords view) (AreStates view) r s records states e hr hs in
    subst (λ (v : View). IsLight v × HasRows v) (sym (whole view records states pushed parts.0 parts.1 p)) holds

empty : {V : Type 0} (count : ℕ) → All (λ (tables : List (Shown V)). weight tables ≤ 0) (replicate count [])
empty {V} count = All-replicate (λ (tables : List (Shown V)). weight tables ≤ 0) count [] (omega arith)

-- what always holds of a manifest holds of one with no tables
pub starts : (limit : ℕ) → IsLight (no_tables limit) × HasRows (no_tables limit)
starts limit = (
  record { stamps = empty 2; accounts = empty 1; transfers = empty 1; ids = empty 1; units = empty 13; states = empty 1; sums = empty 1; statuses = empty 1 },
  record { stamps = refl; accounts = refl; transfers = refl; ids = refl; units = refl; states = refl; sums = refl; statuses = refl },
)
