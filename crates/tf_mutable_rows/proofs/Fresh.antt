-- The entries of one row's mutable table among those of all.
use Rattle.std.proofs.Common.{◌≡◌, ◌≢◌, ◌⊎◌, ℕ, zero, suc, ◌+◌, ◌<◌, List, [], ◌∷◌, ◌++◌, length, Option, None, Result, Ok, Err, IfOk, OnOk, OnErr, Bool, true, false, inl, inr, refl, sym, ◌∙◌, ap, subst, slice_set, arith}
use Rattle.std.specs.Prelude.{slice_index_or, IsSome, IsTrue, ⊤, ◌==◌, ◌↔◌}
use Rattle.std.proofs.lemmas.Bool.{false≢true, ne_eqb}
use Rattle.std.proofs.lemmas.List.{length-append}
use Rattle.tf_sorted.specs.Rows.{with_row}
use Rattle.tf_journal.specs.declared.status.Status.{Status}
use Rattle.tf_records.specs.declared.account.Account.{Account}
use Rattle.tf_records.specs.declared.refusal.Refusal.{Refusal}
use Rattle.tf_records.specs.declared.sums.Sums.{Sums}
use Rattle.tf_table.specs.declared.key.Key.{Key}
use Rattle.tf_table.specs.Content.{entry_at}
use Rattle.tf_table.specs.Key.{key_cmp}
use Rattle.tf_mutable.specs.Mutable.{given_back}
use Rattle.tf_manifest.specs.declared.kind.Kind.{Kind}
use Rattle.tf_manifest.specs.declared.kind.Kind.TheVariants as kind
use Rattle.tf_manifest.specs.declared.kind.StampRow.{StampRow}
use Rattle.tf_manifest.specs.declared.kind.StampRow.TheVariants as stamp
use Rattle.tf_manifest.specs.declared.kind.UnitRow.{UnitRow}
use Rattle.tf_manifest.specs.declared.kind.UnitRow.TheVariants as unit
use Rattle.tf_manifest.specs.declared.kinds.Stored.{Stored}
use Rattle.tf_manifest.specs.declared.row.Row.{Row}
use Rattle.tf_manifest.specs.declared.value.IdStamp.{IdStamp}
use Rattle.tf_manifest.specs.declared.value.State.{State}
use Rattle.tf_manifest.specs.declared.value.Value.{Value}
use Rattle.tf_manifest.specs.Kinds.{kind_of, stamp_index, unit_index}
use Rattle.tf_manifest.specs.View.{StoredBy, value_by}
use Rattle.tf_mutable_rows.specs.declared.transfers.Field.{Field}
use Rattle.tf_mutable_rows.specs.declared.transfers.Field.TheVariants as field
use Rattle.tf_mutable_rows.specs.Fresh.{Fresh, entries_by, fresh_by}
use Rattle.tf_mutable_rows.specs.Indexes.{Keys, Objects, index_of, units_by, unit_of}
use Rattle.tf_rows.specs.Changes.{IsSingle}
use Rattle.tf_rows.specs.Record.{is_of_record}
use Rattle.tf_rows.specs.Nest.{IsTree, fits_row, is_of_kind, is_tree}
use Rattle.tf_rows.specs.Parts.{GivesBack, PutsEntry, seen_rows}
use Rattle.tf_rows.specs.SealedRow.{IsSealedOf, entries_of_sealed, kind_of_sealed}
use Rattle.tf_rows.specs.declared.sealed_row.SealedRow.{SealedRow}
use Rattle.tf_registry.specs.Row.{is_nil}
use Rattle.tf_rows.proofs.Apart.{apart_by, row_back, row_by, set_elsewhere, set_here, stamp_apart, unit_apart}
use Rattle.tf_rows.proofs.Parts.{none-seen}

-- the same with other entries in one row
abbrev pub with_fresh : Fresh → (k : Kind) → List (Key × Option (StoredBy k)) → Fresh
with_fresh fresh (kind.Stamp row) rows = record fresh { stamps = slice_set fresh.stamps (stamp_index row) rows }
with_fresh fresh kind.Account rows = record fresh { accounts = rows }
with_fresh fresh kind.Transfer rows = record fresh { transfers = rows }
with_fresh fresh kind.Id rows = record fresh { ids = rows }
with_fresh fresh (kind.Unit row) rows = record fresh { units = slice_set fresh.units (unit_index row) rows }
with_fresh fresh kind.State rows = record fresh { states = rows }
with_fresh fresh kind.Sums rows = record fresh { sums = rows }
with_fresh fresh kind.Status rows = record fresh { statuses = rows }

-- each row that is one of several of its kind has its place
pub record HasPlaces (fresh : Fresh) : Type 0 where
  pub stamps : length fresh.stamps ≡ 2
  pub units : length fresh.units ≡ 13

-- lists of which one is replaced
module _ {X : Type 0} where
  pub set_same : (xs : List (List X)) (at : ℕ) → slice_set xs at (slice_index_or xs at []) ≡ xs
  set_same [] at = refl
  set_same (y ∷ xs) zero = refl
  set_same (y ∷ xs) (suc at) = ap (λ (ys : List (List X)). y ∷ ys) (set_same xs at)

  -- one of the first ones, in front of others
  set_first : (xs rest : List (List X)) (at : ℕ) (x : List X) → at < length xs → slice_set xs at x ++ rest ≡ slice_set (xs ++ rest) at x
  set_first [] rest at x h = absurd (omega (arith, h))
  set_first (y ∷ xs) rest zero x h = refl
  set_first (y ∷ xs) rest (suc at) x h = ap (λ (ys : List (List X)). y ∷ ys) (set_first xs rest at x (omega (arith, h)))

  pub at_first : (xs rest : List (List X)) (at : ℕ) (d : List X) → at < length xs → slice_index_or (xs ++ rest) at [] ≡ slice_index_or xs at d
  at_first [] rest at d h = absurd (omega (arith, h))
  at_first (y ∷ xs) rest zero d h = refl
  at_first (y ∷ xs) rest (suc at) d h = at_first xs rest at d (omega (arith, h))

  -- one of those behind them
  pub set_behind : (xs rest : List (List X)) (i at : ℕ) (x : List X) → at ≡ length xs + i → xs ++ slice_set rest i x ≡ slice_set (xs ++ rest) at x
  set_behind [] rest i at x e = let same : i ≡ at = omega (arith, e) in ap (λ (n : ℕ). slice_set rest n x) same
  set_behind (y ∷ xs) rest i zero x e = absurd (omega (arith, e))
  set_behind (y ∷ xs) rest i (suc at) x e = ap (λ (ys : List (List X)). y ∷ ys) (set_behind xs rest i at x (omega (arith, e)))

  pub at_behind : (xs rest : List (List X)) (i at : ℕ) → at ≡ length xs + i → slice_index_or (xs ++ rest) at [] ≡ slice_index_or rest i []
  at_behind [] rest i at e = let same : at ≡ i = omega (arith, e) in ap (λ (n : ℕ). slice_index_or rest n []) same
  at_behind (y ∷ xs) rest i zero e = absurd (omega (arith, e))
  at_behind (y ∷ xs) rest i (suc at) e = at_behind xs rest i at (omega (arith, e))

  pub index_read : (xs ys rest : List (List X)) (u : UnitRow) (at : ℕ) (d x : List X) → at ≡ unit_index u → at < 5 → length xs ≡ 5 → ys ≡ xs → x ≡ slice_index_or ys at d → slice_index_or (xs ++ rest) (unit_index u) [] ≡ x
  index_read xs ys rest u at d x e below many same is =
      ap (λ (i : ℕ). slice_index_or (xs ++ rest) i []) (sym e)
      ∙ at_first xs rest at d (omega (arith, below, many))
      ∙ ap (λ (zs : List (List X)). slice_index_or zs at d) (sym same)
      ∙ sym is

  pub index_set : (xs ys new rest : List (List X)) (u : UnitRow) (at : ℕ) (x : List X) → at ≡ unit_index u → at < 5 → length xs ≡ 5 → ys ≡ xs → new ≡ slice_set ys at x → new ++ rest ≡ slice_set (xs ++ rest) (unit_index u) x
  index_set xs ys new rest u at x e below many same is =
      ap (λ (zs : List (List X)). zs ++ rest) (is ∙ ap (λ (zs : List (List X)). slice_set zs at x) same)
      ∙ set_first xs rest at x (omega (arith, below, many))
      ∙ ap (λ (i : ℕ). slice_set (xs ++ rest) i x) e

  -- no list has anything
  abbrev pub AreNone : List (List X) → Type 0
  AreNone [] = ⊤
  AreNone (rows ∷ xs) = (rows ≡ []) × AreNone xs

  pub none_at : (xs : List (List X)) → AreNone xs → (at : ℕ) → slice_index_or xs at [] ≡ []
  none_at [] none at = refl
  none_at (rows ∷ xs) none zero = none.0
  none_at (rows ∷ xs) none (suc at) = none_at xs none.1 at

  two_none : (first second : List X) → first ≡ [] → second ≡ [] → (at : ℕ) → slice_index_or (first ∷ second ∷ []) at [] ≡ []
  two_none first second f s = none_at (first ∷ second ∷ []) (f, (s, tt))

  none_and_rest : (xs rest : List (List X)) → ((at : ℕ) → slice_index_or xs at [] ≡ []) → AreNone rest → (at : ℕ) → slice_index_or (xs ++ rest) at [] ≡ []
  none_and_rest [] rest none others at = none_at rest others at
  none_and_rest (rows ∷ xs) rest none others zero = none 0
  none_and_rest (rows ∷ xs) rest none others (suc at) = none_and_rest xs rest (λ i. none (suc i)) others at

-- the rows that store nothing beside their keys, of which five are indexes of accounts
module _ (accounts : List Keys) (transfers : Objects) (expiry : Keys) (many : length accounts ≡ 5) where
  pub units_many : length (units_by accounts transfers expiry) ≡ 13
  units_many = length-append accounts _ ∙ ap (λ (n : ℕ). n + 8) many

  pub at_field : (f : Field) → slice_index_or (units_by accounts transfers expiry) (unit_index (unit_of f)) [] ≡ index_of f transfers
  at_field field.Debit = at_behind accounts _ 0 5 (omega (arith, many))
  at_field field.Credit = at_behind accounts _ 1 6 (omega (arith, many))
  at_field field.UserData128 = at_behind accounts _ 2 7 (omega (arith, many))
  at_field field.UserData64 = at_behind accounts _ 3 8 (omega (arith, many))
  at_field field.UserData32 = at_behind accounts _ 4 9 (omega (arith, many))
  at_field field.Ledger = at_behind accounts _ 5 10 (omega (arith, many))
  at_field field.Code = at_behind accounts _ 6 11 (omega (arith, many))

  pub field_read : (f : Field) (u : UnitRow) → unit_of f ≡ u → slice_index_or (units_by accounts transfers expiry) (unit_index u) [] ≡ index_of f transfers
  field_read f u is = ap (λ (v : UnitRow). slice_index_or (units_by accounts transfers expiry) (unit_index v) []) (sym is) ∙ at_field f

  pub expiry_read : (u : UnitRow) → u ≡ unit.Expiry → slice_index_or (units_by accounts transfers expiry) (unit_index u) [] ≡ expiry
  expiry_read u is =
      ap (λ (v : UnitRow). slice_index_or (units_by accounts transfers expiry) (unit_index v) []) is ∙ at_behind accounts _ 7 12 (omega (arith, many))

  pub expiry_set : (u : UnitRow) (rows : Keys) → u ≡ unit.Expiry → units_by accounts transfers rows ≡ slice_set (units_by accounts transfers expiry) (unit_index u) rows
  expiry_set u rows is =
      set_behind accounts _ 7 12 rows (omega (arith, many)) ∙ ap (λ (v : UnitRow). slice_set (units_by accounts transfers expiry) (unit_index v) rows) (sym is)

-- whether the mutable table of a row of a kind takes an entry for any key
abbrev pub tree_by : Kind → Bool
tree_by k = is_tree (row_by k)

tree_is : (r : Row) → is_tree r ≡ tree_by (kind_of r)
tree_is r = ap is_tree (sym (row_back r))

-- no index of accounts has a tree
pub index_is_log : (u : UnitRow) (at : ℕ) → at ≡ unit_index u → at < 5 → tree_by (kind.Unit u) ≡ false
index_is_log unit.Expiry at e h = absurd (omega (arith, e, h))
index_is_log _ at e h = refl

-- whether a row of a kind has something of transfers' records
abbrev of_record_by : Kind → Bool
of_record_by k = is_of_record (row_by k)

of_record_is : (r : Row) → is_of_record r ≡ of_record_by (kind_of r)
of_record_is r = ap is_of_record (sym (row_back r))

not_single : (r : Row) (k : Kind) → k ≡ kind_of r → of_record_by k ≡ true → IsSingle r → ⊥
not_single r k of has single = false≢true (sym single ∙ of_record_is r ∙ ap of_record_by (sym of) ∙ has)

-- no such row is a transfer's object, nor an index of transfers
pub objects_not_single : (r : Row) → kind.Transfer ≡ kind_of r → IsSingle r → ⊥
objects_not_single r of single = not_single r kind.Transfer of refl single

pub index_not_single : (r : Row) (u : UnitRow) (f : Field) → kind.Unit u ≡ kind_of r → unit_of f ≡ u → IsSingle r → ⊥
index_not_single r u f of is single = not_single r (kind.Unit u) of (ap (λ (v : UnitRow). of_record_by (kind.Unit v)) (sym is) ∙ has f) single where
  has : (g : Field) → of_record_by (kind.Unit (unit_of g)) ≡ true
  has = elim [
    | field.Debit ↦ refl
    | field.Credit ↦ refl
    | field.UserData128 ↦ refl
    | field.UserData64 ↦ refl
    | field.UserData32 ↦ refl
    | field.Ledger ↦ refl
    | field.Code ↦ refl
  ]

stamp_within : (u : StampRow) → stamp_index u < 2
stamp_within stamp.AccountIds = omega arith
stamp_within stamp.ExpiryEntries = omega arith

unit_within : (u : UnitRow) → unit_index u < 13
unit_within = elim [
  | unit.AccountUserData128 ↦ omega arith
  | unit.AccountUserData64 ↦ omega arith
  | unit.AccountUserData32 ↦ omega arith
  | unit.AccountLedger ↦ omega arith
  | unit.AccountCode ↦ omega arith
  | unit.TransferDebit ↦ omega arith
  | unit.TransferCredit ↦ omega arith
  | unit.TransferUserData128 ↦ omega arith
  | unit.TransferUserData64 ↦ omega arith
  | unit.TransferUserData32 ↦ omega arith
  | unit.TransferLedger ↦ omega arith
  | unit.TransferCode ↦ omega arith
  | unit.Expiry ↦ omega arith
]

pub here : (fresh : Fresh) (k : Kind) (rows : List (Key × Option (StoredBy k))) → HasPlaces fresh → fresh_by (with_fresh fresh k rows) k ≡ rows
here fresh (kind.Stamp u) rows h = set_here fresh.stamps (stamp_index u) rows (omega (arith, stamp_within u, h.stamps))
here fresh kind.Account rows h = refl
here fresh kind.Transfer rows h = refl
here fresh kind.Id rows h = refl
here fresh (kind.Unit u) rows h = set_here fresh.units (unit_index u) rows (omega (arith, unit_within u, h.units))
here fresh kind.State rows h = refl
here fresh kind.Sums rows h = refl
here fresh kind.Status rows h = refl

pub elsewhere : (fresh : Fresh) (k other : Kind) (rows : List (Key × Option (StoredBy k))) → other ≢ k → fresh_by (with_fresh fresh k rows) other ≡ fresh_by fresh other
elsewhere fresh (kind.Stamp u) (kind.Stamp other) rows h = set_elsewhere fresh.stamps (stamp_index u) (stamp_index other) rows (stamp_apart u other h)
elsewhere fresh (kind.Stamp u) _ rows h = refl
elsewhere fresh kind.Account kind.Account rows h = absurd (h refl)
elsewhere fresh kind.Account _ rows h = refl
elsewhere fresh kind.Transfer kind.Transfer rows h = absurd (h refl)
elsewhere fresh kind.Transfer _ rows h = refl
elsewhere fresh kind.Id kind.Id rows h = absurd (h refl)
elsewhere fresh kind.Id _ rows h = refl
elsewhere fresh (kind.Unit u) (kind.Unit other) rows h = set_elsewhere fresh.units (unit_index u) (unit_index other) rows (unit_apart u other h)
elsewhere fresh (kind.Unit u) _ rows h = refl
elsewhere fresh kind.State kind.State rows h = absurd (h refl)
elsewhere fresh kind.State _ rows h = refl
elsewhere fresh kind.Sums kind.Sums rows h = absurd (h refl)
elsewhere fresh kind.Sums _ rows h = refl
elsewhere fresh kind.Status kind.Status rows h = absurd (h refl)
elsewhere fresh kind.Status _ rows h = refl

with_same : (fresh : Fresh) (k : Kind) → with_fresh fresh k (fresh_by fresh k) ≡ fresh
with_same fresh (kind.Stamp u) = ap (λ (lists : List (List (Key × Option ℕ))). record fresh { stamps = lists }) (set_same fresh.stamps (stamp_index u))
with_same fresh kind.Account = refl
with_same fresh kind.Transfer = refl
with_same fresh kind.Id = refl
with_same fresh (kind.Unit u) = ap (λ (lists : List (List (Key × Option (Unit {0})))). record fresh { units = lists }) (set_same fresh.units (unit_index u))
with_same fresh kind.State = refl
with_same fresh kind.Sums = refl
with_same fresh kind.Status = refl

-- no row has an entry where no table has
no_entries : (fresh : Fresh) → ((i : ℕ) → slice_index_or fresh.stamps i [] ≡ []) → fresh.accounts ≡ [] → fresh.transfers ≡ [] → fresh.ids ≡ [] → ((i : ℕ) → slice_index_or fresh.units i [] ≡ []) → fresh.states ≡ [] → fresh.sums ≡ [] → fresh.statuses ≡ []
    → (r : Row) → entries_by fresh r ≡ []
no_entries fresh stamps accounts transfers ids units states sums statuses r = ap (seen_rows (value_by (kind_of r))) (by_kind (kind_of r)) where
  by_kind : (k : Kind) → fresh_by fresh k ≡ []
  by_kind (kind.Stamp u) = stamps (stamp_index u)
  by_kind kind.Account = accounts
  by_kind kind.Transfer = transfers
  by_kind kind.Id = ids
  by_kind (kind.Unit u) = units (unit_index u)
  by_kind kind.State = states
  by_kind kind.Sums = sums
  by_kind kind.Status = statuses

no_units : (accounts : List Keys) (transfers : Objects) (expiry : Keys) → ((i : ℕ) → slice_index_or accounts i [] ≡ []) → transfers ≡ [] → expiry ≡ [] → (i : ℕ) → slice_index_or (units_by accounts transfers expiry) i [] ≡ []
no_units accounts transfers expiry no_accounts no_transfers no_expiry =
    let none = λ (f : Field). ap (index_of f) no_transfers in
    none_and_rest accounts _ no_accounts
    (none field.Debit, (none field.Credit, (none field.UserData128, (none field.UserData64, (none field.UserData32, (none field.Ledger, (none field.Code, (no_expiry, tt))))))))

pub none_in_any : {account_ids expiry_entries : List (Key × Option ℕ)} {accounts : List (Key × Option (Stored Account))} {transfers : Objects} {ids : List (Key × Option IdStamp)}
    {expiry : Keys} {states : List (Key × Option State)} {sums : List (Key × Option (Stored Sums))} {statuses : List (Key × Option (Stored Status))}
    → (indexes : List Keys) → account_ids ≡ [] → expiry_entries ≡ [] → accounts ≡ [] → transfers ≡ [] → ids ≡ []
    → ((i : ℕ) → slice_index_or indexes i [] ≡ []) → expiry ≡ [] → states ≡ [] → sums ≡ [] → statuses ≡ []
    → (r : Row) → entries_by (record { stamps = account_ids ∷ expiry_entries ∷ []; accounts = accounts; transfers = transfers; ids = ids; units = units_by indexes transfers expiry; states = states; sums = sums; statuses = statuses }) r ≡ []
none_in_any {account_ids} {expiry_entries} {accounts} {transfers} {ids} {expiry} {states} {sums} {statuses} indexes no_account_ids no_expiry_entries no_accounts no_transfers no_ids no_indexes no_expiry no_states no_sums no_statuses =
    no_entries (record { stamps = account_ids ∷ expiry_entries ∷ []; accounts = accounts; transfers = transfers; ids = ids; units = units_by indexes transfers expiry; states = states; sums = sums; statuses = statuses })
    (two_none account_ids expiry_entries no_account_ids no_expiry_entries) no_accounts no_transfers no_ids (no_units indexes transfers expiry no_indexes no_transfers no_expiry) no_states no_sums no_statuses

-- other entries of a row that stores nothing beside its keys
pub units_become : (inside : Fresh) (u : UnitRow) (rows : List (Key × Option (Unit {0}))) (units : List (List (Key × Option (Unit {0})))) → units ≡ slice_set inside.units (unit_index u) rows
    → record inside { units = units } ≡ with_fresh inside (kind.Unit u) rows
units_become inside u rows units is = ap (λ (lists : List (List (Key × Option (Unit {0})))). record inside { units = lists }) is

-- whether there are no entries, by their number
none_counted : {V : Type 0} (seen : V → Value) (rows : List (Key × Option V)) → (length rows == 0) ≡ is_nil (seen_rows seen rows)
none_counted seen [] = refl
none_counted seen (row ∷ rows) = ne_eqb (suc (length rows)) 0 (λ e. omega (arith, e))

-- and by what a tree tells
none_told : {V : Type 0} (seen : V → Value) (rows : List (Key × Option V)) (told : Bool) → (IsTrue told ↔ (rows ≡ [])) → told ≡ is_nil (seen_rows seen rows)
none_told seen [] true e = refl
none_told seen [] false e = absurd (false≢true (e.1 refl))
none_told seen (row ∷ rows) true e = let none : row ∷ rows ≡ [] = e.0 refl in absurd (cc)
none_told seen (row ∷ rows) false e = refl

-- of the mutable tables whose entries are `inside` and are seen as `view`, the one of a row, of this kind, that has the
-- entries `old`
module _ (inside view : Fresh) (is : inside ≡ view) (r : Row) (k : Kind) (of : k ≡ kind_of r) (old : List (Key × Option (StoredBy k))) (has : fresh_by inside k ≡ old) where
  -- they are the row's
  pub read : seen_rows (value_by k) old ≡ entries_by view r
  read =
      ap (seen_rows (value_by k)) (sym has)
      ∙ ap (λ (fresh : Fresh). seen_rows (value_by k) (fresh_by fresh k)) is
      ∙ ap (λ (x : Kind). seen_rows (value_by x) (fresh_by view x)) of

  -- a log or a hash table without rows has none for the row
  pub no_log : (result : Bool) → result ≡ (length old == 0) → result ≡ is_nil (entries_by view r)
  no_log result e = e ∙ none_counted (value_by k) old ∙ ap is_nil read

  -- nor has a tree
  pub no_tree : (result : Bool) → (IsTrue result ↔ (old ≡ [])) → result ≡ is_nil (entries_by view r)
  no_tree result e = none_told (value_by k) old result e ∙ ap is_nil read

  -- a sealed table of this kind with these entries is sealed of the row
  pub sealed_of : {A : Type 0} (s : SealedRow A) (named : kind_of_sealed s ≡ k) → seen_rows (value_by (kind_of_sealed s)) (entries_of_sealed s) ≡ seen_rows (value_by k) old → IsSealedOf {A = A} (entries_by view) r s
  sealed_of s named e = record { of = named ∙ of; entries = e ∙ read }

  pub found : (key : Key) (result : Option (Option Value)) → result ≡ entry_at key (seen_rows (value_by k) old) → result ≡ entry_at key (entries_by view r)
  found key result e = e ∙ ap (entry_at key) read

  -- a log takes a key that it doesn't have
  pub takes_new : (key : Key) → tree_by k ≡ false → (entry_at key (entries_by view r) ≡ None) ⊎ IsTree r → entry_at key old ≡ None
  takes_new key log (inl none) = none-seen (value_by k) key old (ap (entry_at key) read ∙ none)
  takes_new key log (inr tree) = absurd (false≢true (sym log ∙ ap tree_by of ∙ sym (tree_is r) ∙ tree))

  pub there : (key : Key) → IsSome (entry_at key (entries_by view r)) → IsSome (entry_at key (seen_rows (value_by k) old))
  there key h = subst (λ (rows : List (Key × Option Value)). IsSome (entry_at key rows)) (sym read) h

  -- what is of the kind is of the row
  pub of_kind : (P : (Value → Bool) → Type 0) → P (λ value. fits_row r value) → P (λ value. is_of_kind k value)
  of_kind P h = subst (λ (x : Kind). P (λ value. is_of_kind x value)) (sym of) h

  pub of_row : (P : (Value → Bool) → Type 0) → P (λ value. is_of_kind k value) → P (λ value. fits_row r value)
  of_row P h = subst (λ (x : Kind). P (λ value. is_of_kind x value)) of h

  -- and where it has others then
  module _ (places : HasPlaces inside) (rows : List (Key × Option (StoredBy k))) (new : Fresh) (becomes : new ≡ with_fresh inside k rows) where
    changed_here : entries_by new r ≡ seen_rows (value_by k) rows
    changed_here =
        ap (λ (x : Kind). seen_rows (value_by x) (fresh_by new x)) (sym of)
        ∙ ap (λ (fresh : Fresh). seen_rows (value_by k) (fresh_by fresh k)) becomes
        ∙ ap (seen_rows (value_by k)) (here inside k rows places)

    changed_elsewhere : (other : Row) → other ≢ r → entries_by new other ≡ entries_by view other
    changed_elsewhere other apart =
        ap (λ (fresh : Fresh). entries_by fresh other) becomes
        ∙ ap (seen_rows (value_by (kind_of other))) (elsewhere inside k (kind_of other) rows (λ e. apart_by r other apart (e ∙ of)))
        ∙ ap (λ (fresh : Fresh). entries_by fresh other) is

    pub puts : (key : Key) (entry : Option Value) (result : Result (Option (Option Value)) Refusal)
        → OnOk result (seen_rows (value_by k) rows ≡ with_row key_cmp key entry (seen_rows (value_by k) old))
        → OnOk result (IsSome (entry_at key (seen_rows (value_by k) rows)))
        → IfOk result (λ before. given_back key before (seen_rows (value_by k) rows) ≡ seen_rows (value_by k) old)
        → IfOk result (λ before. PutsEntry r key entry before (entries_by view) (entries_by new))
    puts key entry (Ok before) put some restores = record {
      here = changed_here ∙ put ∙ ap (with_row key_cmp key entry) read;
      there = subst (λ (all : List (Key × Option Value)). IsSome (entry_at key all)) (sym changed_here) some;
      restores = ap (given_back key before) changed_here ∙ restores ∙ read;
      elsewhere = changed_elsewhere;
    }
    puts key entry (Err refusal) put some restores = tt

    pub gives_back : (key : Key) (before : Option (Option Value)) → seen_rows (value_by k) rows ≡ given_back key before (seen_rows (value_by k) old)
        → GivesBack r key before (entries_by view) (entries_by new)
    gives_back key before back = record { here = changed_here ∙ back ∙ ap (given_back key before) read; elsewhere = changed_elsewhere }

    pub unchanged : rows ≡ old → entries_by new ≡ entries_by view
    unchanged same = ap entries_by (becomes ∙ ap (with_fresh inside k) (same ∙ sym has) ∙ with_same inside k ∙ is)

    pub keeps : {X : Type 0} (result : Result X Refusal) → OnErr result (rows ≡ old) → OnErr result (entries_by new ≡ entries_by view)
    keeps (Ok before) same = tt
    keeps (Err refusal) same = unchanged same
