-- The notes that take the last entries of the journal that rows spell back.
use Rattle.std.specs.Prelude.{◌≡◌, ◌+◌, ℕ, List, [], ◌∷◌, ◌++◌, length, take, Option, ⊤, Bool}
use Rattle.tf_table.specs.declared.key.Key.{Key}
use Rattle.tf_journal.specs.declared.entry.Entry.{Entry}
use Rattle.tf_journal.specs.Journal.{IsUpTo}
use Rattle.tf_manifest.specs.declared.row.Row.{Row}
use Rattle.tf_manifest.specs.declared.value.Value.{Value}
use Rattle.tf_rows.specs.declared.change.Step.{Step}
use Rattle.tf_rows.specs.declared.floors.Floors.{Floors}
use Rattle.tf_rows.specs.declared.former.Formers.{Formers}
use Rattle.tf_rows.specs.declared.found.Party.{Party}
use Rattle.tf_rows.specs.Changes.{CanStepAll, all_stepped}
use Rattle.tf_rows.specs.Edits.{party_of}
use Rattle.tf_rows.specs.Counts.{Sealed}
use Rattle.tf_rows.specs.DueSet.{Keys, StayHeld}
use Rattle.tf_rows.specs.Floors.{HaveFloors}
use Rattle.tf_rows.specs.Parts.{Parts, fresh_in}
use Rattle.tf_rows.specs.Resident.{AreAmong, accounts_before}
use Rattle.tf_rows.specs.Spelled.{ShowTheirJournal, journal_in}
use Rattle.tf_publish.specs.Tables.{listed}
use Rattle.tf_forest.specs.UsedIds.{AreKnown}

-- what takes an entry back: the steps in the rows, and the accounts that it changed as they were
pub record Noted : Type 0 where
  pub steps : List Step
  pub formers : Formers

-- the rows before the entries that notes take back, the newest first
abbrev pub all_undone : List Noted → Parts → Parts
all_undone [] rows = rows
all_undone (note ∷ notes) rows = all_stepped note.steps (all_undone notes rows)

-- what the mutable tables have, row by row, once all entries with a note are taken back, all but the first, and so on, and as they are
abbrev pub fresh_at_marks : List Noted → Parts → List (List (List (Key × Option Value)))
fresh_at_marks [] rows = listed (fresh_in rows) ∷ []
fresh_at_marks (note ∷ notes) rows = listed (fresh_in (all_undone (note ∷ notes) rows)) ∷ fresh_at_marks notes rows

-- of a set of rows: which are in it, what values they store, and which take an entry for any key
module _ (has : Row → Bool) (fits : Row → Value → Bool) (takes_any : Row → Type 0) where
  -- a note that takes the last entry back
  pub record TakesBack (note : Noted) (rows : Parts) : Type 0 where
    pub can : CanStepAll has fits takes_any note.steps rows
    pub shows : ShowTheirJournal (all_stepped note.steps rows)
    pub last : Entry
    pub added : journal_in rows ≡ journal_in (all_stepped note.steps rows) ++ last ∷ []
    pub accounts : (id : ℕ) → accounts_before note.formers (party_of (journal_in rows)) id ≡ party_of (journal_in (all_stepped note.steps rows)) id

  -- each note takes back the entry that was last, once the newer ones are taken back
  abbrev pub AreRight : List Noted → Parts → Type 0
  AreRight [] rows = ⊤
  AreRight (note ∷ notes) rows = AreRight notes rows × TakesBack note (all_undone notes rows)

  -- what always holds of a forest: its rows show their journal, a note takes back each entry that isn't kept, no transfer
  -- can expire below its floors or without being held, the accounts that it holds are right, it knows each id that is in use, and no
  -- entry that is kept is younger than its clock
  pub record IsForest (rows : Parts) (notes : List Noted) (kept clock : ℕ) (lows : Floors) (keys : Keys) (held : List (ℕ × Party)) (known : List (List ℕ)) : Type 0 where
    pub shows : ShowTheirJournal rows
    pub right : AreRight notes rows
    pub count : length (journal_in rows) ≡ kept + length notes
    pub floors : HaveFloors lows (journal_in rows) kept
    pub due : StayHeld keys (journal_in rows) kept
    pub resident : AreAmong (party_of (journal_in rows)) held
    pub used : AreKnown known (journal_in rows)
    pub up_to : IsUpTo clock (take kept (journal_in rows))

-- a journal without so many of its last entries
pub record IsCut (old new : List Entry) (count : ℕ) : Type 0 where
  pub undone : List Entry
  pub is : old ≡ new ++ undone
  pub many : length undone ≡ count

-- what contracts see of a forest: its journal, its rows' sealed tables with what was counted of them, what its mutable tables
-- have, row by row, and had at each length to which the journal can be cut back, from the kept one to the present one, how many
-- tables a publish would push, how many entries it would seal, the clock, and how many entries of the journal stand for good
pub record View : Type 0 where
  pub journal : List Entry
  pub sealed : Sealed
  pub fresh : List (List (Key × Option Value))
  pub marks : List (List (List (Key × Option Value)))
  pub needed : ℕ
  pub waiting : ℕ
  pub clock : ℕ
  pub kept : ℕ
