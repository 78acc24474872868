-- Changes of rows one after another, and the steps that take them back.
use Rattle.std.specs.Prelude.{◌≡◌, ◌==◌, ◌⊎◌, List, [], ◌∷◌, Option, Some, None, Bool, false, IsTrue, IsSome, IfSome, ⊤, if◌then◌else◌}
use Rattle.std.specs.List.{flat_map}
use Rattle.tf_table.specs.Content.{entry_at}
use Rattle.tf_manifest.specs.declared.row.Row.{Row}
use Rattle.tf_manifest.specs.declared.value.Value.{Value}
use Rattle.tf_rows.specs.declared.change.Change.{Change}
use Rattle.tf_rows.specs.declared.change.Step.{Step}
use Rattle.tf_rows.specs.declared.change.Step.TheVariants as step
use Rattle.tf_records.specs.declared.transfer.Transfer.{Transfer}
use Rattle.tf_table.specs.declared.key.Key.{Key}
use Rattle.tf_rows.specs.Parts.{Part, Parts, place_of, with_back, with_entry}
use Rattle.tf_rows.specs.Record.{IsThere, is_of_record, record_edit, without_edit}

-- a change, if there is one
abbrev pub listed : Option Change → List Change
listed None = []
listed (Some change) = change ∷ []

-- the changes that there are
abbrev pub present : List (Option Change) → List Change
present changes = flat_map listed changes

-- rows of which one has something else
abbrev pub with_part : Row → Part → Parts → Parts
with_part r part parts other = if place_of other == place_of r then part else parts other

-- the rows after a change
abbrev pub changed : Change → Parts → Parts
changed change parts = with_part change.row (with_entry change.key change.value (parts change.row)) parts

-- the rows after changes, from the first to the last
abbrev pub all_changed : List Change → Parts → Parts
all_changed [] parts = parts
all_changed (change ∷ changes) parts = all_changed changes (changed change parts)

-- the rows after a key of one has the entry back that it had before, or none
abbrev pub key_back : Row → Key → Option (Option Value) → Parts → Parts
key_back r key before parts = with_part r (with_back key before (parts r)) parts

-- the rows without a transfer's record
abbrev pub without_record : Transfer → Parts → Parts
without_record t parts r = record (parts r) { fresh = without_edit (record_edit t r) (parts r).fresh }

-- the rows after a step back
abbrev pub stepped : Step → Parts → Parts
stepped (step.Key r key before) parts = key_back r key before parts
stepped (step.Transfer t) parts = without_record t parts

-- the rows after steps back, from the last to the first
abbrev pub all_stepped : List Step → Parts → Parts
all_stepped [] parts = parts
all_stepped (step ∷ steps) parts = stepped step (all_stepped steps parts)

-- what changes a row by a key of its own: no row that has something of a transfer's record
abbrev pub IsSingle : Row → Type 0
IsSingle r = is_of_record r ≡ false

-- changes of such rows alone
abbrev pub AreSingle : List Change → Type 0
AreSingle [] = ⊤
AreSingle (change ∷ changes) = IsSingle change.row × AreSingle changes

-- of a set of rows: which are in it, what values they store, and which take an entry for any key
module _ (has : Row → Bool) (fits : Row → Value → Bool) (takes_any : Row → Type 0) where
  -- a change can be made
  pub record CanChange (change : Change) (parts : Parts) : Type 0 where
    pub held : IsTrue (has change.row)
    pub kind : IfSome change.value (λ value. IsTrue (fits change.row value))
    pub new : (entry_at change.key (parts change.row).fresh ≡ None) ⊎ takes_any change.row

  -- changes can be made one after another
  abbrev pub CanChangeAll : List Change → Parts → Type 0
  CanChangeAll [] parts = ⊤
  CanChangeAll (change ∷ changes) parts = CanChange change parts × CanChangeAll changes (changed change parts)

  -- a key of a row can have the entry back that it had before, or none
  pub record CanGiveBack (r : Row) (key : Key) (before : Option (Option Value)) (parts : Parts) : Type 0 where
    pub single : IsSingle r
    pub held : IsTrue (has r)
    pub kind : IfSome before (λ entry. IfSome entry (λ value. IsTrue (fits r value)))
    pub there : IsSome (entry_at key (parts r).fresh)

  -- a transfer's record can be taken away
  pub record CanTakeRecord (t : Transfer) (parts : Parts) : Type 0 where
    pub held : (r : Row) → IsTrue (is_of_record r) → IsTrue (has r)
    pub there : (r : Row) → IsThere (record_edit t r) (parts r).fresh

  -- a step back can be made
  abbrev pub CanStep : Step → Parts → Type 0
  CanStep (step.Key r key before) parts = CanGiveBack r key before parts
  CanStep (step.Transfer t) parts = CanTakeRecord t parts

  -- steps back can be made one after another, from the last
  abbrev pub CanStepAll : List Step → Parts → Type 0
  CanStepAll [] parts = ⊤
  CanStepAll (step ∷ steps) parts = CanStepAll steps parts × CanStep step (all_stepped steps parts)
