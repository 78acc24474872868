-- The fields of a record, and what a line's words FIELD=VALUE give them.
use Rattle.std.specs.Prelude.{ℕ, ◌+◌, List, [], ◌∷◌, Option, Some, None, Result, Ok, Err, if◌then◌else◌, ◌==◌, map, take, drop, replicate, length, is_some, slice_get, slice_set, slice_index_or, unwrap_or, position}
use Rattle.tf_script.specs.Values.{◌>>=◌, place_of, number_of, flags_of, at_most}
use Rattle.tf_script.specs.Words.{Word}
use Rattle.tf_script.specs.declared.field.Assignment.{Assignment}

-- a field's name, its greatest number, and the names of its bits from bit 0 on, if it is a set of flags
pub record Field : Type 0 where
  pub name : List ℕ
  pub greatest : ℕ
  pub flags : List (List ℕ)

-- the names of fields
abbrev pub names_of : List Field → List (List ℕ)
names_of fields = map (λ (field : Field). field.name) fields

-- what a field can be given: a number, or flags by their names
unfoldable pub value_of : Field → List ℕ → Option ℕ
value_of field text =
    if is_some (number_of field.greatest text) then number_of field.greatest text
    else (flags_of field.flags text >>= at_most field.greatest)

-- what a word assigns, where values has the numbers assigned before it: the first `=`, byte 61, parts name and value
unfoldable pub assignment_of : List Field → List (Option ℕ) → List ℕ → Option Assignment
assignment_of fields values text = do
  equals ← position (λ byte. byte == 61) text
  place ← place_of (names_of fields) (take equals text)
  field ← slice_get fields place
  before ← slice_get values place
  value ← value_of field (drop (equals + 1) text)
  if is_some before then None else Some (record { place = place; value = value })

-- the values after all words of a line, or the column of the first word that assigns nothing
abbrev pub assigned : List Field → List (Option ℕ) → List Word → Result (List (Option ℕ)) ℕ
assigned fields values [] = Ok values
assigned fields values (word ∷ words) =
    elim (assignment_of fields values word.bytes) [
      | None ↦ Err word.column
      | Some assignment ↦ assigned fields (slice_set values assignment.place (Some assignment.value)) words
    ]

-- the values that a line gives the fields: None for a field that it doesn't name
abbrev pub values_of : List Field → List Word → Result (List (Option ℕ)) ℕ
values_of fields words = assigned fields (replicate (length fields) None) words

-- the number of the field at a place: 0 for one that wasn't named
abbrev pub number_at : List (Option ℕ) → ℕ → ℕ
number_at values place = unwrap_or (slice_index_or values place None) 0
