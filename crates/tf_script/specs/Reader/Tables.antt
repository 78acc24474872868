-- The code's tables of fields, and the values that fit them.
use Rattle.std.specs.Prelude.{ℕ, zero, suc, ◌≤◌, List, [], ◌∷◌, Option, map, length, nat_lt, Bool}
use Rattle.std.specs.List.{list_all}
use Rattle.std.specs.Borrow.{Bor}
use Rattle.tf_script.specs.Fields.{Field, number_at}
use Rattle.tf_script.specs.declared.field.FieldEntry.{FieldEntry}

-- borrowed texts, as their bytes
abbrev pub texts_of : List (Bor (List ℕ)) → List (List ℕ)
texts_of texts = map (λ (text : Bor (List ℕ)). text.now) texts

-- the field that an entry of a table describes
abbrev pub field_of : FieldEntry → Field
field_of entry = record {
  name = entry.name.now;
  greatest = entry.greatest;
  flags = texts_of entry.flags.now;
}

-- no field has more flags than a number has bits
abbrev pub few_flags : List FieldEntry → Bool
few_flags table = list_all (λ (entry : FieldEntry). nat_lt (length entry.flags.now) 128) table

-- the greatest number of the field at a place
abbrev pub greatest_at : List Field → ℕ → ℕ
greatest_at [] place = 0
greatest_at (field ∷ fields) zero = field.greatest
greatest_at (field ∷ fields) (suc place) = greatest_at fields place

-- each value fits its field
abbrev pub Fit : List Field → List (Option ℕ) → Type 0
Fit fields values = (place : ℕ) → number_at values place ≤ greatest_at fields place
