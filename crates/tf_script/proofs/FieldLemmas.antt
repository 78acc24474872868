-- Values and the fields that they are for.
use Rattle.std.proofs.Common.{◌≡◌, ℕ, zero, suc, ◌<◌, ◌≤◌, Bool, true, false, eqb, ltb, List, [], ◌∷◌, length, get_or, set, map, take, replicate, Option, Some, None, unwrap_or, refl, sym, ap, ◌∙◌, subst, ⊎_elim, arith}
use Rattle.std.proofs.lemmas.List.{get_or-set_same, get_or-set_other, take-replicate, length-map}
use Rattle.std.proofs.lemmas.Bool.{cases_eq}
use Rattle.std.proofs.lemmas.Bool.Decides.{nat_tests}
use Rattle.std.specs.List.{position_or_len, before_first, after_first, slice_get}
use Rattle.std.specs.Option.{is_some}
use Rattle.std.specs.Prelude.{if◌then◌else◌}
use Rattle.tf_script.specs.Words.{Word}
use Rattle.tf_script.specs.Values.{◌>>=◌, place_of}
use Rattle.tf_script.specs.Fields.{Field, assigned, assignment_of, names_of, values_of, value_of, number_at}
use Rattle.tf_script.specs.Reader.Tables.{field_of, greatest_at, Fit}
use Rattle.tf_script.specs.declared.field.Assignment.{Assignment}
use Rattle.tf_script.specs.declared.field.FieldEntry.{FieldEntry}

pub greatest_at-map : (table : List FieldEntry) (place : ℕ) (d : FieldEntry) → place < length table → greatest_at (map field_of table) place ≡ (get_or table place d).greatest
greatest_at-map [] place d h = absurd (omega arith)
greatest_at-map (entry ∷ table) zero d h = refl
greatest_at-map (entry ∷ table) (suc place) d h = greatest_at-map table place d (omega arith)

-- a value that fits its field, among values that fit theirs
pub Fit-set : (fields : List Field) (values : List (Option ℕ)) (place value : ℕ) → place < length values → value ≤ greatest_at fields place → Fit fields values → Fit fields (set values place (Some value))
Fit-set fields values place value within fits fit = λ k.
    ⊎_elim
    (λ same. subst (λ j. number_at (set values place (Some value)) j ≤ greatest_at fields j) (sym same)
    (subst (λ (found : Option ℕ). unwrap_or found 0 ≤ greatest_at fields place) (sym (get_or-set_same values place (Some value) None within)) fits))
    (λ other. subst (λ (found : Option ℕ). unwrap_or found 0 ≤ greatest_at fields k) (sym (get_or-set_other values place k (Some value) None other)) (fit k))
    (cases_eq k place)

none_values : (table : List FieldEntry) (fields : List Field) → map field_of table ≡ fields → length table ≤ 13 → take (length table) (replicate 13 None) ≡ replicate {A = Option ℕ} (length fields) None
none_values table fields e h =
    take-replicate (length table) 13 None h ∙ ap (λ n. replicate {A = Option ℕ} n None) (sym (length-map table field_of) ∙ ap length e)

-- room for no value yet, one for each field of a table
pub values_of-table : (table : List FieldEntry) (fields : List Field) (words : List Word) → map field_of table ≡ fields → length table ≤ 13 → assigned (map field_of table) (take (length table) (replicate 13 None)) words ≡ values_of fields words
values_of-table table fields words e h =
    ap (λ values. assigned (map field_of table) values words) (none_values table fields e h)
    ∙ ap (λ f. assigned f (replicate (length fields) None) words) e

abbrev is_equals : ℕ → Bool
is_equals byte = eqb byte 61

read_at : {X : Type 0} (xs : List X) (place : ℕ) (d : X) → place < length xs → slice_get xs place ≡ Some (get_or xs place d)
read_at [] place d h = absurd (omega arith)
read_at (x ∷ xs) zero d h = refl
read_at (x ∷ xs) (suc place) d h = read_at xs place d (omega arith)

field_at : (table : List FieldEntry) (place : ℕ) (d : FieldEntry) → place < length table → slice_get (map field_of table) place ≡ Some (field_of (get_or table place d))
field_at [] place d h = absurd (omega arith)
field_at (entry ∷ table) zero d h = refl
field_at (entry ∷ table) (suc place) d h = field_at table place d (omega arith)

-- a value at a place, unless the field has one
abbrev unless_taken : ℕ → Option ℕ → ℕ → Option Assignment
unless_taken place before value = if is_some before then None else Some (record { place = place; value = value })

-- what a text assigns at a place
abbrev assigned_at : ℕ → List ℕ → Option Field → Option (Option ℕ) → Option Assignment
assigned_at place text field before = do
  f ← field
  b ← before
  value ← value_of f text
  unless_taken place b value

-- a word that doesn't part name and value assigns nothing
pub assignment-unparted : (fields : List Field) (values : List (Option ℕ)) (text : List ℕ) → position_or_len is_equals text ≡ length text → assignment_of fields values text ≡ None
unfolding assignment_of
assignment-unparted fields values text h = let all : ltb (position_or_len is_equals text) (length text) ≡ false = grind (arith, nat_tests) in rw all refl

-- nor does one whose name is unknown
pub assignment-unknown : (fields : List Field) (values : List (Option ℕ)) (text : List ℕ) → position_or_len is_equals text < length text
    → None ≡ place_of (names_of fields) (before_first is_equals text) → assignment_of fields values text ≡ None
unfolding assignment_of
assignment-unknown fields values text h unknown = let parts : ltb (position_or_len is_equals text) (length text) ≡ true = grind (arith, nat_tests) in rw (parts, ← unknown) refl

-- a known name assigns at its place
assignment-known : (fields : List Field) (values : List (Option ℕ)) (text : List ℕ) (place : ℕ) → position_or_len is_equals text < length text
    → Some place ≡ place_of (names_of fields) (before_first is_equals text)
    → assignment_of fields values text ≡ assigned_at place (after_first is_equals text) (slice_get fields place) (slice_get values place)
unfolding assignment_of
assignment-known fields values text place h known = let parts : ltb (position_or_len is_equals text) (length text) ≡ true = grind (arith, nat_tests) in rw (parts, ← known) refl

no_value : (place : ℕ) (before : Option ℕ) (value : Option ℕ) → is_some before ≡ true → (value >>= unless_taken place before) ≡ None
no_value place before None taken = refl
no_value place before (Some v) taken = rw taken refl

taken_at : (place : ℕ) (text : List ℕ) (field : Option Field) (before : Option ℕ) → is_some before ≡ true → assigned_at place text field (Some before) ≡ None
taken_at place text None before taken = refl
taken_at place text (Some f) before taken = no_value place before (value_of f text) taken

-- a field that has a value gets no other
pub assignment-taken : (fields : List Field) (values : List (Option ℕ)) (text : List ℕ) (place : ℕ) → position_or_len is_equals text < length text
    → Some place ≡ place_of (names_of fields) (before_first is_equals text) → place < length values → is_some (get_or values place None) ≡ true
    → assignment_of fields values text ≡ None
assignment-taken fields values text place h known within taken =
    assignment-known fields values text place h known
    ∙ ap (assigned_at place (after_first is_equals text) (slice_get fields place)) (read_at values place None within)
    ∙ taken_at place (after_first is_equals text) (slice_get fields place) (get_or values place None) taken

unvalued_at : (place : ℕ) (text : List ℕ) (f : Field) (before : Option (Option ℕ)) → None ≡ value_of f text → assigned_at place text (Some f) before ≡ None
unvalued_at place text f None unvalued = refl
unvalued_at place text f (Some b) unvalued = rw (← unvalued) refl

-- nor does a field get a value that isn't one
pub assignment-unvalued : (table : List FieldEntry) (values : List (Option ℕ)) (text rest : List ℕ) (place : ℕ) (d : FieldEntry) → position_or_len is_equals text < length text
    → rest ≡ after_first is_equals text → Some place ≡ place_of (names_of (map field_of table)) (before_first is_equals text) → place < length table
    → None ≡ value_of (field_of (get_or table place d)) rest → assignment_of (map field_of table) values text ≡ None
assignment-unvalued table values text rest place d h back known within unvalued =
    assignment-known (map field_of table) values text place h known
    ∙ ap (λ f. assigned_at place (after_first is_equals text) f (slice_get values place)) (field_at table place d within)
    ∙ unvalued_at place (after_first is_equals text) (field_of (get_or table place d)) (slice_get values place) (unvalued ∙ ap (value_of (field_of (get_or table place d))) back)
