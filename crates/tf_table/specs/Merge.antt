-- Lists of rows, newest first, and the places in them that a merge has come to.
use Rattle.std.specs.Prelude.{◌≡◌, ℕ, ◌+◌, ◌≤◌, List, [], ◌∷◌, Option, Some, None, Bool, false, if◌then◌else◌, length, sum_by, slice_get}
use Rattle.std.specs.declared.cmp.Ordering.{Ordering}
use Rattle.std.specs.Ordering.{is_lt, is_eq}
use Rattle.std.specs.Option.{option_copied}
use Rattle.tf_sorted.specs.Rows.{IsRising}
use Rattle.tf_table.specs.declared.key.Key.{Key}
use Rattle.tf_table.specs.Key.{key_cmp}
use Rattle.tf_table.specs.Content.{entry_at, entry_of, kept}
use denote.Ref.{Bor}

-- a row by reference, as a row
abbrev pub seen : {V : Type 0} → Bor Key × Option (Bor V) → Key × Option V
seen row = (row.0.now, option_copied row.1)

-- each of the lists meets it
abbrev pub EachList : {X : Type 0} → (List X → Type 0) → List (List X) → Type 0
EachList P [] = Unit {0}
EachList P (rows ∷ lists) = P rows × EachList P lists

module _ {K E : Type 0} (cmp : K → K → Ordering) where
  -- the row with the lesser key, the newer one where the keys are the same
  abbrev pub lesser : Option (K × E) → Option (K × E) → Option (K × E)
  lesser None older = older
  lesser (Some newer) None = Some newer
  lesser (Some newer) (Some older) = if is_lt (cmp older.0 newer.0) then Some older else Some newer

  -- of the rows at the places the one with the least key, of the newest list that has it there
  abbrev pub least_at : List (List (K × E)) → List ℕ → Option (K × E)
  least_at [] places = None
  least_at (rows ∷ lists) [] = None
  least_at (rows ∷ lists) (place ∷ places) = lesser (slice_get rows place) (least_at lists places)

  -- whether there is a row, and it has the key
  abbrev pub has_key : K → Option (K × E) → Bool
  has_key key None = false
  has_key key (Some r) = is_eq (cmp r.0 key)

  -- the places, each behind its row if that has the key
  abbrev pub passed : K → List (List (K × E)) → List ℕ → List ℕ
  passed key [] places = []
  passed key (rows ∷ lists) [] = []
  passed key (rows ∷ lists) (place ∷ places) = (if has_key key (slice_get rows place) then place + 1 else place) ∷ passed key lists places

-- the rows rise, and say of each key what the lists say of it, with no more rows than the lists have
pub record IsMerged {V : Type 0} (bottom : Bool) (lists : List (List (Key × Option V))) (rows : List (Key × Option V)) : Type 0 where
  pub rising : IsRising key_cmp rows
  pub entries : (key : Key) → entry_at key rows ≡ kept bottom (entry_of key lists)
  pub within : length rows ≤ sum_by (λ (list : List (Key × Option V)). length list) lists
