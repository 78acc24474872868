-- The keys of an index that are gathered in any order: each is in the index, and as many as there are objects are all of it.
use Rattle.std.proofs.Common.{◌≡◌, ◌<◌, ◌≤◌, ◌+◌, ℕ, zero, suc, List, [], ◌∷◌, ◌++◌, length, map, get_or, Option, Some, cond, sym, ◌∙◌, ap, arith}
use Rattle.std.specs.Ordering.{is_eq, is_gt, is_lt}
use Rattle.std.specs.declared.cmp.Ordering.{Ordering}
use Rattle.std.specs.declared.cmp.Ordering.TheVariants.{Less, Equal, Greater}
use Rattle.std.proofs.lemmas.List.{length-append, length-map}
use Rattle.tf_records.specs.declared.transfer.Transfer.{Transfer}
use Rattle.tf_sorted.specs.Rows.{IsRising, rows_above, rows_below}
use Rattle.tf_table.specs.declared.key.Key.{Key}
use Rattle.tf_table.specs.Content.{entry_at}
use Rattle.tf_table.specs.Key.{key_cmp}
use Rattle.tf_table.proofs.Determined.{bool_cases}
use Rattle.tf_table.proofs.Keys.{exact_keys, key_itself, keys_total}
use Rattle.tf_table.proofs.Rising.{value_at-here, value_at-there}
use Rattle.tf_mutable.specs.Mutable.{in_order, rows_of_key}
use Rattle.tf_mutable.proofs.Logged.{rising-in_order, value_at-in_order}
use Rattle.tf_manifest.specs.declared.kinds.Stored.{Stored}
use Rattle.tf_mutable_rows.specs.declared.transfers.Field.{Field}
use Rattle.tf_mutable_rows.specs.Indexes.{AreByTime, Keys, Objects, index_of, index_row}
use Rattle.tf_mutable_rows.proofs.Indexes.{index_logged}
use Rattle.tf_mutable_rows.proofs.Gathered.{AreAmong, among-push, are_all}

-- rows in order are at most as many
cut_by : (x : Ordering) (r : Key × Option (Unit {0})) (below above : Keys) (n : ℕ) → length below + length above ≤ n → length (cond (is_lt x) (r ∷ below) below) + length (cond (is_gt x) (r ∷ above) above) ≤ suc n
cut_by Less r below above n most = omega (arith, most)
cut_by Equal r below above n most = omega (arith, most)
cut_by Greater r below above n most = omega (arith, most)

cut : (key : Key) (rows : Keys) → length (rows_below key_cmp key rows) + length (rows_above key_cmp key rows) ≤ length rows
cut key [] = omega arith
cut key (r ∷ rows) = cut_by (key_cmp r.0 key) r (rows_below key_cmp key rows) (rows_above key_cmp key rows) (length rows) (cut key rows)

in_order-most : (rows : Keys) → length (in_order rows) ≤ length rows
in_order-most [] = omega arith
in_order-most (r ∷ rows) =
    let rest : Keys = in_order rows in
    omega (arith, length-append (rows_below key_cmp r.0 rest) ((r.0, r.1) ∷ rows_above key_cmp r.0 rest), cut r.0 rest, in_order-most rows)

-- the key of each object is in the index
has_key : (f : Field) (objects : Objects) (place : ℕ) (r : Key × Option (Stored Transfer)) → place < length objects → r ≡ get_or objects place r → entry_at (index_row f r).0 (map (index_row f) objects) ≡ Some (Some tt)
has_key f [] place r within is = absurd (omega (arith, within))
has_key f (s ∷ objects) zero r within is =
    value_at-here key_cmp keys_total (index_row f r).0 (index_row f s) (map (index_row f) objects)
    (ap (λ t. is_eq (key_cmp (index_row f s).0 (index_row f t).0)) is ∙ ap is_eq (key_itself (index_row f s).0))
has_key f (s ∷ objects) (suc place) r within is = bool_cases (is_eq (key_cmp (index_row f s).0 (index_row f r).0))
    (λ e. value_at-here key_cmp keys_total (index_row f r).0 (index_row f s) (map (index_row f) objects) e)
    (λ n. value_at-there key_cmp keys_total (index_row f r).0 (index_row f s) (map (index_row f) objects) n ∙ has_key f objects place r (omega (arith, within)) is)

-- these rows are in the index
abbrev pub AreOfIndex : Field → Objects → Keys → Type 0
AreOfIndex f objects rows = AreAmong key_cmp keys_total exact_keys rows (in_order (map (index_row f) objects))

-- one more
pub one_more_of_index : (f : Field) (objects : Objects) (rows : Keys) (place : ℕ) (r : Key × Option (Stored Transfer)) (key : Key) → AreOfIndex f objects rows
    → place < length objects → r ≡ get_or objects place r → key ≡ (index_row f r).0 → AreOfIndex f objects (rows ++ (key, Some tt) ∷ [])
one_more_of_index f objects rows place r key so_far within is own =
    among-push key_cmp keys_total exact_keys rows (key, Some tt) (in_order (map (index_row f) objects)) so_far
    (value_at-in_order key_cmp keys_total exact_keys key (map (index_row f) objects)
    ∙ ap (λ (k : Key). entry_at k (map (index_row f) objects)) own
    ∙ has_key f objects place r within is)

-- as many as there are objects
pub all_of_index : (f : Field) (objects : Objects) → AreByTime objects → ((key : Key) → length (rows_of_key key objects) ≤ 1) → (rows : Keys) → IsRising key_cmp rows → AreOfIndex f objects rows → length objects ≤ length rows
    → rows ≡ index_of f (in_order objects)
all_of_index f objects times once rows rising so_far most =
    are_all key_cmp keys_total exact_keys rows (in_order (map (index_row f) objects)) rising (rising-in_order key_cmp keys_total exact_keys (map (index_row f) objects)) so_far
    (omega (arith, most, in_order-most (map (index_row f) objects), length-map objects (index_row f)))
    ∙ index_logged f objects times once
