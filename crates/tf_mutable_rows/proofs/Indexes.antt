-- The indexes of transfers: what each has at a key, by the object at the key's timestamp, and what it has where a transfer is put or
-- taken away.
use Rattle.std.proofs.Common.{◌≡◌, ◌<◌, ◌≤◌, ◌+◌, ℕ, ◌⊎◌, inl, inr, [], ◌∷◌, ◌++◌, length, map, take, drop, get_or, Option, Some, None, true, false, cond, refl, sym, ◌∙◌, ap, subst, arith}
use Rattle.std.specs.Prelude.{IsSome, ◌==◌, if◌then◌else◌}
use Rattle.std.specs.Option.{is_some, option_map}
use Rattle.std.specs.Ordering.{is_eq, is_lt}
use Rattle.std.proofs.lemmas.Bool.{false≢true, cases_eq, cond-true, cond-false, eq-eqb, ne_eqb}
use Rattle.std.proofs.lemmas.List.{length-append, map-append, take_all, take_more}
use Rattle.tf_records.specs.declared.transfer.Transfer.{Transfer}
use Rattle.tf_sorted.specs.Rows.{IsRising, rows_above, rows_below, with_row, without_row}
use Rattle.tf_table.specs.declared.key.Key.{Key}
use Rattle.tf_table.specs.Content.{entry_at, first_some}
use Rattle.tf_table.specs.Key.{key_cmp}
use Rattle.tf_table.proofs.Determined.{IsRising-with_row, bool_cases, rows_ext, value_at-with_row}
use Rattle.tf_table.proofs.Keys.{exact_keys, key_itself, keys_total, same_key}
use Rattle.tf_table.proofs.Rising.{equal_from, is_eq-not, value_at-after, value_at-append, value_at-here, value_at-there}
use Rattle.tf_mutable.specs.Mutable.{in_order, rows_of_key}
use Rattle.tf_mutable.proofs.Logged.{IsRising-without_row, absent-before, in_order-push, once-first, once-front, once-rest, rising-in_order, round, value_at-in_order, value_at-none, value_at-without_row, without-with}
use Rattle.tf_manifest.specs.declared.kinds.Stored.{Stored}
use Rattle.tf_manifest.specs.declared.value.Value.TheVariants as value
use Rattle.tf_manifest.specs.Rows.{key_of}
use Rattle.tf_rows.specs.Parts.{seen_rows}
use Rattle.tf_rows.proofs.Parts.{entry_at-seen}
use Rattle.tf_mutable_rows.specs.declared.transfers.Field.{Field}
use Rattle.tf_mutable_rows.specs.Indexes.{AreByTime, IsAmong, IsPutAmong, IsTakenFrom, IsTimeline, Keys, Objects, field_in, field_of, index_of, index_row, key_seen}

-- keys that are one compare alike, and others don't
same_keys : (a b : Key) → a ≡ b → is_eq (key_cmp a b) ≡ true
same_keys a b e = ap (λ k. is_eq (key_cmp a k)) (sym e) ∙ ap is_eq (key_itself a)

other_keys : (a b : Key) → (a ≡ b → ⊥) → is_eq (key_cmp a b) ≡ false
other_keys a b apart = is_eq-not (key_cmp a b) (λ e. apart (exact_keys a b e))

other_values : (a b : Key) → (a.value ≡ b.value → ⊥) → is_eq (key_cmp a b) ≡ false
other_values a b apart = other_keys a b (λ e. apart (ap (λ (k : Key). k.value) e))

other_times : (a b : Key) → (a.timestamp ≡ b.timestamp → ⊥) → is_eq (key_cmp a b) ≡ false
other_times a b apart = other_keys a b (λ e. apart (ap (λ (k : Key). k.timestamp) e))

-- no row has the key of one before it
abbrev ComeOnce : Objects → Type 0
ComeOnce [] = Unit {0}
ComeOnce (r ∷ rows) = (entry_at r.0 rows ≡ None) × ComeOnce rows

once_come : (rows : Objects) → ((key : Key) → length (rows_of_key key rows) ≤ 1) → ComeOnce rows
once_come [] once = tt
once_come (r ∷ rows) once =
    (value_at-none key_cmp keys_total exact_keys r.0 rows (once-first key_cmp keys_total exact_keys r rows once), once_come rows (once-rest key_cmp keys_total exact_keys r rows once))

rising_come : (rows : Objects) → IsRising key_cmp rows → ComeOnce rows
rising_come [] rising = tt
rising_come (r ∷ rows) rising = (value_at-after key_cmp keys_total r.0 r.0 rows (ap is_lt (key_itself r.0)) rising.0, rising_come rows rising.1)

-- rows whose keys are timestamps alone
some_first : {X : Type 0} (x y : Option X) → IsSome x → IsSome (first_some x y)
some_first None y some = absurd (false≢true some)
some_first (Some x) y some = refl

first_by_time : (r : Key × Option (Stored Transfer)) (rows : Objects) → AreByTime (r ∷ rows) → r.0.value ≡ 0
first_by_time r rows times = times r.0 (ap is_some (value_at-here key_cmp keys_total r.0 r rows (same_keys r.0 r.0 refl)))

rest_by_time : (r : Key × Option (Stored Transfer)) (rows : Objects) → AreByTime (r ∷ rows) → AreByTime rows
rest_by_time r rows times key some = bool_cases (is_eq (key_cmp r.0 key))
    (λ e. times key (ap is_some (value_at-here key_cmp keys_total key r rows e)))
    (λ e. times key (ap is_some (value_at-there key_cmp keys_total key r rows e) ∙ some))

front_by_time : (rows more : Objects) → AreByTime (rows ++ more) → AreByTime rows
front_by_time rows more times key some =
    times key (ap is_some (value_at-append key_cmp keys_total key rows more) ∙ some_first (entry_at key rows) (entry_at key more) some)

behind_by_time : (rows : Objects) (r : Key × Option (Stored Transfer)) (more : Objects) → AreByTime (rows ++ r ∷ more) → r.0.value ≡ 0
behind_by_time [] r more times = first_by_time r more times
behind_by_time (s ∷ rows) r more times = behind_by_time rows r more (rest_by_time s (rows ++ r ∷ more) times)

pub order_by_time : (rows : Objects) → AreByTime (in_order rows) → AreByTime rows
order_by_time rows times key some = times key (ap is_some (value_at-in_order key_cmp keys_total exact_keys key rows) ∙ some)

ordered_by_time : (rows : Objects) → AreByTime rows → AreByTime (in_order rows)
ordered_by_time rows times key some = times key (ap is_some (sym (value_at-in_order key_cmp keys_total exact_keys key rows)) ∙ some)

put_by_time : (timestamp : ℕ) (entry : Option (Stored Transfer)) (rows : Objects) → AreByTime rows → AreByTime (with_row key_cmp (key_of 0 timestamp) entry rows)
put_by_time timestamp entry rows times key some = bool_cases (is_eq (key_cmp (key_of 0 timestamp) key))
    (λ e. sym (ap (λ (k : Key). k.value) (exact_keys (key_of 0 timestamp) key (equal_from _ e))))
    (λ e. times key (sym (ap is_some (value_at-with_row key_cmp keys_total exact_keys (key_of 0 timestamp) entry key rows ∙ cond-false (is_eq (key_cmp (key_of 0 timestamp) key)) _ _ e)) ∙ some))

taken_by_time : (timestamp : ℕ) (rows : Objects) → AreByTime rows → AreByTime (without_row key_cmp (key_of 0 timestamp) rows)
taken_by_time timestamp rows times key some =
    let is = value_at-without_row key_cmp keys_total exact_keys (key_of 0 timestamp) key rows in
    bool_cases (is_eq (key_cmp (key_of 0 timestamp) key))
    (λ e. absurd (false≢true (sym (ap is_some (is ∙ cond-true (is_eq (key_cmp (key_of 0 timestamp) key)) _ _ e)) ∙ some)))
    (λ e. times key (sym (ap is_some (is ∙ cond-false (is_eq (key_cmp (key_of 0 timestamp) key)) _ _ e)) ∙ some))

-- timelines
pub timeline_none : IsTimeline []
timeline_none = record { rising = tt; times = λ key some. absurd (false≢true some) }

timeline_with : (timestamp : ℕ) (entry : Option (Stored Transfer)) (objects : Objects) → IsTimeline objects → IsTimeline (with_row key_cmp (key_of 0 timestamp) entry objects)
timeline_with timestamp entry objects line = record {
  rising = IsRising-with_row key_cmp keys_total exact_keys (key_of 0 timestamp) entry objects line.rising;
  times = put_by_time timestamp entry objects line.times;
}

timeline_without : (timestamp : ℕ) (objects : Objects) → IsTimeline objects → IsTimeline (without_row key_cmp (key_of 0 timestamp) objects)
timeline_without timestamp objects line = record {
  rising = IsRising-without_row key_cmp keys_total exact_keys (key_of 0 timestamp) None objects line.rising;
  times = taken_by_time timestamp objects line.times;
}

pub timeline_put : (key : Key) (timestamp : ℕ) (entry : Option (Stored Transfer)) (old new : Objects) → IsTimeline old → key ≡ key_of 0 timestamp → new ≡ with_row key_cmp key entry old → IsTimeline new
timeline_put key timestamp entry old new line own is =
    subst IsTimeline (sym (is ∙ ap (λ (k : Key). with_row key_cmp k entry old) own)) (timeline_with timestamp entry old line)

pub timeline_taken : (key : Key) (timestamp : ℕ) (old new : Objects) → IsTimeline old → key ≡ key_of 0 timestamp → new ≡ without_row key_cmp key old → IsTimeline new
timeline_taken key timestamp old new line own is =
    subst IsTimeline (sym (is ∙ ap (λ (k : Key). without_row key_cmp k old) own)) (timeline_without timestamp old line)

-- the key of the object at a key's timestamp
abbrev pub time_of : Key → Key
time_of key = key_of 0 key.timestamp

-- what an index has at a key, by what the objects have there
abbrev pub read_off : Field → Key → Option (Option (Stored Transfer)) → Option (Option (Unit {0}))
read_off f key None = None
read_off f key (Some entry) = if field_in f entry == key.value then Some (Some tt) else None

read_there : (f : Field) (key : Key) (entry : Option (Stored Transfer)) → field_in f entry ≡ key.value → read_off f key (Some entry) ≡ Some (Some tt)
read_there f key entry e = cond-true (field_in f entry == key.value) _ _ (eq-eqb _ _ e)

read_none : (f : Field) (key : Key) (entry : Option (Stored Transfer)) → (field_in f entry ≡ key.value → ⊥) → read_off f key (Some entry) ≡ None
read_none f key entry n = cond-false (field_in f entry == key.value) _ _ (ne_eqb _ _ n)

-- an object whose key the index has has its value
value_read : (f : Field) (key : Key) (entry : Option (Stored Transfer)) → IsSome (read_off f key (Some entry)) → field_in f entry ≡ key.value
value_read f key entry some = by_value (cases_eq (field_in f entry) key.value) where
  by_value : (field_in f entry ≡ key.value) ⊎ (field_in f entry ≡ key.value → ⊥) → field_in f entry ≡ key.value
  by_value (inl e) = e
  by_value (inr n) = absurd (false≢true (sym (ap is_some (read_none f key entry n)) ∙ some))

module _ (f : Field) (q : Key) where
  index_step : (r : Key × Option (Stored Transfer)) (rows : Objects) → r.0.value ≡ 0 → entry_at r.0 rows ≡ None
      → (field_in f r.1 ≡ q.value) ⊎ (field_in f r.1 ≡ q.value → ⊥) → (r.0.timestamp ≡ q.timestamp) ⊎ (r.0.timestamp ≡ q.timestamp → ⊥)
      → entry_at q (map (index_row f) rows) ≡ read_off f q (entry_at (time_of q) rows)
      → entry_at q (index_row f r ∷ map (index_row f) rows) ≡ read_off f q (entry_at (time_of q) (r ∷ rows))
  index_step r rows zero_value absent (inl v) (inl t) rest =
      value_at-here key_cmp keys_total q (index_row f r) (map (index_row f) rows) (same_keys (index_row f r).0 q (same_key (index_row f r).0 q v t))
      ∙ sym (read_there f q r.1 v)
      ∙ sym (ap (read_off f q) (value_at-here key_cmp keys_total (time_of q) r rows (same_keys r.0 (time_of q) (same_key r.0 (time_of q) zero_value t))))
  index_step r rows zero_value absent (inr n) (inl t) rest =
      value_at-there key_cmp keys_total q (index_row f r) (map (index_row f) rows) (other_values (index_row f r).0 q n)
      ∙ rest
      ∙ ap (read_off f q) (ap (λ (k : Key). entry_at k rows) (sym (same_key r.0 (time_of q) zero_value t)) ∙ absent)
      ∙ sym (read_none f q r.1 n)
      ∙ sym (ap (read_off f q) (value_at-here key_cmp keys_total (time_of q) r rows (same_keys r.0 (time_of q) (same_key r.0 (time_of q) zero_value t))))
  index_step r rows zero_value absent value (inr n) rest =
      value_at-there key_cmp keys_total q (index_row f r) (map (index_row f) rows) (other_times (index_row f r).0 q n)
      ∙ rest
      ∙ sym (ap (read_off f q) (value_at-there key_cmp keys_total (time_of q) r rows (other_times r.0 (time_of q) n)))

  -- the rows of an index have a key where the object at its timestamp has its value
  read_in : (rows : Objects) → AreByTime rows → ComeOnce rows → entry_at q (map (index_row f) rows) ≡ read_off f q (entry_at (time_of q) rows)
  read_in [] times once = refl
  read_in (r ∷ rows) times once =
      index_step r rows (first_by_time r rows times) once.0 (cases_eq (field_in f r.1) q.value) (cases_eq r.0.timestamp q.timestamp)
      (read_in rows (rest_by_time r rows times) once.1)

  -- and so they have it in order
  index_has : (objects : Objects) → IsTimeline objects → entry_at q (index_of f objects) ≡ read_off f q (entry_at (time_of q) objects)
  index_has objects line =
      value_at-in_order key_cmp keys_total exact_keys q (map (index_row f) objects) ∙ read_in objects line.times (rising_come objects line.rising)

index_rises : (f : Field) (objects : Objects) → IsRising key_cmp (index_of f objects)
index_rises f objects = rising-in_order key_cmp keys_total exact_keys (map (index_row f) objects)

-- the rows of a log give the index that they give in order
pub index_logged : (f : Field) (rows : Objects) → AreByTime rows → ((key : Key) → length (rows_of_key key rows) ≤ 1) → in_order (map (index_row f) rows) ≡ index_of f (in_order rows)
index_logged f rows times once =
    let line : IsTimeline (in_order rows) = record { rising = rising-in_order key_cmp keys_total exact_keys rows; times = ordered_by_time rows times } in
    rows_ext key_cmp keys_total exact_keys (index_of f rows) (index_of f (in_order rows)) (index_rises f rows) (index_rises f (in_order rows))
    (λ q. value_at-in_order key_cmp keys_total exact_keys q (map (index_row f) rows)
    ∙ read_in f q rows times (once_come rows once)
    ∙ ap (read_off f q) (sym (value_at-in_order key_cmp keys_total exact_keys (time_of q) rows))
    ∙ sym (index_has f q (in_order rows) line))

-- the key of a row is new to the index of those before it
key_is_new : (f : Field) (rows : Objects) (r : Key × Option (Stored Transfer)) (more : Objects) → AreByTime (rows ++ r ∷ more) → ((key : Key) → length (rows_of_key key (rows ++ r ∷ more)) ≤ 1)
    → entry_at (index_row f r).0 (map (index_row f) rows) ≡ None
key_is_new f rows r more times once =
    let key = (index_row f r).0 in
    let own : time_of key ≡ r.0 = same_key (time_of key) r.0 (sym (behind_by_time rows r more times)) refl in
    read_in f key rows (front_by_time rows (r ∷ more) times) (once_come rows (once-front key_cmp keys_total exact_keys rows (r ∷ more) once))
    ∙ ap (read_off f key) (ap (λ (k : Key). entry_at k rows) own ∙ absent-before key_cmp keys_total exact_keys rows more r once)

-- one row more
module _ (f : Field) (objects : Objects) (times : AreByTime objects) (once : (key : Key) → length (rows_of_key key objects) ≤ 1) (i : ℕ) (d : Key × Option (Stored Transfer)) (within : i < length objects)
    (key : Key) (own : key ≡ (index_row f (get_or objects i d)).0) (keys : Keys) (so_far : keys ≡ in_order (map (index_row f) (take i objects))) where
  new_to_them : entry_at (index_row f (get_or objects i d)).0 (map (index_row f) (take i objects)) ≡ None
  new_to_them =
      let whole : objects ≡ take i objects ++ get_or objects i d ∷ drop (i + 1) objects = round objects i d within in
      key_is_new f (take i objects) (get_or objects i d) (drop (i + 1) objects) (subst AreByTime whole times)
      (subst (λ (rows : Objects). (q : Key) → length (rows_of_key q rows) ≤ 1) whole once)

  pub next_is_new : entry_at key keys ≡ None
  next_is_new =
      ap (entry_at key) so_far
      ∙ value_at-in_order key_cmp keys_total exact_keys key (map (index_row f) (take i objects))
      ∙ ap (λ (k : Key). entry_at k (map (index_row f) (take i objects))) own
      ∙ new_to_them

  pub next_is_put : (new : Keys) → new ≡ with_row key_cmp key (Some tt) keys → new ≡ in_order (map (index_row f) (take (i + 1) objects))
  next_is_put new put =
      put
      ∙ ap (λ (k : Key). with_row key_cmp k (Some tt) keys) own
      ∙ ap (with_row key_cmp (index_row f (get_or objects i d)).0 (Some tt)) so_far
      ∙ sym (in_order-push key_cmp keys_total exact_keys (map (index_row f) (take i objects)) (index_row f (get_or objects i d)).0 (Some tt) new_to_them)
      ∙ ap in_order (sym (map-append (index_row f) (take i objects) (get_or objects i d ∷ [])))
      ∙ ap (λ (rows : Objects). in_order (map (index_row f) rows)) (sym (take_more objects i d within))

-- all of them
pub all_are_put : (f : Field) (objects : Objects) → AreByTime objects → ((key : Key) → length (rows_of_key key objects) ≤ 1) → (n : ℕ) → length objects ≤ n → (keys : Keys) → keys ≡ in_order (map (index_row f) (take n objects)) → keys ≡ index_of f (in_order objects)
all_are_put f objects times once n most keys is =
    is ∙ ap (λ (rows : Objects). in_order (map (index_row f) rows)) (take_all n objects most) ∙ index_logged f objects times once

-- an index of no objects alone has no keys
pub no_keys : (f : Field) (objects : Objects) → (length objects == 0) ≡ (length (index_of f objects) == 0)
no_keys f [] = refl
no_keys f (r ∷ objects) =
    let key = (index_row f r).0 in
    let keys = in_order (map (index_row f) objects) in
    let many = length-append (rows_below key_cmp key keys) ((key, Some tt) ∷ rows_above key_cmp key keys) in
    ne_eqb (length (r ∷ objects)) 0 (λ e. omega (arith, e)) ∙ sym (ne_eqb (length (index_of f (r ∷ objects))) 0 (λ e. omega (arith, many, e)))

-- a transfer is put among objects of which none has its timestamp
module _ (t : Transfer) (old : Objects) (line : IsTimeline old) (absent : entry_at (key_of 0 t.timestamp) old ≡ None) where
  abbrev stored : Option (Stored Transfer)
  stored = Some (record { «record» = t })

  abbrev put_object : Objects
  put_object = with_row key_cmp (key_of 0 t.timestamp) stored old

  put_line : IsTimeline put_object
  put_line = timeline_with t.timestamp stored old line

  module _ (f : Field) where
    abbrev put_key : Key
    put_key = key_of (field_of f t) t.timestamp

    put_cases : (q : Key) → (field_of f t ≡ q.value) ⊎ (field_of f t ≡ q.value → ⊥) → (t.timestamp ≡ q.timestamp) ⊎ (t.timestamp ≡ q.timestamp → ⊥)
        → read_off f q (cond (is_eq (key_cmp (key_of 0 t.timestamp) (time_of q))) (Some stored) (entry_at (time_of q) old))
        ≡ cond (is_eq (key_cmp put_key q)) (Some (Some tt)) (read_off f q (entry_at (time_of q) old))
    put_cases q (inl v) (inl e) =
        ap (read_off f q) (cond-true (is_eq (key_cmp (key_of 0 t.timestamp) (time_of q))) _ _ (same_keys (key_of 0 t.timestamp) (time_of q) (same_key (key_of 0 t.timestamp) (time_of q) refl e)))
        ∙ read_there f q stored v
        ∙ sym (cond-true (is_eq (key_cmp put_key q)) _ _ (same_keys put_key q (same_key put_key q v e)))
    put_cases q (inr n) (inl e) =
        let same = same_key (key_of 0 t.timestamp) (time_of q) refl e in
        ap (read_off f q) (cond-true (is_eq (key_cmp (key_of 0 t.timestamp) (time_of q))) _ _ (same_keys (key_of 0 t.timestamp) (time_of q) same))
        ∙ read_none f q stored n
        ∙ sym (cond-false (is_eq (key_cmp put_key q)) _ _ (other_values put_key q n)
        ∙ ap (read_off f q) (ap (λ (k : Key). entry_at k old) (sym same) ∙ absent))
    put_cases q value (inr n) =
        ap (read_off f q) (cond-false (is_eq (key_cmp (key_of 0 t.timestamp) (time_of q))) _ _ (other_times (key_of 0 t.timestamp) (time_of q) n))
        ∙ sym (cond-false (is_eq (key_cmp put_key q)) _ _ (other_times put_key q n))

    index_put : index_of f put_object ≡ with_row key_cmp put_key (Some tt) (index_of f old)
    index_put =
        rows_ext key_cmp keys_total exact_keys (index_of f put_object) (with_row key_cmp put_key (Some tt) (index_of f old))
        (index_rises f put_object) (IsRising-with_row key_cmp keys_total exact_keys put_key (Some tt) (index_of f old) (index_rises f old))
        (λ q. index_has f q put_object put_line
        ∙ ap (read_off f q) (value_at-with_row key_cmp keys_total exact_keys (key_of 0 t.timestamp) stored (time_of q) old)
        ∙ put_cases q (cases_eq (field_of f t) q.value) (cases_eq t.timestamp q.timestamp)
        ∙ sym (value_at-with_row key_cmp keys_total exact_keys put_key (Some tt) q (index_of f old)
        ∙ ap (cond (is_eq (key_cmp put_key q)) (Some (Some tt))) (index_has f q old line)))

    index_restored : without_row key_cmp put_key (index_of f put_object) ≡ index_of f old
    index_restored =
        ap (without_row key_cmp put_key) index_put
        ∙ without-with key_cmp keys_total exact_keys put_key (Some tt) (index_of f old) (index_rises f old) (index_has f put_key old line ∙ ap (read_off f put_key) absent)

  put_among : IsPutAmong t old put_object
  put_among = record {
    object = refl;
    keys = index_put;
    restores = without-with key_cmp keys_total exact_keys (key_of 0 t.timestamp) stored old line.rising absent;
    restores_keys = index_restored;
  }

-- and taken from objects among which it is
module _ (t : Transfer) (old : Objects) (line : IsTimeline old) (among : IsAmong t old) where
  abbrev left_objects : Objects
  left_objects = without_row key_cmp (key_of 0 t.timestamp) old

  left_line : IsTimeline left_objects
  left_line = timeline_without t.timestamp old line

  module _ (f : Field) where
    abbrev taken_key : Key
    taken_key = key_of (field_of f t) t.timestamp

    -- the index has no other key at its timestamp
    no_other : (q : Key) (x : Option (Option (Stored Transfer))) → IsSome (read_off f taken_key x) → (field_of f t ≡ q.value → ⊥) → read_off f q x ≡ None
    no_other q None some n = refl
    no_other q (Some entry) some n = read_none f q entry (λ e. n (sym (value_read f taken_key entry some) ∙ e))

    take_cases : (q : Key) → (field_of f t ≡ q.value) ⊎ (field_of f t ≡ q.value → ⊥) → (t.timestamp ≡ q.timestamp) ⊎ (t.timestamp ≡ q.timestamp → ⊥)
        → read_off f q (cond (is_eq (key_cmp (key_of 0 t.timestamp) (time_of q))) None (entry_at (time_of q) old))
        ≡ cond (is_eq (key_cmp taken_key q)) None (read_off f q (entry_at (time_of q) old))
    take_cases q (inl v) (inl e) =
        ap (read_off f q) (cond-true (is_eq (key_cmp (key_of 0 t.timestamp) (time_of q))) _ _ (same_keys (key_of 0 t.timestamp) (time_of q) (same_key (key_of 0 t.timestamp) (time_of q) refl e)))
        ∙ sym (cond-true (is_eq (key_cmp taken_key q)) _ _ (same_keys taken_key q (same_key taken_key q v e)))
    take_cases q (inr n) (inl e) =
        let same = same_key (key_of 0 t.timestamp) (time_of q) refl e in
        ap (read_off f q) (cond-true (is_eq (key_cmp (key_of 0 t.timestamp) (time_of q))) _ _ (same_keys (key_of 0 t.timestamp) (time_of q) same))
        ∙ sym (cond-false (is_eq (key_cmp taken_key q)) _ _ (other_values taken_key q n)
        ∙ ap (λ (k : Key). read_off f q (entry_at k old)) (sym same)
        ∙ no_other q (entry_at (key_of 0 t.timestamp) old) (sym (ap is_some (index_has f taken_key old line)) ∙ among.keys f) n)
    take_cases q value (inr n) =
        ap (read_off f q) (cond-false (is_eq (key_cmp (key_of 0 t.timestamp) (time_of q))) _ _ (other_times (key_of 0 t.timestamp) (time_of q) n))
        ∙ sym (cond-false (is_eq (key_cmp taken_key q)) _ _ (other_times taken_key q n))

    index_taken : index_of f left_objects ≡ without_row key_cmp taken_key (index_of f old)
    index_taken =
        rows_ext key_cmp keys_total exact_keys (index_of f left_objects) (without_row key_cmp taken_key (index_of f old))
        (index_rises f left_objects) (IsRising-without_row key_cmp keys_total exact_keys taken_key (Some tt) (index_of f old) (index_rises f old))
        (λ q. index_has f q left_objects left_line
        ∙ ap (read_off f q) (value_at-without_row key_cmp keys_total exact_keys (key_of 0 t.timestamp) (time_of q) old)
        ∙ take_cases q (cases_eq (field_of f t) q.value) (cases_eq t.timestamp q.timestamp)
        ∙ sym (value_at-without_row key_cmp keys_total exact_keys taken_key q (index_of f old)
        ∙ ap (cond (is_eq (key_cmp taken_key q)) None) (index_has f q old line)))

  taken_from : IsTakenFrom t old left_objects
  taken_from = record { object = refl; keys = index_taken }

-- objects `inside`, seen as `view`
module _ (inside view : Objects) (is : inside ≡ view) (line : IsTimeline inside) where
  viewed : IsTimeline view
  viewed = subst IsTimeline is line

  pub absent_inside : (key : Key) (timestamp : ℕ) → key ≡ key_of 0 timestamp → entry_at (key_of 0 timestamp) view ≡ None → entry_at key inside ≡ None
  absent_inside key timestamp own absent = ap (λ (k : Key). entry_at k inside) own ∙ ap (entry_at (key_of 0 timestamp)) is ∙ absent

  pub there_inside : (t : Transfer) (key : Key) → key ≡ key_of 0 t.timestamp → IsAmong t view → IsSome (entry_at key inside)
  there_inside t key own among = ap is_some (ap (λ (k : Key). entry_at k inside) own ∙ ap (entry_at (key_of 0 t.timestamp)) is) ∙ among.object

  pub is_put_among : (t : Transfer) (key : Key) (new : Objects) → key ≡ key_of 0 t.timestamp → entry_at (key_of 0 t.timestamp) view ≡ None
      → new ≡ with_row key_cmp key (Some (record { «record» = t })) inside → IsPutAmong t view new
  is_put_among t key new own absent put =
      let entry : Option (Stored Transfer) = Some (record { «record» = t }) in
      let same : new ≡ with_row key_cmp (key_of 0 t.timestamp) entry view = put ∙ ap (λ (k : Key). with_row key_cmp k entry inside) own ∙ ap (with_row key_cmp (key_of 0 t.timestamp) entry) is in
      subst (IsPutAmong t view) (sym same) (put_among t view viewed absent)

  pub is_taken_from : (t : Transfer) (key : Key) (new : Objects) → key ≡ key_of 0 t.timestamp → IsAmong t view → new ≡ without_row key_cmp key inside → IsTakenFrom t view new
  is_taken_from t key new own among take =
      let same : new ≡ without_row key_cmp (key_of 0 t.timestamp) view = take ∙ ap (λ (k : Key). without_row key_cmp k inside) own ∙ ap (without_row key_cmp (key_of 0 t.timestamp)) is in
      subst (IsTakenFrom t view) (sym same) (taken_from t view viewed among)

  -- what their index has at a key, as any row may have it
  module _ (f : Field) (key own : Key) (of : own ≡ time_of key) where
    seen_by : (x : Option (Option (Stored Transfer))) → x ≡ entry_at own inside → entry_at key (seen_rows key_seen (index_of f view)) ≡ option_map (option_map key_seen) (read_off f key x)
    seen_by x found =
        entry_at-seen key_seen key (index_of f view)
        ∙ ap (option_map (option_map key_seen)) (index_has f key view viewed
        ∙ ap (read_off f key) (sym (found ∙ ap (λ (k : Key). entry_at k inside) of ∙ ap (entry_at (time_of key)) is)))

    pub key_missing : None ≡ entry_at own inside → None ≡ entry_at key (seen_rows key_seen (index_of f view))
    key_missing found = sym (seen_by None found)

    pub key_found : (entry : Option (Stored Transfer)) → Some entry ≡ entry_at own inside → field_in f entry ≡ key.value → Some (Some value.Unit) ≡ entry_at key (seen_rows key_seen (index_of f view))
    key_found entry found same = sym (seen_by (Some entry) found ∙ ap (option_map (option_map key_seen)) (read_there f key entry same))

    pub key_differs : (entry : Option (Stored Transfer)) → Some entry ≡ entry_at own inside → (field_in f entry ≡ key.value → ⊥) → None ≡ entry_at key (seen_rows key_seen (index_of f view))
    key_differs entry found other = sym (seen_by (Some entry) found ∙ ap (option_map (option_map key_seen)) (read_none f key entry other))
