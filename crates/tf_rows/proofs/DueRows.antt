-- The pairs of expiry that are due are those of the transfers that are due, in the order of their expiry.
use Rattle.std.proofs.Common.{◌≡◌, ℕ, suc, ◌<◌, ◌≤◌, List, [], ◌∷◌, map, filter, fold, length, Option, Some, None, Bool, true, false, not, ◌&&◌, cond, refl, sym, ◌∙◌, ap, subst, inl, inr, ◌⊎◌, arith}
use Rattle.std.specs.Prelude.{◌==◌, nat_le}
use Rattle.std.specs.List.{AllByRecursion}
use Rattle.std.specs.Option.{IsSome, is_some, option_and_then}
use Rattle.std.specs.Ordering.{is_lt, nat_cmp, ordering_then}
use Rattle.std.specs.declared.cmp.Ordering.TheVariants.{Less, Equal, Greater}
use Rattle.std.proofs.lemmas.Bool.{and_from, and_parts, cases_lt, cond-false, cond-true, cond_both, eq-eqb, le-leb, le-ltb, leb-false, leb-true, lt-leb, lt-ltb, true≢false}
use Rattle.std.proofs.lemmas.List.{length-map}
use Rattle.std.proofs.lemmas.List.Elements.{All-from_recursion}
use Rattle.std.proofs.lemmas.Option.{none-some, same_Some}
use Rattle.tf_sorted.specs.Rows.{first_key, AllAfter, IsRising, rows_from, value_at}
use Rattle.tf_records.specs.declared.transfer.Transfer.{Transfer}
use Rattle.tf_journal.specs.declared.entry.Entry.{Entry}
use Rattle.tf_journal.specs.declared.entry.Entry.TheVariants as entry
use Rattle.tf_journal.specs.Due.{by_expiry, due, expires_before, first_of, is_due, next_due_of, with_expiring}
use Rattle.tf_journal.specs.Flags.{is_pending}
use Rattle.tf_journal.specs.Journal.{last_timestamp, timestamp_of, transfers_of}
use Rattle.tf_journal.specs.Lawful.{IsSound}
use Rattle.tf_journal.specs.Status.{is_open, pending_at}
use Rattle.tf_journal.specs.Verdict.{expires_at, is_overdue}
use Rattle.tf_journal.proofs.Due.{transfers_rising}
use Rattle.tf_journal.proofs.Expiring.{IsInOrder, Precedes, all_filtered, before_cases, by_expiry_all, by_expiry_filter, by_expiry_ordered}
use Rattle.tf_journal.proofs.Lists.{find_only}
use Rattle.tf_journal.proofs.Settling.{is_pending_at, pending_at_is_rare}
use Rattle.tf_table.specs.declared.key.Key.{Key}
use Rattle.tf_table.specs.First.{IsFirstFrom}
use Rattle.tf_table.specs.Key.{key_cmp}
use Rattle.tf_table.proofs.Determined.{IsRising-filter, bool_cases, rows_ext, value_at-filter}
use Rattle.tf_table.proofs.Keys.{exact_keys, keys_total}
use Rattle.tf_table.proofs.Rising.{greater_back, less_from}
use Rattle.tf_manifest.specs.declared.row.Row.TheVariants as row
use Rattle.tf_manifest.specs.declared.value.Value.{Value}
use Rattle.tf_manifest.specs.declared.value.Value.TheVariants as value
use Rattle.tf_manifest.specs.Rows.{Pair, rows_of}
use Rattle.tf_manifest.specs.Shows.{Content, Shows, value_of}
use Rattle.tf_manifest.proofs.Members.{Has, all_has, chosen, has_made, has_map}
use Rattle.tf_manifest.proofs.OneValue.{contained, has_kept, transfer_entry}
use Rattle.tf_manifest.proofs.Pairs.{value_from, value_listed}
use Rattle.tf_rows.specs.Due.{due_pairs, first_due_from, is_due_key, transfers_read}
use Rattle.tf_rows.specs.Edits.{expiry_key}
use Rattle.tf_rows.specs.LookUps.{transfer_at}
use Rattle.tf_rows.proofs.Changes.{RowsAreMaps, no_value, same_options}
use Rattle.tf_rows.proofs.FoundInRows.{transfer_is_at}
use Rattle.tf_rows.proofs.Histories.{filter_all}
use Rattle.tf_rows.proofs.Statuses.{CanExpire, expiries_are, expiry_pair_of, keeps, passes}
use Rattle.tf_rows.proofs.Walks.{behind_first, first_is, next_key, not_before}

-- keys by their parts
less_parts : (x s y t : ℕ) → (x < y) ⊎ ((x ≡ y) × (s < t)) → ordering_then (nat_cmp x y) (nat_cmp s t) ≡ Less
less_parts x s y t (inl less) = ap (λ b. ordering_then (cond b Less (cond (x == y) Equal Greater)) (nat_cmp s t)) (lt-ltb x y less)
less_parts x s y t (inr same) =
    ap (λ b. ordering_then (cond b Less (cond (x == y) Equal Greater)) (nat_cmp s t)) (le-ltb x y (omega (arith, same.0)))
    ∙ ap (λ b. ordering_then (cond b Equal Greater) (nat_cmp s t)) (eq-eqb x y same.0)
    ∙ ap (λ b. cond b Less (cond (s == t) Equal Greater)) (lt-ltb s t same.1)

-- a key that isn't below another has no lesser value
pub value_upto : (key low : Key) → is_lt (key_cmp key low) ≡ false → low.value ≤ key.value
value_upto key low at = elim (cases_lt key.value low.value) [
  | inl less ↦ absurd (true≢false (sym (ap is_lt (less_parts key.value key.timestamp low.value low.timestamp (inl less))) ∙ at))
  | inr upto ↦ upto
]

-- transfers in the order of their expiry have rising keys there
after_all : (t : Transfer) (ts : List Transfer) → AllByRecursion (Precedes t) ts → AllAfter key_cmp (expiry_key t) (map expiry_pair_of ts)
after_all t [] all = tt
after_all t (u ∷ ts) all = (less_parts (expires_at t) t.timestamp (expires_at u) u.timestamp (before_cases t u all.0.before), after_all t ts all.1)

rising_pairs : (ts : List Transfer) → IsInOrder ts → IsRising key_cmp (map expiry_pair_of ts)
rising_pairs [] ordered = tt
rising_pairs (t ∷ ts) ordered = (after_all t ts ordered.0, rising_pairs ts ordered.1)

ordered_kept : (q : Transfer → Bool) (ts : List Transfer) → IsInOrder ts → IsInOrder (filter q ts)
ordered_kept q [] ordered = tt
ordered_kept q (t ∷ ts) ordered =
    cond_both (q t) (t ∷ filter q ts) (filter q ts) IsInOrder (λ _. (all_filtered (Precedes t) q ts ordered.0, ordered_kept q ts ordered.1)) (λ _. ordered_kept q ts ordered.1)

-- transfers in the order of their expiry are the same transfers
placed_has : (rest : List Transfer) (t x : Transfer) → Has (t ∷ rest) x → Has (with_expiring rest t) x
placed_has [] t x h = h
placed_has (first ∷ rest) t x h =
    chosen (λ (ts : List Transfer). Has ts x) (expires_before t first) (t ∷ first ∷ rest) (first ∷ with_expiring rest t)
    (λ _. h)
    (λ _. elim h [
      | inl same ↦ inr (placed_has rest t x (inl same))
      | inr (inl same) ↦ inl same
      | inr (inr later) ↦ inr (placed_has rest t x (inr later))
    ])

ordered_has : (sorted ts : List Transfer) (x : Transfer) → (Has sorted x ⊎ Has ts x) → Has (fold with_expiring sorted ts) x
ordered_has sorted [] x (inl h) = h
ordered_has sorted [] x (inr none) = absurd none
ordered_has sorted (t ∷ ts) x (inl h) = ordered_has (with_expiring sorted t) ts x (inl (placed_has sorted t x (inr h)))
ordered_has sorted (t ∷ ts) x (inr (inl same)) = ordered_has (with_expiring sorted t) ts x (inl (placed_has sorted t x (inl same)))
ordered_has sorted (t ∷ ts) x (inr (inr h)) = ordered_has (with_expiring sorted t) ts x (inr h)

among_all : (P : Transfer → Type 0) (ts : List Transfer) → ((x : Transfer) → Has ts x → P x) → AllByRecursion P ts
among_all P [] f = tt
among_all P (t ∷ ts) f = (f t (inl refl), among_all P ts (λ x h. f x (inr h)))

ordered_from : (ts : List Transfer) (x : Transfer) → Has (by_expiry ts) x → Has ts x
ordered_from ts x h = all_has (Has ts) (by_expiry ts) x (All-from_recursion (Has ts) (by_expiry ts) (by_expiry_all (Has ts) ts (among_all (Has ts) ts (λ t g. g)))) h

-- what a row has at the keys that are due, and at no others
abbrev pub due_only : ℕ → (Key → Option Value) → Key → Option Value
due_only moment own key = cond (is_due_key moment key) (own key) None

none_due : (b : Bool) (o : Option Value) → o ≡ None → cond b o None ≡ None
none_due true o none = none
none_due false o none = refl

some_due : (b : Bool) (o : Option Value) (v : Value) → cond b o None ≡ Some v → (b ≡ true) × (o ≡ Some v)
some_due true o v is = (refl, is)
some_due false o v is = absurd (none-some v is)

-- the first key of a row from a key on, and whether it is due
module _ (moment : ℕ) (own : Key → Option Value) (from : Key) where
  pub first_none : IsFirstFrom from own None → IsFirstFrom from (due_only moment own) None
  first_none none = λ key at. none_due (is_due_key moment key) (own key) (none key at)

  pub first_over : (first : Key) → IsFirstFrom from own (Some first) → is_due_key moment first ≡ true → IsFirstFrom from (due_only moment own) (Some first)
  first_over first is over = record {
    among = is.among;
    there = ap (λ b. is_some (cond b (own first) None)) over ∙ is.there;
    before = λ key at less. none_due (is_due_key moment key) (own key) (is.before key at less);
  }

  pub first_later : (first : Key) → IsFirstFrom from own (Some first) → is_due_key moment first ≡ false → IsFirstFrom from (due_only moment own) None
  first_later first is later = λ key at. bool_cases (is_lt (key_cmp key first))
      (λ less. none_due (is_due_key moment key) (own key) (is.before key at (less_from (key_cmp key first) less)))
      (λ upto.
      let low : first.value ≤ key.value = value_upto key first upto in
      let past : moment < first.value = leb-false first.value moment later in
      cond-false (is_due_key moment key) (own key) None (lt-leb key.value moment (omega arith)))

-- rising pairs of a row that has these values
module _ (pairs : List Pair) (rising : IsRising key_cmp pairs) (own : Key → Option Value) (listed : (key : Key) → value_at key_cmp key pairs ≡ own key) (moment : ℕ) where
  pub due_rising : IsRising key_cmp (due_pairs moment pairs)
  due_rising = IsRising-filter key_cmp keys_total exact_keys (λ (p : Pair). is_due_key moment p.0) pairs rising

  due_listed : (key : Key) → value_at key_cmp key (due_pairs moment pairs) ≡ due_only moment own key
  due_listed key =
      value_at-filter key_cmp keys_total exact_keys (is_due_key moment) key pairs
      ∙ ap (λ (o : Option Value). cond (is_due_key moment key) o None) (listed key)

  -- the first due key from a key on is that of the first due pair
  pub first_due_is : (from : Key) (found : Option Key) → IsFirstFrom from (due_only moment own) found → found ≡ first_due_from moment from pairs
  first_due_is from found is = first_is (due_pairs moment pairs) due_rising (due_only moment own) due_listed from found is

  -- from a key on below which the row has nothing, there are all
  pub due_from_floor : (floor : Key) → ((key : Key) → key_cmp key floor ≡ Less → own key ≡ None) → rows_from key_cmp floor (due_pairs moment pairs) ≡ due_pairs moment pairs
  due_from_floor floor none = filter_all (λ (p : Pair). not (is_lt (key_cmp p.0 floor))) (due_pairs moment pairs) (λ p has. bool_cases (is_lt (key_cmp p.0 floor))
      (λ below.
      let there : value_at key_cmp p.0 pairs ≡ Some p.1 = value_listed pairs p.0 p.1 rising (has_kept (λ (q : Pair). is_due_key moment q.0) pairs p has) in
      absurd (none-some p.1 (sym (none p.0 (less_from (key_cmp p.0 floor) below)) ∙ sym (listed p.0) ∙ there)))
      (λ at. ap not at))

first_has : (ts : List Transfer) (t : Transfer) → first_of ts ≡ Some t → Has ts t
first_has [] t is = cc
first_has (u ∷ ts) t is = inl (same_Some u t is)

-- of transfers in the order of their expiry none has a key below that of the first
none_before : (first : Transfer) (key : Key) (v : Value) → key_cmp key (expiry_key first) ≡ Less → (ts : List Transfer) → first_of ts ≡ Some first → IsInOrder ts → Has (map expiry_pair_of ts) (key, v) → ⊥
none_before first key v less [] is ordered has = has
none_before first key v less (t ∷ ts) is ordered has =
    let same : t ≡ first = same_Some t first is in
    not_before (expiry_pair_of t) (map expiry_pair_of ts) key v (after_all t ts ordered.0) (subst (λ (u : Transfer). key_cmp key (expiry_key u) ≡ Less) (sym same) less) has

module _ (maps : RowsAreMaps) (journal : List Entry) (sound : IsSound journal) where
  -- expiry has the pair of each transfer that can expire
  expiry_there : (t : Transfer) → CanExpire journal t → value_of journal row.Expiry (expiry_key t) ≡ Some value.Unit
  expiry_there t can = (maps journal sound row.Expiry (expiry_key t) value.Unit).0 (contained (rows_of journal row.Expiry) (expiry_pair_of t) ((expiries_are journal).into t can))

  stamp_in_range : (key : Key) (v : Value) → value_of journal row.Expiry key ≡ Some v → key.timestamp ≤ last_timestamp
  stamp_in_range key v is =
      let element = (expiries_are journal).from (key, v) (value_from (rows_of journal row.Expiry) key v is) in
      let t = element.from in
      let stored : t.timestamp ≤ last_timestamp = all_has (λ e. timestamp_of e ≤ last_timestamp) journal (entry.Transfer t) sound.is_journal.in_range (transfer_entry journal t element.has.0.0) in
      subst (λ (p : Pair). p.0.timestamp ≤ last_timestamp) element.is stored

  -- the timestamp of a key of expiry is a transfer's
  pub keys_in_range : (content : Content) → Shows content journal → (key : Key) → IsSome (content row.Expiry key) → key.timestamp ≤ last_timestamp
  keys_in_range content shows key there = by_value (content row.Expiry key) refl there where
    by_value : (o : Option Value) → content row.Expiry key ≡ o → IsSome o → key.timestamp ≤ last_timestamp
    by_value None is some = absurd (cc)
    by_value (Some v) is some = stamp_in_range key v (sym (shows row.Expiry key) ∙ is)

  module _ (moment : ℕ) where
    due_ordered : IsInOrder (due journal moment)
    due_ordered =
        let all = transfers_of journal in
        let rising = transfers_rising 0 journal sound.is_journal.rising in
        subst IsInOrder (by_expiry_filter (is_due journal moment) all rising) (ordered_kept (is_due journal moment) (by_expiry all) (by_expiry_ordered all rising))

    -- what is due can expire, no later than at this moment
    record IsDue (t : Transfer) : Type 0 where
      pub can : CanExpire journal t
      pub over : nat_le (expires_at t) moment ≡ true

    from_due : (t : Transfer) → Has (due journal moment) t → IsDue t
    from_due t h =
        let all = transfers_of journal in
        let among = ordered_from (filter (is_due journal moment) all) t h in
        let passed = and_parts (is_pending t && is_overdue moment t) (is_open journal t) (passes (is_due journal moment) all t among) in
        let pending = and_parts (is_pending t) (is_overdue moment t) passed.0 in
        let timed = and_parts (not (t.timeout == 0)) (nat_le (expires_at t) moment) pending.1 in
        record {
          can = ((has_kept (is_due journal moment) all t among, pending.0), and_from (not (t.timeout == 0)) (is_open journal t) timed.0 passed.1);
          over = timed.1;
        }

    into_due : (t : Transfer) → IsDue t → Has (due journal moment) t
    into_due t is =
        let all = transfers_of journal in
        let timed = and_parts (not (t.timeout == 0)) (is_open journal t) is.can.1 in
        let overdue : is_overdue moment t ≡ true = and_from (not (t.timeout == 0)) (nat_le (expires_at t) moment) timed.0 is.over in
        let passed : is_due journal moment t ≡ true = and_from (is_pending t && is_overdue moment t) (is_open journal t) (and_from (is_pending t) (is_overdue moment t) is.can.0.1 overdue) timed.1 in
        ordered_has [] (filter (is_due journal moment) all) t (inr (keeps (is_due journal moment) all t is.can.0.0 passed))

    abbrev own_pairs : List Pair
    own_pairs = map expiry_pair_of (due journal moment)

    abbrev own_value : Key → Option Value
    own_value = due_only moment (value_of journal row.Expiry)

    due_from : (key : Key) (v : Value) → own_value key ≡ Some v → value_at key_cmp key own_pairs ≡ Some v
    due_from key v is =
        let both = some_due (is_due_key moment key) (value_of journal row.Expiry key) v is in
        let element = (expiries_are journal).from (key, v) (value_from (rows_of journal row.Expiry) key v both.1) in
        let over : nat_le (expires_at element.from) moment ≡ true = ap (λ (p : Pair). is_due_key moment p.0) element.is ∙ both.0 in
        let has = has_map expiry_pair_of (due journal moment) element.from (into_due element.from (record { can = element.has; over = over })) in
        value_listed own_pairs key v (rising_pairs (due journal moment) due_ordered) (subst (Has own_pairs) element.is has)

    due_into : (key : Key) (v : Value) → value_at key_cmp key own_pairs ≡ Some v → own_value key ≡ Some v
    due_into key v is =
        let made = has_made expiry_pair_of (due journal moment) (key, v) (value_from own_pairs key v is) in
        let own = from_due made.from made.has in
        subst (λ (p : Pair). own_value p.0 ≡ Some p.1) made.is
        (cond-true (nat_le (expires_at made.from) moment) (value_of journal row.Expiry (expiry_key made.from)) None own.over ∙ expiry_there made.from own.can)

    -- the next transfer to expire is found by its timestamp
    pub next_is_found : (next : Transfer) → next_due_of journal moment ≡ Some next → (pending : ℕ) → next.timestamp ≡ pending → pending_at journal pending ≡ Some next
    next_is_found next is pending at =
        let own = from_due next (first_has (due journal moment) next is) in
        let there = contained (transfers_of journal) next own.can.0.0 in
        find_only (is_pending_at pending) (transfers_of journal) next there.0 (pending_at_is_rare journal pending sound) there.1 there.2
        (and_from (is_pending next) (next.timestamp == pending) own.can.0.1 (eq-eqb next.timestamp pending at))

    -- and has the first key of expiry
    pub first_is_floor : (next : Transfer) → next_due_of journal moment ≡ Some next → (key : Key) → key_cmp key (expiry_key next) ≡ Less → value_of journal row.Expiry key ≡ None
    first_is_floor next is key less = no_value (value_of journal row.Expiry key) (λ v own.
        let element = (expiries_are journal).from (key, v) (value_from (rows_of journal row.Expiry) key v own) in
        let upto : expires_at next ≤ moment = leb-true (expires_at next) moment (from_due next (first_has (due journal moment) next is)).over in
        let low : key.value ≤ expires_at next = value_upto (expiry_key next) key (ap is_lt (greater_back key_cmp keys_total key (expiry_key next) less)) in
        let over : nat_le (expires_at element.from) moment ≡ true = ap (λ (p : Pair). is_due_key moment p.0) element.is ∙ le-leb key.value moment (omega arith) in
        let has = has_map expiry_pair_of (due journal moment) element.from (into_due element.from (record { can = element.has; over = over })) in
        none_before next key v less (due journal moment) is due_ordered (subst (Has own_pairs) element.is has))

    due_values : (key : Key) → value_at key_cmp key own_pairs ≡ own_value key
    due_values key = same_options (value_at key_cmp key own_pairs) (own_value key) (due_from key) (due_into key)

    -- the due pairs of expiry are those of the due transfers
    due_pairs_are : (pairs : List Pair) → IsRising key_cmp pairs → ((key : Key) → value_at key_cmp key pairs ≡ value_of journal row.Expiry key) → due_pairs moment pairs ≡ own_pairs
    due_pairs_are pairs rising values =
        rows_ext key_cmp keys_total exact_keys (due_pairs moment pairs) own_pairs
        (due_rising pairs rising (value_of journal row.Expiry) values moment)
        (rising_pairs (due journal moment) due_ordered)
        (λ key. due_listed pairs rising (value_of journal row.Expiry) values moment key ∙ sym (due_values key))

    all_read : (content : Content) → Shows content journal → (ts : List Transfer) → ((t : Transfer) → Has ts t → Has (transfers_of journal) t)
        → transfers_read content (map expiry_pair_of ts) ≡ map Some ts
    all_read content shows [] among = refl
    all_read content shows (t ∷ ts) among =
        ap (λ (o : Option Transfer). o ∷ transfers_read content (map expiry_pair_of ts)) (transfer_is_at maps content journal sound shows t (among t (inl refl)))
        ∙ ap (λ (os : List (Option Transfer)). Some t ∷ os) (all_read content shows ts (λ u h. among u (inr h)))

    -- their transfers, looked up, are the due ones
    pub due_is_read : (content : Content) → Shows content journal → (pairs : List Pair) → IsRising key_cmp pairs → ((key : Key) → value_at key_cmp key pairs ≡ content row.Expiry key)
        → transfers_read content (due_pairs moment pairs) ≡ map Some (due journal moment)
    due_is_read content shows pairs rising values =
        ap (transfers_read content) (due_pairs_are pairs rising (λ key. values key ∙ shows row.Expiry key))
        ∙ all_read content shows (due journal moment) (λ t h. (from_due t h).can.0.0)

-- the transfer of the first pair is the first of the transfers
pub first_read : (content : Content) (pairs : List Pair) (ts : List Transfer) → transfers_read content pairs ≡ map Some ts
    → option_and_then (λ (key : Key). transfer_at content key.timestamp) (first_key pairs) ≡ first_of ts
first_read content [] [] is = refl
first_read content [] (t ∷ ts) is = cc
first_read content (p ∷ pairs) [] is = cc
first_read content (p ∷ pairs) (t ∷ ts) is = cc

-- there are as many transfers as pairs
pub count_read : (content : Content) (pairs : List Pair) (ts : List Transfer) → transfers_read content pairs ≡ map Some ts → length ts ≡ length pairs
count_read content pairs ts is =
    sym (length-map ts (λ (t : Transfer). Some t)) ∙ ap (λ (os : List (Option Transfer)). length os) (sym is) ∙ length-map pairs (λ (p : Pair). transfer_at content p.0.timestamp)

-- where no pair is left from a key on, and where one is
pub none_left : (pairs : List Pair) (from : Key) → first_key (rows_from key_cmp from pairs) ≡ None → length (rows_from key_cmp from pairs) ≡ 0
none_left pairs from none = by_left (rows_from key_cmp from pairs) none where
  by_left : (left : List Pair) → first_key left ≡ None → length left ≡ 0
  by_left [] is = refl
  by_left (p ∷ left) is = cc

pub one_less_left : (pairs : List Pair) → IsRising key_cmp pairs → (from key : Key) → first_key (rows_from key_cmp from pairs) ≡ Some key
    → length (rows_from key_cmp from pairs) ≡ suc (length (rows_from key_cmp (next_key key) pairs))
one_less_left pairs rising from key first = by_left (rows_from key_cmp from pairs) refl first where
  by_left : (left : List Pair) → rows_from key_cmp from pairs ≡ left → first_key left ≡ Some key → length left ≡ suc (length (rows_from key_cmp (next_key key) pairs))
  by_left [] is none = cc
  by_left (p ∷ left) is own =
      let same : p.0 ≡ key = same_Some p.0 key own in
      ap suc (sym (ap (λ (rs : List Pair). length rs) (behind_first pairs rising from p left is)) ∙ ap (λ (k : Key). length (rows_from key_cmp (next_key k) pairs)) same)
