-- What an entry changes in the rows of pending transfers: their statuses, and when they expire.
use Rattle.std.proofs.Common.{◌≡◌, List, [], ◌∷◌, ◌++◌, filter, Some, None, Bool, true, false, cond, not, ◌&&◌, refl, ap, sym, ◌∙◌, subst, inl, inr}
use Rattle.std.specs.Prelude.{◌==◌, if◌then◌else◌}
use Rattle.std.proofs.lemmas.Bool.{and_from, and_parts, and_right, both_ways, false_from_ne_true, not_from_false, not_from_true}
use Rattle.std.proofs.lemmas.Option.{none-some}
use Rattle.tf_records.specs.declared.transfer.Transfer.{Transfer}
use Rattle.tf_journal.specs.declared.entry.Entry.{Entry}
use Rattle.tf_journal.specs.declared.entry.Entry.TheVariants as entry
use Rattle.tf_journal.specs.declared.status.Status.{Status}
use Rattle.tf_journal.specs.declared.status.Status.TheVariants as status
use Rattle.tf_journal.specs.Flags.{is_pending}
use Rattle.tf_journal.specs.Journal.{transfer_in, transfers_of}
use Rattle.tf_journal.specs.Laws.{settles}
use Rattle.tf_journal.specs.Lawful.{IsSound}
use Rattle.tf_journal.specs.Status.{expires, is_open, is_open_status, posts, status_of, voids}
use Rattle.tf_journal.proofs.Settling.{open_push, status_by}
use Rattle.tf_journal.proofs.Unique.{timestamps_differ}
use Rattle.tf_table.specs.declared.key.Key.{Key}
use Rattle.tf_manifest.specs.declared.row.Row.TheVariants as row
use Rattle.tf_manifest.specs.declared.value.Value.{Value}
use Rattle.tf_manifest.specs.declared.value.Value.TheVariants as value
use Rattle.tf_manifest.specs.Rows.{Pair, can_expire, key_of, pending_of, rows_of}
use Rattle.tf_manifest.proofs.Members.{Has, has_made, has_map}
use Rattle.tf_manifest.proofs.OneValue.{has_kept, pairs_once}
use Rattle.tf_rows.specs.Edits.{Edit, expiry_edit, expiry_key, gone, put, status_edit}
use Rattle.tf_rows.proofs.Changes.{IsChange, IsOf, IsUntouched, remade}
use Rattle.tf_rows.proofs.Settled.{Settles, SettlesNothing, open_stays, status_stays, status_told, transfer_added, transfer_after, transfer_before}

pub passes : {X : Type 0} (p : X → Bool) (xs : List X) (x : X) → Has (filter p xs) x → p x ≡ true
passes p [] x h = absurd h
passes p (y ∷ xs) x h = by_test (p y) refl h (passes p xs x) where
  by_test : (b : Bool) → p y ≡ b → Has (cond b (y ∷ filter p xs) (filter p xs)) x → (Has (filter p xs) x → p x ≡ true) → p x ≡ true
  by_test true e (inl same) rest = ap p (sym same) ∙ e
  by_test true e (inr there) rest = rest there
  by_test false e there rest = rest there

pub keeps : {X : Type 0} (p : X → Bool) (xs : List X) (x : X) → Has xs x → p x ≡ true → Has (filter p xs) x
keeps p [] x h e = absurd h
keeps p (y ∷ xs) x h e = by_test (p y) refl h (keeps p xs x) where
  by_test : (b : Bool) → p y ≡ b → Has (y ∷ xs) x → (Has xs x → p x ≡ true → Has (filter p xs) x) → Has (cond b (y ∷ filter p xs) (filter p xs)) x
  by_test true is (inl same) rest = inl same
  by_test true is (inr there) rest = inr (rest there e)
  by_test false is (inl same) rest = absurd (both_ways (p x) (ap p (sym same) ∙ is) e)
  by_test false is (inr there) rest = rest there e

-- one edit that puts a value
pub one_there : (after : List Pair) (k : Key) (v : Value) → Has after (k, v) → (q : Key) (w : Value) → Has (put k v ∷ []) (q, Some w) → Has after (q, w)
one_there after k v has q w (inl same) =
    let val : v ≡ w = let s : Some v ≡ Some w = ap (λ (e : Edit). e.1) same in cc in
    subst (Has after) (ap (λ (x : Key). (x, v)) (ap (λ (e : Edit). e.0) same) ∙ ap (λ (y : Value). (q, y)) val) has
one_there after k v has q w (inr none) = absurd none

pub one_not_gone : (k : Key) (v : Value) (q : Key) → Has (put k v ∷ []) (q, None) → ⊥
one_not_gone k v q (inl same) = none-some v (sym (ap (λ (e : Edit). e.1) same))
one_not_gone k v q (inr none) = none

-- the statuses
abbrev pub status_pair : List Entry → Transfer → Pair
status_pair journal t = (key_of 0 t.timestamp, value.Status (status_of journal t))

abbrev pub IsPending : List Entry → Transfer → Type 0
IsPending journal t = Has (transfers_of journal) t × (is_pending t ≡ true)

pub statuses_are : (journal : List Entry) → IsOf (IsPending journal) (status_pair journal) (rows_of journal row.PendingStatus)
statuses_are journal = record {
  from = λ p h.
      let made = has_made (status_pair journal) (pending_of journal) p h in
      record {
        from = made.from;
        has = (has_kept is_pending (transfers_of journal) made.from made.has, passes is_pending (transfers_of journal) made.from made.has);
        is = made.is;
      };
  into = λ t is. has_map (status_pair journal) (pending_of journal) t (keeps is_pending (transfers_of journal) t is.0 is.1);
}

status_kept : (journal : List Entry) (e : Entry) (t : Transfer) → settles t e ≡ false → status_pair journal t ≡ status_pair (journal ++ e ∷ []) t
status_kept journal e t not = ap (λ (s : Status). (key_of 0 t.timestamp, value.Status s)) (sym (status_stays journal e t not))

-- no pending transfer is added
abbrev pub AddsNoPending : Entry → Type 0
AddsNoPending e = (t : Transfer) → e ≡ entry.Transfer t → is_pending t ≡ false

-- a pending transfer after such an entry was there before
was_pending : (journal : List Entry) (e : Entry) → AddsNoPending e → (t : Transfer) → IsPending (journal ++ e ∷ []) t → IsPending journal t
was_pending journal e adds t is = elim (transfer_after journal e t is.0) [
  | inl old ↦ (old, is.1)
  | inr new ↦ absurd (both_ways (is_pending t) (adds t new) is.1)
]

still_pending : (journal : List Entry) (e : Entry) (t : Transfer) → IsPending journal t → IsPending (journal ++ e ∷ []) t
still_pending journal e t is = (transfer_before journal e t is.0, is.1)

pub statuses_stay : (journal : List Entry) (e : Entry) → SettlesNothing journal e → AddsNoPending e
    → IsChange (rows_of journal row.PendingStatus) (rows_of (journal ++ e ∷ []) row.PendingStatus) []
statuses_stay journal e nothing adds =
    remade (IsPending journal) (IsPending (journal ++ e ∷ [])) (status_pair journal) (status_pair (journal ++ e ∷ []))
    (rows_of journal row.PendingStatus) (rows_of (journal ++ e ∷ []) row.PendingStatus) [] (statuses_are journal) (statuses_are (journal ++ e ∷ []))
    (λ k v h. absurd h) (λ k h. absurd h)
    (λ t is u. (still_pending journal e t is, status_kept journal e t (nothing.none t)))
    (λ t is u. (was_pending journal e adds t is, status_kept journal e t (nothing.none t)))

pub status_settles : (journal : List Entry) (e : Entry) (p : Transfer) (s : Status) → Settles journal e p → status_by (posts p e) (voids p e) (expires p e) ≡ s
    → IsChange (rows_of journal row.PendingStatus) (rows_of (journal ++ e ∷ []) row.PendingStatus) (status_edit s p)
status_settles journal e p s settled says =
    let after = journal ++ e ∷ [] in
    let now : Has (rows_of after row.PendingStatus) (key_of 0 p.timestamp, value.Status s)
    = subst (λ (s : Status). Has (rows_of after row.PendingStatus) (key_of 0 p.timestamp, value.Status s)) (status_told journal e p settled.before ∙ says)
    ((statuses_are after).into p (still_pending journal e p (settled.has, settled.pending))) in
    let other : (t : Transfer) → IsPending journal t → IsUntouched (status_edit s p) (key_of 0 t.timestamp) → settles t e ≡ false
    = λ t is u. false_from_ne_true (settles t e) (λ yes.
    u (Some (value.Status s)) (inl (ap (λ (q : Transfer). put (key_of 0 q.timestamp) (value.Status s)) (sym (settled.only t is.0 is.1 yes))))) in
    remade (IsPending journal) (IsPending after) (status_pair journal) (status_pair after)
    (rows_of journal row.PendingStatus) (rows_of after row.PendingStatus) (status_edit s p) (statuses_are journal) (statuses_are after)
    (one_there (rows_of after row.PendingStatus) (key_of 0 p.timestamp) (value.Status s) now) (λ k h. absurd (one_not_gone (key_of 0 p.timestamp) (value.Status s) k h))
    (λ t is u. (still_pending journal e t is, status_kept journal e t (other t is u)))
    (λ t is u. let was = was_pending journal e settled.not_pending t is in (was, status_kept journal e t (other t was u)))

pub is_open_one : (s : Status) → is_open_status s ≡ true → s ≡ status.Open
is_open_one status.Open e = refl
is_open_one status.Posted e = cc
is_open_one status.Voided e = cc
is_open_one status.Expired e = cc

same_transfer : (t u : Transfer) → entry.Transfer t ≡ entry.Transfer u → t ≡ u
same_transfer t u same = let s : Some t ≡ Some u = ap transfer_in same in cc

pub status_opens : (journal : List Entry) (t : Transfer) → SettlesNothing journal (entry.Transfer t) → is_pending t ≡ true → is_open (journal ++ entry.Transfer t ∷ []) t ≡ true
    → IsChange (rows_of journal row.PendingStatus) (rows_of (journal ++ entry.Transfer t ∷ []) row.PendingStatus) (status_edit status.Open t)
status_opens journal t nothing pending opens =
    let e = entry.Transfer t in
    let after = journal ++ e ∷ [] in
    let now : Has (rows_of after row.PendingStatus) (key_of 0 t.timestamp, value.Status status.Open)
    = subst (λ (s : Status). Has (rows_of after row.PendingStatus) (key_of 0 t.timestamp, value.Status s)) (is_open_one (status_of after t) opens)
    ((statuses_are after).into t (transfer_added journal t, pending)) in
    remade (IsPending journal) (IsPending after) (status_pair journal) (status_pair after)
    (rows_of journal row.PendingStatus) (rows_of after row.PendingStatus) (status_edit status.Open t) (statuses_are journal) (statuses_are after)
    (one_there (rows_of after row.PendingStatus) (key_of 0 t.timestamp) (value.Status status.Open) now)
    (λ k h. absurd (one_not_gone (key_of 0 t.timestamp) (value.Status status.Open) k h))
    (λ u is free. (still_pending journal e u is, status_kept journal e u (nothing.none u)))
    (λ u is free. elim (transfer_after journal e u is.0) [
      | inl old ↦ ((old, is.1), status_kept journal e u (nothing.none u))
      | inr new ↦ absurd (free (Some (value.Status status.Open)) (inl (ap (λ (q : Transfer). put (key_of 0 q.timestamp) (value.Status status.Open)) (same_transfer t u new))))
    ])

-- the expiries
abbrev pub expiry_pair_of : Transfer → Pair
expiry_pair_of t = (expiry_key t, value.Unit)

abbrev pub CanExpire : List Entry → Transfer → Type 0
CanExpire journal t = IsPending journal t × (can_expire journal t ≡ true)

pub expiries_are : (journal : List Entry) → IsOf (CanExpire journal) expiry_pair_of (rows_of journal row.Expiry)
expiries_are journal = record {
  from = λ p h.
      let made = has_made expiry_pair_of (filter (can_expire journal) (pending_of journal)) p h in
      let pending = has_kept (can_expire journal) (pending_of journal) made.from made.has in
      record {
        from = made.from;
        has = (
          (has_kept is_pending (transfers_of journal) made.from pending, passes is_pending (transfers_of journal) made.from pending),
          passes (can_expire journal) (pending_of journal) made.from made.has,
        );
        is = made.is;
      };
  into = λ t is.
      has_map expiry_pair_of (filter (can_expire journal) (pending_of journal)) t
      (keeps (can_expire journal) (pending_of journal) t (keeps is_pending (transfers_of journal) t is.0.0 is.0.1) is.1);
}

-- what is not settled can expire as before
can_kept : (journal : List Entry) (e : Entry) (t : Transfer) → settles t e ≡ false → can_expire (journal ++ e ∷ []) t ≡ can_expire journal t
can_kept journal e t not_settled = ap (λ (b : Bool). not (t.timeout == 0) && b) (open_stays journal e t not_settled)

-- what can expire afterwards could before
can_back : (journal : List Entry) (e : Entry) (t : Transfer) → can_expire (journal ++ e ∷ []) t ≡ true → can_expire journal t ≡ true
can_back journal e t can =
    let parts = and_parts (not (t.timeout == 0)) (is_open (journal ++ e ∷ []) t) can in
    and_from (not (t.timeout == 0)) (is_open journal t) parts.0 (and_parts (is_open journal t) (not (settles t e)) (sym (open_push journal e t) ∙ parts.1)).0

has_timeout : (journal : List Entry) (t : Transfer) → can_expire journal t ≡ true → (t.timeout == 0) ≡ true → ⊥
has_timeout journal t can none =
    both_ways (not (t.timeout == 0)) (not_from_true (t.timeout == 0) none) (and_parts (not (t.timeout == 0)) (is_open journal t) can).0

still_can : (journal : List Entry) (e : Entry) (t : Transfer) → settles t e ≡ false → CanExpire journal t → CanExpire (journal ++ e ∷ []) t
still_can journal e t not_settled is = (still_pending journal e t is.0, can_kept journal e t not_settled ∙ is.1)

could : (journal : List Entry) (e : Entry) → AddsNoPending e → (t : Transfer) → CanExpire (journal ++ e ∷ []) t → CanExpire journal t
could journal e adds t is = (was_pending journal e adds t is.0, can_back journal e t is.1)

module _ (journal : List Entry) (e : Entry) (changes : List Edit) where
  -- edits that leave each expiry but that of a settled transfer, and add the new one
  expiries_made : ((k : Key) (v : Value) → Has changes (k, Some v) → Has (rows_of (journal ++ e ∷ []) row.Expiry) (k, v))
      → ((k : Key) → Has changes (k, None) → (t : Transfer) → CanExpire (journal ++ e ∷ []) t → expiry_key t ≡ k → ⊥)
      → ((t : Transfer) → CanExpire journal t → IsUntouched changes (expiry_key t) → settles t e ≡ false)
      → ((t : Transfer) → CanExpire (journal ++ e ∷ []) t → IsUntouched changes (expiry_key t) → e ≡ entry.Transfer t → ⊥)
      → IsChange (rows_of journal row.Expiry) (rows_of (journal ++ e ∷ []) row.Expiry) changes
  expiries_made there away settled added =
      remade (CanExpire journal) (CanExpire (journal ++ e ∷ [])) expiry_pair_of expiry_pair_of
      (rows_of journal row.Expiry) (rows_of (journal ++ e ∷ []) row.Expiry) changes (expiries_are journal) (expiries_are (journal ++ e ∷ []))
      there away
      (λ t is u. (still_can journal e t (settled t is u) is, refl))
      (λ t is u. elim (transfer_after journal e t is.0.0) [
        | inl old ↦ (((old, is.0.1), can_back journal e t is.1), refl)
        | inr new ↦ absurd (added t is u new)
      ])

pub expiries_kept : (journal : List Entry) (e : Entry) → SettlesNothing journal e → AddsNoPending e
    → IsChange (rows_of journal row.Expiry) (rows_of (journal ++ e ∷ []) row.Expiry) []
expiries_kept journal e nothing adds =
    expiries_made journal e [] (λ k v h. absurd h) (λ k h. absurd h) (λ t is u. nothing.none t)
    (λ t is u new. both_ways (is_pending t) (adds t new) is.0.1)

pub expiry_goes : (journal : List Entry) (e : Entry) (p : Transfer) → IsSound journal → Settles journal e p
    → IsChange (rows_of journal row.Expiry) (rows_of (journal ++ e ∷ []) row.Expiry) (expiry_edit gone p)
expiry_goes journal e p sound settled = by_timeout (p.timeout == 0) refl where
  not_new : (t : Transfer) → CanExpire (journal ++ e ∷ []) t → e ≡ entry.Transfer t → ⊥
  not_new t is new = both_ways (is_pending t) (settled.not_pending t new) is.0.1

  closed : is_open (journal ++ e ∷ []) p ≡ false
  closed = open_push journal e p ∙ and_right (is_open journal p) (not (settles p e)) (not_from_true (settles p e) settled.does)

  not_there : (k : Key) → Has (gone (expiry_key p) ∷ []) (k, None) → (t : Transfer) → CanExpire (journal ++ e ∷ []) t → expiry_key t ≡ k → ⊥
  not_there k (inr none) t is same = none
  not_there k (inl first) t is same =
      let stamps : t.timestamp ≡ p.timestamp = ap (λ (x : Key). x.timestamp) (same ∙ sym (ap (λ (c : Edit). c.0) first)) in
      let was = could journal e settled.not_pending t is in
      let it : t ≡ p = pairs_once (λ (u : Transfer). u.timestamp) (transfers_of journal) (timestamps_differ journal sound) t p was.0.0 settled.has stamps in
      both_ways (is_open (journal ++ e ∷ []) t) (ap (is_open (journal ++ e ∷ [])) it ∙ closed) (and_parts (not (t.timeout == 0)) (is_open (journal ++ e ∷ []) t) is.1).1

  by_timeout : (b : Bool) → (p.timeout == 0) ≡ b → IsChange (rows_of journal row.Expiry) (rows_of (journal ++ e ∷ []) row.Expiry) (if b then [] else gone (expiry_key p) ∷ [])
  by_timeout true none =
      expiries_made journal e [] (λ k v h. absurd h) (λ k h. absurd h)
      (λ t is u. false_from_ne_true (settles t e) (λ yes. has_timeout journal t is.1 (ap (λ (q : Transfer). q.timeout == 0) (settled.only t is.0.0 is.0.1 yes) ∙ none)))
      (λ t is u new. not_new t is new)
  by_timeout false some =
      expiries_made journal e (gone (expiry_key p) ∷ [])
      (λ k v h. elim h [
        | inl first ↦ absurd (none-some v (ap (λ (c : Edit). c.1) first))
        | inr none ↦ absurd none
      ])
      not_there
      (λ t is u. false_from_ne_true (settles t e) (λ yes. u None (inl (ap (λ (q : Transfer). gone (expiry_key q)) (sym (settled.only t is.0.0 is.0.1 yes))))))
      (λ t is u new. not_new t is new)

pub expiry_comes : (journal : List Entry) (t : Transfer) → SettlesNothing journal (entry.Transfer t) → is_pending t ≡ true → is_open (journal ++ entry.Transfer t ∷ []) t ≡ true
    → IsChange (rows_of journal row.Expiry) (rows_of (journal ++ entry.Transfer t ∷ []) row.Expiry) (expiry_edit (λ key. put key value.Unit) t)
expiry_comes journal t nothing pending opens = by_timeout (t.timeout == 0) refl where
  by_timeout : (b : Bool) → (t.timeout == 0) ≡ b → IsChange (rows_of journal row.Expiry) (rows_of (journal ++ entry.Transfer t ∷ []) row.Expiry) (if b then [] else put (expiry_key t) value.Unit ∷ [])
  by_timeout true none =
      expiries_made journal (entry.Transfer t) [] (λ k v h. absurd h) (λ k h. absurd h) (λ u is free. nothing.none u)
      (λ u is free new. has_timeout (journal ++ entry.Transfer t ∷ []) u is.1 (ap (λ (q : Transfer). q.timeout == 0) (sym (same_transfer t u new)) ∙ none))
  by_timeout false some =
      let now = (expiries_are (journal ++ entry.Transfer t ∷ [])).into t ((transfer_added journal t, pending), and_from (not (t.timeout == 0)) (is_open (journal ++ entry.Transfer t ∷ []) t) (not_from_false (t.timeout == 0) some) opens) in
      expiries_made journal (entry.Transfer t) (put (expiry_key t) value.Unit ∷ [])
      (one_there (rows_of (journal ++ entry.Transfer t ∷ []) row.Expiry) (expiry_key t) value.Unit now)
      (λ k h. absurd (one_not_gone (expiry_key t) value.Unit k h))
      (λ u is free. nothing.none u)
      (λ u is free new. free (Some value.Unit) (inl (ap (λ (q : Transfer). put (expiry_key q) value.Unit) (same_transfer t u new))))
