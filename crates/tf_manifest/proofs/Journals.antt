-- Journals with the same entries are the same, and entries put among others by their timestamps.
use Rattle.std.proofs.Common.{◌≡◌, ◌≢◌, ℕ, ◌<◌, List, [], ◌∷◌, cond, fold, nat_lt, refl, sym, ◌∙◌, ap, subst, arith, inl, inr, ◌⊎◌}
use Rattle.std.specs.Prelude.{◌==◌}
use Rattle.std.proofs.lemmas.Bool.{eqb-true, eqb-false, ltb-true, ltb-false}
use Rattle.tf_journal.specs.declared.entry.Entry.{Entry}
use Rattle.tf_journal.specs.Journal.{IsRisingFrom, timestamp_of}
use Rattle.tf_manifest.specs.Shows.{with_entry}
use Rattle.tf_manifest.proofs.Members.{Has, chosen}

-- each entry is younger than the moment from which the timestamps rise
pub has_above : (low : ℕ) (journal : List Entry) (e : Entry) → IsRisingFrom low journal → Has journal e → low < timestamp_of e
has_above low [] e rising h = absurd h
has_above low (f ∷ journal) e rising (inl same) = subst (λ (x : Entry). low < timestamp_of x) same rising.0
has_above low (f ∷ journal) e rising (inr h) = omega (arith, rising.0, has_above (timestamp_of f) journal e rising.1 h)

-- no two entries of a journal have one timestamp
pub has_once : (low : ℕ) (journal : List Entry) (e f : Entry) → IsRisingFrom low journal → Has journal e → Has journal f → timestamp_of e ≡ timestamp_of f → e ≡ f
has_once low [] e f rising he hf same = absurd he
has_once low (g ∷ journal) e f rising (inl p) (inl q) same = sym p ∙ q
has_once low (g ∷ journal) e f rising (inl p) (inr h) same =
    let above = has_above (timestamp_of g) journal f rising.1 h in
    let equal : timestamp_of g ≡ timestamp_of e = ap timestamp_of p in
    absurd (omega (arith, above, equal, same))
has_once low (g ∷ journal) e f rising (inr h) (inl q) same =
    let above = has_above (timestamp_of g) journal e rising.1 h in
    let equal : timestamp_of g ≡ timestamp_of f = ap timestamp_of q in
    absurd (omega (arith, above, equal, same))
has_once low (g ∷ journal) e f rising (inr h) (inr k) same = has_once (timestamp_of g) journal e f rising.1 h k same

-- the rest of a list has what another list with the same first entry has behind it
has_rest : (low : ℕ) (x y : Entry) (xs ys : List Entry) → IsRisingFrom (timestamp_of x) xs → x ≡ y → ((e : Entry) → Has (x ∷ xs) e → Has (y ∷ ys) e) → (e : Entry) → Has xs e → Has ys e
has_rest low x y xs ys rising same all e h = elim (all e (inr h)) [
  | inl first ↦
      let above = has_above (timestamp_of x) xs e rising h in
      let equal : timestamp_of x ≡ timestamp_of e = ap timestamp_of (same ∙ first) in
      absurd (omega (arith, above, equal))
  | inr rest ↦ rest
]

-- the first entries are the same
first_same : (x y : Entry) (xs ys : List Entry) → IsRisingFrom (timestamp_of x) xs → IsRisingFrom (timestamp_of y) ys → Has (y ∷ ys) x → Has (x ∷ xs) y → x ≡ y
first_same x y xs ys risingx risingy (inl e) h = sym e
first_same x y xs ys risingx risingy (inr g) (inl e) = e
first_same x y xs ys risingx risingy (inr g) (inr h) =
    absurd (omega (arith, has_above (timestamp_of y) ys x risingy g, has_above (timestamp_of x) xs y risingx h))

-- two lists whose timestamps rise, and that have the same entries, are one list
pub journals_same : (low : ℕ) (xs ys : List Entry) → IsRisingFrom low xs → IsRisingFrom low ys → ((e : Entry) → Has xs e → Has ys e) → ((e : Entry) → Has ys e → Has xs e) → xs ≡ ys
journals_same low xs ys risingx risingy to back = go low low xs ys risingx risingy to back where
  go : (a b : ℕ) (xs ys : List Entry) → IsRisingFrom a xs → IsRisingFrom b ys → ((e : Entry) → Has xs e → Has ys e) → ((e : Entry) → Has ys e → Has xs e) → xs ≡ ys
  go a b [] [] risingx risingy to back = refl
  go a b [] (y ∷ ys) risingx risingy to back = absurd (back y (inl refl))
  go a b (x ∷ xs) [] risingx risingy to back = absurd (to x (inl refl))
  go a b (x ∷ xs) (y ∷ ys) risingx risingy to back =
      let first : x ≡ y = first_same x y xs ys risingx.1 risingy.1 (to x (inl refl)) (back y (inl refl)) in
      let rest : xs ≡ ys = go (timestamp_of x) (timestamp_of y) xs ys risingx.1 risingy.1
      (has_rest a x y xs ys risingx.1 first to) (has_rest b y x ys xs risingy.1 (sym first) back) in
      ap (λ (z : Entry). z ∷ xs) first ∙ ap (λ (zs : List Entry). y ∷ zs) rest

-- what is among the entries after one is put among them was there before, or is that one
put_from : (journal : List Entry) (e x : Entry) → Has (with_entry journal e) x → Has journal x ⊎ (e ≡ x)
put_from [] e x (inl same) = inr same
put_from [] e x (inr h) = inl h
put_from (f ∷ journal) e x h =
    chosen (λ (ys : List Entry). Has ys x → Has (f ∷ journal) x ⊎ (e ≡ x)) (nat_lt (timestamp_of e) (timestamp_of f))
    (e ∷ f ∷ journal) (cond (timestamp_of e == timestamp_of f) (f ∷ journal) (f ∷ with_entry journal e))
    (λ before g. elim g [
      | inl same ↦ inr same
      | inr there ↦ inl there
    ])
    (λ after. chosen (λ (ys : List Entry). Has ys x → Has (f ∷ journal) x ⊎ (e ≡ x)) (timestamp_of e == timestamp_of f)
    (f ∷ journal) (f ∷ with_entry journal e) (λ same g. inl g)
    (λ behind g. elim g [
      | inl same ↦ inl (inl same)
      | inr there ↦ elim (put_from journal e x there) [
        | inl old ↦ inl (inr old)
        | inr new ↦ inr new
      ]
    ]))
    h

-- what was there stays
put_keeps : (journal : List Entry) (e x : Entry) → Has journal x → Has (with_entry journal e) x
put_keeps [] e x h = absurd h
put_keeps (f ∷ journal) e x h =
    chosen (λ (ys : List Entry). Has ys x) (nat_lt (timestamp_of e) (timestamp_of f))
    (e ∷ f ∷ journal) (cond (timestamp_of e == timestamp_of f) (f ∷ journal) (f ∷ with_entry journal e))
    (λ before. inr h)
    (λ after. chosen (λ (ys : List Entry). Has ys x) (timestamp_of e == timestamp_of f)
    (f ∷ journal) (f ∷ with_entry journal e) (λ same. h)
    (λ behind. elim h [
      | inl same ↦ inl same
      | inr there ↦ inr (put_keeps journal e x there)
    ]))

-- an entry with a timestamp
pub record Dated (journal : List Entry) (timestamp : ℕ) : Type 0 where
  pub entry : Entry
  pub has : Has journal entry
  pub is : timestamp_of entry ≡ timestamp

later_dated : (f : Entry) (journal : List Entry) (timestamp : ℕ) → Dated journal timestamp → Dated (f ∷ journal) timestamp
later_dated f journal timestamp d = record { entry = d.entry; has = inr d.has; is = d.is }

-- one with its timestamp is there afterwards
put_dated : (journal : List Entry) (e : Entry) → Dated (with_entry journal e) (timestamp_of e)
put_dated [] e = record { entry = e; has = inl refl; is = refl }
put_dated (f ∷ journal) e =
    chosen (λ (ys : List Entry). Dated ys (timestamp_of e)) (nat_lt (timestamp_of e) (timestamp_of f))
    (e ∷ f ∷ journal) (cond (timestamp_of e == timestamp_of f) (f ∷ journal) (f ∷ with_entry journal e))
    (λ before. record { entry = e; has = inl refl; is = refl })
    (λ after. chosen (λ (ys : List Entry). Dated ys (timestamp_of e)) (timestamp_of e == timestamp_of f)
    (f ∷ journal) (f ∷ with_entry journal e)
    (λ same. record { entry = f; has = inl refl; is = sym (eqb-true (timestamp_of e) (timestamp_of f) same) })
    (λ behind. later_dated f (with_entry journal e) (timestamp_of e) (put_dated journal e)))

-- the timestamps rise still
put_rising : (low : ℕ) (journal : List Entry) (e : Entry) → IsRisingFrom low journal → low < timestamp_of e → IsRisingFrom low (with_entry journal e)
put_rising low [] e rising above = (above, tt)
put_rising low (f ∷ journal) e rising above =
    chosen (λ (ys : List Entry). IsRisingFrom low ys) (nat_lt (timestamp_of e) (timestamp_of f))
    (e ∷ f ∷ journal) (cond (timestamp_of e == timestamp_of f) (f ∷ journal) (f ∷ with_entry journal e))
    (λ before. (above, (ltb-true (timestamp_of e) (timestamp_of f) before, rising.1)))
    (λ after. chosen (λ (ys : List Entry). IsRisingFrom low ys) (timestamp_of e == timestamp_of f)
    (f ∷ journal) (f ∷ with_entry journal e) (λ same. rising)
    (λ behind.
    let no : timestamp_of e ≢ timestamp_of f = eqb-false (timestamp_of e) (timestamp_of f) behind in
    let more : timestamp_of f < timestamp_of e = omega (arith, no, ltb-false (timestamp_of e) (timestamp_of f) after) in
    (rising.0, put_rising (timestamp_of f) journal e rising.1 more)))

-- the same of many entries, put one after another
pub all_from : (journal entries : List Entry) (x : Entry) → Has (fold with_entry journal entries) x → Has journal x ⊎ Has entries x
all_from journal [] x h = inl h
all_from journal (e ∷ entries) x h = elim (all_from (with_entry journal e) entries x h) [
  | inl before ↦ elim (put_from journal e x before) [
    | inl old ↦ inl old
    | inr new ↦ inr (inl new)
  ]
  | inr later ↦ inr (inr later)
]

all_keep : (journal entries : List Entry) (x : Entry) → Has journal x → Has (fold with_entry journal entries) x
all_keep journal [] x h = h
all_keep journal (e ∷ entries) x h = all_keep (with_entry journal e) entries x (put_keeps journal e x h)

pub all_dated : (journal entries : List Entry) (x : Entry) → Has entries x → Dated (fold with_entry journal entries) (timestamp_of x)
all_dated journal [] x h = absurd h
all_dated journal (e ∷ entries) x (inl same) =
    let put = put_dated journal e in
    record { entry = put.entry; has = all_keep (with_entry journal e) entries put.entry put.has; is = put.is ∙ ap timestamp_of same }
all_dated journal (e ∷ entries) x (inr h) = all_dated (with_entry journal e) entries x h

pub all_rising : (low : ℕ) (journal entries : List Entry) → IsRisingFrom low journal → ((x : Entry) → Has entries x → low < timestamp_of x) → IsRisingFrom low (fold with_entry journal entries)
all_rising low journal [] rising above = rising
all_rising low journal (e ∷ entries) rising above =
    all_rising low (with_entry journal e) entries (put_rising low journal e rising (above e (inl refl))) (λ x h. above x (inr h))
