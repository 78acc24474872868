-- The first of the timestamps within bounds, each replaced by what is read there, are the answer of a filter.
use Rattle.std.proofs.Common.{◌≡◌, ℕ, zero, suc, min, Bool, true, false, ◌&&◌, ◌||◌, cond, List, [], ◌∷◌, filter, map, take, reverse, Option, Some, None, refl, sym, ◌∙◌, ap, subst, inl, inr}
use Rattle.std.specs.Prelude.{◌==◌}
use Rattle.std.specs.List.{cons_option, filter_map}
use Rattle.std.proofs.lemmas.Bool.{eq-eqb, eqb-true}
use Rattle.std.proofs.lemmas.List.Elements.{filter_agree}
use Rattle.tf_journal.specs.Answer.{accepted_by, answer_max, answer_of}
use Rattle.tf_journal.specs.Filter.{Search}
use Rattle.tf_scan.specs.declared.direction.Direction.{Direction}
use Rattle.tf_scan.specs.declared.direction.Direction.TheVariants.{Rising}
use Rattle.tf_scan.specs.Order.{IsInOrder, is_before}
use Rattle.tf_scan.specs.Sets.{is_among}
use Rattle.tf_scan.proofs.Members.{behind-among}
use Rattle.tf_scan.proofs.Order.{before-self}
use Rattle.tf_manifest.proofs.Members.{Has, chosen}
use Rattle.tf_query.specs.Matches.{AreDated, accepted_in, direction_of, holds_at, in_direction, matches_of, record_at}
use Rattle.tf_query.proofs.Directed.{filter_directed, has_directed, list_of_matches}

module _ {X : Type 0} where
  pub filter_map_times : (timestamp : X → ℕ) (q : ℕ → Bool) (xs : List X) → filter q (map timestamp xs) ≡ map timestamp (filter (λ x. q (timestamp x)) xs)
  filter_map_times timestamp q [] = refl
  filter_map_times timestamp q (x ∷ xs) = step (q (timestamp x)) (filter_map_times timestamp q xs)
    where
      step : (b : Bool) → filter q (map timestamp xs) ≡ map timestamp (filter (λ y. q (timestamp y)) xs)
          → cond b (timestamp x ∷ filter q (map timestamp xs)) (filter q (map timestamp xs)) ≡ map timestamp (cond b (x ∷ filter (λ y. q (timestamp y)) xs) (filter (λ y. q (timestamp y)) xs))
      step true again = ap (λ ts. timestamp x ∷ ts) again
      step false again = again

  filter_both : (p q : X → Bool) (xs : List X) → filter q (filter p xs) ≡ filter (λ x. p x && q x) xs
  filter_both p q [] = refl
  filter_both p q (x ∷ xs) = step (p x) (filter_both p q xs)
    where
      step : (b : Bool) → filter q (filter p xs) ≡ filter (λ y. p y && q y) xs
          → filter q (cond b (x ∷ filter p xs) (filter p xs)) ≡ cond (b && q x) (x ∷ filter (λ y. p y && q y) xs) (filter (λ y. p y && q y) xs)
      step true again = ap (λ ys. cond (q x) (x ∷ ys) ys) again
      step false again = again

  -- an element that is kept is one of the list, and passes
  has_passed : (p : X → Bool) (xs : List X) (x : X) → Has (filter p xs) x → Has xs x × (p x ≡ true)
  has_passed p [] x h = absurd h
  has_passed p (y ∷ xs) x h =
      chosen (λ (ys : List X). Has ys x → Has (y ∷ xs) x × (p x ≡ true)) (p y) (y ∷ filter p xs) (filter p xs)
      (λ passes g. elim g [
        | inl e ↦ (inl e, subst (λ z. p z ≡ true) e passes)
        | inr there ↦ let rest = has_passed p xs x there in (inr rest.0, rest.1)
      ])
      (λ fails g. let rest = has_passed p xs x g in (inr rest.0, rest.1))
      h

  -- what is read at the timestamps of records
  read_each : {Y : Type 0} (timestamp : X → ℕ) (read : ℕ → Option Y) (row : X → Y) (xs : List X) → ((x : X) → Has xs x → read (timestamp x) ≡ Some (row x))
      → (n : ℕ) → filter_map read (take n (map timestamp xs)) ≡ map row (take n xs)
  read_each timestamp read row xs reads zero = refl
  read_each timestamp read row [] reads (suc n) = refl
  read_each timestamp read row (x ∷ xs) reads (suc n) =
      ap (λ o. cons_option o (filter_map read (take n (map timestamp xs)))) (reads x (inl refl))
      ∙ ap (λ ys. row x ∷ ys) (read_each timestamp read row xs (λ y h. reads y (inr h)) n)

  -- and those that pass, where no other is read
  pass_each : (timestamp : X → ℕ) (read : ℕ → Option X) (p : X → Bool) (xs : List X) → ((x : X) → Has xs x → read (timestamp x) ≡ cond (p x) (Some x) None)
      → filter_map read (map timestamp xs) ≡ filter p xs
  pass_each timestamp read p [] reads = refl
  pass_each timestamp read p (x ∷ xs) reads =
      ap (λ o. cons_option o (filter_map read (map timestamp xs))) (reads x (inl refl))
      ∙ step (p x) (pass_each timestamp read p xs (λ y h. reads y (inr h)))
    where
      step : (b : Bool) → filter_map read (map timestamp xs) ≡ filter p xs
          → cons_option (cond b (Some x) None) (filter_map read (map timestamp xs)) ≡ cond b (x ∷ filter p xs) (filter p xs)
      step true again = ap (λ ys. x ∷ ys) again
      step false again = again

module _ {X : Type 0} (timestamp : X → ℕ) where
  has_among : (records : List X) (x : X) → Has records x → is_among (timestamp x) (map timestamp records) ≡ true
  has_among [] x h = absurd h
  has_among (y ∷ records) x (inl e) = first (timestamp x == timestamp y) (eq-eqb (timestamp x) (timestamp y) (ap timestamp (sym e)))
    where
      first : (b : Bool) → b ≡ true → (b || is_among (timestamp x) (map timestamp records)) ≡ true
      first true i = refl
      first false i = absurd (cc)
  has_among (y ∷ records) x (inr h) = later (timestamp x == timestamp y) (has_among records x h)
    where
      later : (b : Bool) → is_among (timestamp x) (map timestamp records) ≡ true → (b || is_among (timestamp x) (map timestamp records)) ≡ true
      later true i = refl
      later false i = i

  -- each record is the one with its timestamp
  pub record_found : (records : List X) → AreDated timestamp records → (x : X) → Has records x → record_at timestamp records (timestamp x) ≡ Some x
  record_found [] dated x h = absurd h
  record_found (y ∷ records) dated x (inl e) =
      step (timestamp y == timestamp x) (eq-eqb (timestamp y) (timestamp x) (ap timestamp e))
    where
      step : (b : Bool) → b ≡ true → cond b (Some y) (record_at timestamp records (timestamp x)) ≡ Some x
      step true i = ap Some e
      step false i = absurd (cc)
  record_found (y ∷ records) dated x (inr h) = step (timestamp y == timestamp x) refl (record_found records dated.1 x h)
    where
      before : is_before Rising (timestamp y) (timestamp x) ≡ true
      before = behind-among Rising (timestamp y) (timestamp x) (map timestamp records) dated.0 (has_among records x h)

      step : (b : Bool) → (timestamp y == timestamp x) ≡ b → record_at timestamp records (timestamp x) ≡ Some x → cond b (Some y) (record_at timestamp records (timestamp x)) ≡ Some x
      step true i again =
          absurd (let wrong : false ≡ true = sym (before-self Rising (timestamp y)) ∙ subst (λ u. is_before Rising (timestamp y) u ≡ true) (sym (eqb-true (timestamp y) (timestamp x) i)) before in cc)
      step false i again = again

  module _ (records : List X) (dated : AreDated timestamp records) (d : Direction) (asked accepts : X → Bool) (within : ℕ → Bool)
      (same : (x : X) → (asked x && within (timestamp x)) ≡ accepts x) where
    -- of the timestamps of the records that have what is asked, those within the bounds are those of the accepted ones
    within_matches : filter within (matches_of timestamp d asked records) ≡ map timestamp (accepted_in d accepts records)
    within_matches =
        filter_map_times timestamp within (accepted_in d asked records)
        ∙ ap (map timestamp) (filter_directed (λ x. within (timestamp x)) d (filter asked records))
        ∙ ap (λ xs. map timestamp (in_direction d xs)) (filter_both asked (λ x. within (timestamp x)) records)
        ∙ ap (λ xs. map timestamp (in_direction d xs)) (filter_agree (λ x. asked x && within (timestamp x)) accepts same records)

    pub answered : {Y : Type 0} (read : ℕ → Option Y) (row : X → Y) → ((x : X) → Has records x → accepts x ≡ true → read (timestamp x) ≡ Some (row x))
        → (left : List ℕ) → IsInOrder d left → ((t : ℕ) → is_among t left ≡ holds_at timestamp asked records t)
        → (n : ℕ) → filter_map read (take n (filter within left)) ≡ map row (take n (accepted_in d accepts records))
    answered read row reads left ordered members n =
        ap (λ ts. filter_map read (take n (filter within ts))) (list_of_matches timestamp records dated d asked left ordered members)
        ∙ ap (λ ts. filter_map read (take n ts)) within_matches
        ∙ read_each timestamp read row (accepted_in d accepts records)
        (λ x h. let passed = has_passed accepts records x (has_directed d (filter accepts records) x h) in reads x passed.0 passed.1) n

-- of the timestamps of the records that have what leads to them, those within the bounds give the records that pass the rest
module _ {X : Type 0} (timestamp : X → ℕ) (records : List X) (dated : AreDated timestamp records) (d : Direction) (lead passes accepts : X → Bool) (within : ℕ → Bool)
    (same : (x : X) → ((lead x && within (timestamp x)) && passes x) ≡ accepts x) where
  abbrev leads : X → Bool
  leads x = lead x && within (timestamp x)

  pub passing_answered : (read : ℕ → Option X) → ((x : X) → Has records x → read (timestamp x) ≡ cond (passes x) (Some x) None)
      → (left : List ℕ) → IsInOrder d left → ((t : ℕ) → is_among t left ≡ holds_at timestamp lead records t)
      → filter_map read (filter within left) ≡ accepted_in d accepts records
  passing_answered read reads left ordered members =
      ap (λ ts. filter_map read (filter within ts)) (list_of_matches timestamp records dated d lead left ordered members)
      ∙ ap (filter_map read) (within_matches timestamp records dated d lead leads within (λ x. refl))
      ∙ pass_each timestamp read passes (accepted_in d leads records) (λ x h. reads x (has_passed leads records x (has_directed d (filter leads records) x h)).0)
      ∙ filter_directed passes d (filter leads records)
      ∙ ap (in_direction d) (filter_both leads passes records)
      ∙ ap (in_direction d) (filter_agree (λ x. leads x && passes x) accepts same records)

-- the answer of a valid search
pub answer_is : {X : Type 0} (search : Search X) (rows : List X) → search.is_valid ≡ true → (d : Direction) → d ≡ direction_of search.is_reversed
    → take (min search.limit answer_max) (accepted_in d search.accepts rows) ≡ answer_of search rows
answer_is search rows valid d is =
    ap (λ e. take (min search.limit answer_max) (accepted_in e search.accepts rows)) is
    ∙ ap (take (min search.limit answer_max)) (turned search.is_reversed)
    ∙ sym (ap (λ b. cond b (take (min search.limit answer_max) (accepted_by search rows)) []) valid)
  where
    turned : (b : Bool) → accepted_in (direction_of b) search.accepts rows ≡ cond b (reverse (filter search.accepts rows)) (filter search.accepts rows)
    turned true = refl
    turned false = refl
