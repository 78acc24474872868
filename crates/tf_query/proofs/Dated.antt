-- Records that stand oldest first, no two with one timestamp: the one with a timestamp, and which tests hold of it.
use Rattle.std.proofs.Common.{◌≡◌, ℕ, Bool, true, false, ◌&&◌, ◌||◌, cond, List, [], ◌∷◌, filter, find, map, Option, Some, None, refl, sym, ◌∙◌, ap, subst}
use Rattle.std.specs.Prelude.{nat_eq, ◌==◌}
use Rattle.std.specs.List.{cons_option, filter_map, list_any}
use Rattle.std.specs.Option.{option_map_or}
use Rattle.std.proofs.Math.Bool.{and-false}
use Rattle.std.proofs.lemmas.Bool.{eq-eqb, eqb-true, lt-ltb}
use Rattle.tf_journal.specs.declared.entry.Entry.{Entry}
use Rattle.tf_journal.specs.Journal.{IsRisingFrom, account_in, accounts_of, timestamp_of, transfer_in, transfers_of}
use Rattle.tf_journal.specs.Lawful.{IsSound}
use Rattle.tf_manifest.proofs.OneValue.{is_account, is_transfer}
use Rattle.tf_scan.specs.declared.direction.Direction.TheVariants.{Rising}
use Rattle.tf_scan.specs.Order.{AllBehind, is_before}
use Rattle.tf_scan.specs.Sets.{is_among}
use Rattle.tf_scan.proofs.Members.{among-self}
use Rattle.tf_scan.proofs.Order.{behind-trans}
use Rattle.tf_query.specs.Matches.{AreDated, account_timestamp, holds_at, transfer_timestamp}

-- two numbers are compared either way round
pub eq-swap : (t u : ℕ) → nat_eq t u ≡ nat_eq u t
eq-swap t u = step (nat_eq t u) refl (nat_eq u t) refl
  where
    step : (b : Bool) → nat_eq t u ≡ b → (c : Bool) → nat_eq u t ≡ c → b ≡ c
    step true i true j = refl
    step false i false j = refl
    step true i false j = sym (eq-eqb u t (sym (eqb-true t u i))) ∙ j
    step false i true j = sym i ∙ eq-eqb t u (sym (eqb-true u t j))

module _ {X : Type 0} (timestamp : X → ℕ) where
  -- whether one of the records has the timestamp and passes
  abbrev pub any_at : ℕ → (X → Bool) → List X → Bool
  any_at t accepts records = list_any (λ x. timestamp x == t && accepts x) records

  pub any_none : (t : ℕ) (accepts : X → Bool) (records : List X) → is_among t (map timestamp records) ≡ false → any_at t accepts records ≡ false
  any_none t accepts [] e = refl
  any_none t accepts (x ∷ records) e = step (nat_eq t (timestamp x)) refl e (any_none t accepts records)
    where
      step : (b : Bool) → nat_eq t (timestamp x) ≡ b → (b || is_among t (map timestamp records)) ≡ false → (is_among t (map timestamp records) ≡ false → any_at t accepts records ≡ false)
          → ((timestamp x == t && accepts x) || any_at t accepts records) ≡ false
      step true i r again = absurd (let wrong : true ≡ false = r in cc)
      step false i r again = ap (λ b. (b && accepts x) || any_at t accepts records) (eq-swap (timestamp x) t ∙ i) ∙ again r

  -- a record that passes is the one with its timestamp
  pub any_held : (records : List X) → AreDated timestamp records → (t : ℕ) (accepts : X → Bool) → any_at t accepts records ≡ holds_at timestamp accepts records t
  any_held [] dated t accepts = refl
  any_held (x ∷ records) dated t accepts = step (timestamp x == t) refl (any_held records dated.1 t accepts)
    where
      or_none : (a b : Bool) → b ≡ false → (a || b) ≡ a
      or_none true b e = refl
      or_none false b e = e

      step : (b : Bool) → (timestamp x == t) ≡ b → any_at t accepts records ≡ holds_at timestamp accepts records t
          → ((b && accepts x) || any_at t accepts records) ≡ option_map_or accepts (cond b (Some x) (find (λ y. timestamp y == t) records)) false
      step true i again =
          let none : is_among t (map timestamp records) ≡ false = subst (λ u. is_among u (map timestamp records) ≡ false) (eqb-true (timestamp x) t i) (among-self Rising (timestamp x) (map timestamp records) dated.0) in
          or_none (accepts x) (any_at t accepts records) (any_none t accepts records none)
      step false i again = again

  pub among_kept : (accepts : X → Bool) (t : ℕ) (records : List X) → is_among t (map timestamp (filter accepts records)) ≡ any_at t accepts records
  among_kept accepts t [] = refl
  among_kept accepts t (x ∷ records) = step (accepts x) (among_kept accepts t records)
    where
      and_true : (a b : Bool) → a ≡ b → a ≡ (b && true)
      and_true true true e = refl
      and_true false false e = refl
      and_true true false e = e
      and_true false true e = e

      step : (b : Bool) → is_among t (map timestamp (filter accepts records)) ≡ any_at t accepts records
          → is_among t (map timestamp (cond b (x ∷ filter accepts records) (filter accepts records))) ≡ ((timestamp x == t && b) || any_at t accepts records)
      step true again = ap (λ a. a || is_among t (map timestamp (filter accepts records))) (and_true (nat_eq t (timestamp x)) (timestamp x == t) (eq-swap t (timestamp x))) ∙ ap (λ r. (timestamp x == t && true) || r) again
      step false again = again ∙ ap (λ a. a || any_at t accepts records) (sym (and-false (timestamp x == t)))

  -- what is kept stays dated
  behind_kept : (accepts : X → Bool) (t : ℕ) (records : List X) → AllBehind Rising t (map timestamp records) → AllBehind Rising t (map timestamp (filter accepts records))
  behind_kept accepts t [] h = tt
  behind_kept accepts t (x ∷ records) h = step (accepts x) (behind_kept accepts t records h.1)
    where
      step : (b : Bool) → AllBehind Rising t (map timestamp (filter accepts records)) → AllBehind Rising t (map timestamp (cond b (x ∷ filter accepts records) (filter accepts records)))
      step true again = (h.0, again)
      step false again = again

  pub dated_kept : (accepts : X → Bool) (records : List X) → AreDated timestamp records → AreDated timestamp (filter accepts records)
  dated_kept accepts [] h = tt
  dated_kept accepts (x ∷ records) h = step (accepts x) (dated_kept accepts records h.1)
    where
      step : (b : Bool) → AreDated timestamp (filter accepts records) → AreDated timestamp (cond b (x ∷ filter accepts records) (filter accepts records))
      step true again = (behind_kept accepts (timestamp x) records h.0, again)
      step false again = again

  -- records chosen from entries whose timestamps rise
  module _ (chosen : Entry → Option X) (keeps : (e : Entry) (x : X) → chosen e ≡ Some x → timestamp x ≡ timestamp_of e) where
    behind_chosen : (low : ℕ) (journal : List Entry) → IsRisingFrom low journal → AllBehind Rising low (map timestamp (filter_map chosen journal))
    behind_chosen low [] rising = tt
    behind_chosen low (e ∷ journal) rising = by_option (chosen e) refl (behind_trans (behind_chosen (timestamp_of e) journal rising.1))
      where
        behind_trans : AllBehind Rising (timestamp_of e) (map timestamp (filter_map chosen journal)) → AllBehind Rising low (map timestamp (filter_map chosen journal))
        behind_trans h = behind-trans Rising low (timestamp_of e) (map timestamp (filter_map chosen journal)) (lt-ltb low (timestamp_of e) rising.0) h

        by_option : (o : Option X) → chosen e ≡ o → AllBehind Rising low (map timestamp (filter_map chosen journal)) → AllBehind Rising low (map timestamp (cons_option o (filter_map chosen journal)))
        by_option None is again = again
        by_option (Some x) is again = (subst (λ t. is_before Rising low t ≡ true) (sym (keeps e x is)) (lt-ltb low (timestamp_of e) rising.0), again)

    pub dated_chosen : (low : ℕ) (journal : List Entry) → IsRisingFrom low journal → AreDated timestamp (filter_map chosen journal)
    dated_chosen low [] rising = tt
    dated_chosen low (e ∷ journal) rising = by_option (chosen e) refl (dated_chosen (timestamp_of e) journal rising.1)
      where
        by_option : (o : Option X) → chosen e ≡ o → AreDated timestamp (filter_map chosen journal) → AreDated timestamp (cons_option o (filter_map chosen journal))
        by_option None is again = again
        by_option (Some x) is again = (subst (λ t. AllBehind Rising t (map timestamp (filter_map chosen journal))) (sym (keeps e x is)) (behind_chosen (timestamp_of e) journal rising.1), again)

pub accounts_dated : (journal : List Entry) → IsSound journal → AreDated account_timestamp (accounts_of journal)
accounts_dated journal sound = dated_chosen account_timestamp account_in (λ e a is. sym (ap timestamp_of (is_account e a is))) 0 journal sound.is_journal.rising

pub transfers_dated : (journal : List Entry) → IsSound journal → AreDated transfer_timestamp (transfers_of journal)
transfers_dated journal sound = dated_chosen transfer_timestamp transfer_in (λ e t is. sym (ap timestamp_of (is_transfer e t is))) 0 journal sound.is_journal.rising
