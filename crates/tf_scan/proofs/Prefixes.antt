-- Prefixes are known by the timestamps that they have.
use Rattle.std.proofs.Common.{◌≡◌, ℕ, List, [], ◌∷◌, Option, None, Bool, true, false, not, ◌||◌, ◌&&◌, cond, refl, sym, ◌∙◌, ap, subst}
use Rattle.std.specs.Prelude.{nat_eq, is_some}
use Rattle.std.specs.Option.{option_flatten}
use Rattle.std.proofs.lemmas.Bool.{eqb-true, eq-eqb}
use Rattle.tf_table.specs.declared.key.Key.{Key}
use Rattle.tf_table.specs.Content.{entry_of, first_some}
use Rattle.tf_table.specs.Span.{timestamps}
use Rattle.tf_table.proofs.Determined.{bool_cases}
use Rattle.tf_manifest.specs.Rows.{key_of}
use Rattle.tf_scan.specs.declared.direction.Direction.{Direction}
use Rattle.tf_scan.specs.Order.{is_before, IsInOrder, those_from}
use Rattle.tf_scan.specs.Sets.{is_among}
use Rattle.tf_scan.specs.Prefix.{has_timestamp, all_timestamps, prefix_of}
use Rattle.tf_scan.proofs.Order.{before-total, in_order-filter}
use Rattle.tf_scan.proofs.Members.{among-filter, behind-all, same-members, false_true}
use Rattle.tf_scan.proofs.Joins.{among-union, in_order-union}
use Rattle.tf_scan.proofs.Entries.{entry-absent}

or-false : (a b : Bool) → (a || b) ≡ false → (a ≡ false) × (b ≡ false)
or-false true b e = false_true (sym e)
or-false false b e = (refl, e)

-- a timestamp that no row has has no entry
absent : {V : Type 0} (d : Direction) (value u : ℕ) (lists : List (List (Key × Option V))) → is_among u (all_timestamps d lists) ≡ false → entry_of (key_of value u) lists ≡ None
absent d value u [] e = refl
absent d value u (rows ∷ lists) e =
    let apart = or-false (is_among u (timestamps rows)) (is_among u (all_timestamps d lists)) (sym (among-union d u (timestamps rows) (all_timestamps d lists)) ∙ e) in
    ap (λ x. first_some x (entry_of (key_of value u) lists)) (entry-absent value u rows apart.0) ∙ absent d value u lists apart.1

in_order-all : {V : Type 0} (d : Direction) (lists : List (List (Key × Option V))) → IsInOrder d (all_timestamps d lists)
in_order-all d [] = tt
in_order-all d (rows ∷ lists) = in_order-union d (timestamps rows) (all_timestamps d lists) (in_order-all d lists)

module _ {V : Type 0} (d : Direction) (value : ℕ) where
  pub in_order-prefix : (lists : List (List (Key × Option V))) → IsInOrder d (prefix_of d value lists)
  in_order-prefix lists = in_order-filter d (λ t. has_timestamp value lists t) (all_timestamps d lists) (in_order-all d lists)

  -- a prefix has the timestamps at which the content has something
  pub among-prefix : (u : ℕ) (lists : List (List (Key × Option V))) → is_among u (prefix_of d value lists) ≡ has_timestamp value lists u
  among-prefix u lists =
      among-filter u (λ t. has_timestamp value lists t) (all_timestamps d lists) ∙ bool_cases (is_among u (all_timestamps d lists))
      (λ e. ap (λ b. b && has_timestamp value lists u) e)
      (λ e. ap (λ b. b && has_timestamp value lists u) e ∙ sym (ap (λ x. is_some (option_flatten x)) (absent d value u lists e)))

  -- prefixes with the same timestamps are the same
  pub same-prefix : (new : List (List (Key × Option V))) (ts : List ℕ) → IsInOrder d ts → ((u : ℕ) → has_timestamp value new u ≡ is_among u ts) → prefix_of d value new ≡ ts
  same-prefix new ts h e = same-members d (prefix_of d value new) ts (in_order-prefix new) h (λ u. among-prefix u new ∙ e u)

  pub none-prefix : (lists : List (List (Key × Option V))) → ((u : ℕ) → entry_of (key_of value u) lists ≡ None) → prefix_of d value lists ≡ []
  none-prefix lists e = same-prefix lists [] tt (λ u. ap (λ x. is_some (option_flatten x)) (e u))

  module _ (t : ℕ) (old new : List (List (Key × Option V))) where
    has-kept : (b : Bool) (u : ℕ) → entry_of (key_of value u) new ≡ cond b (entry_of (key_of value u) old) None → has_timestamp value new u ≡ (has_timestamp value old u && b)
    has-kept true u e = ap (λ x. is_some (option_flatten x)) e ∙ and_true (has_timestamp value old u)
      where
        and_true : (a : Bool) → a ≡ (a && true)
        and_true true = refl
        and_true false = refl
    has-kept false u e = ap (λ x. is_some (option_flatten x)) e ∙ and_false (has_timestamp value old u)
      where
        and_false : (a : Bool) → false ≡ (a && false)
        and_false true = refl
        and_false false = refl

    -- a seek takes out what comes before t
    pub seek-prefix : ((u : ℕ) → entry_of (key_of value u) new ≡ cond (not (is_before d u t)) (entry_of (key_of value u) old) None) → prefix_of d value new ≡ those_from d t (prefix_of d value old)
    seek-prefix e =
        same-prefix new (those_from d t (prefix_of d value old)) (in_order-filter d (λ u. not (is_before d u t)) (prefix_of d value old) (in_order-prefix old)) (λ u.
        has-kept (not (is_before d u t)) u (e u)
        ∙ ap (λ b. b && not (is_before d u t)) (sym (among-prefix u old))
        ∙ sym (among-filter u (λ w. not (is_before d w t)) (prefix_of d value old)))

    module _ (e : (u : ℕ) → entry_of (key_of value u) new ≡ cond (not (nat_eq u t)) (entry_of (key_of value u) old) None) where
      -- the timestamp of a tombstone is no part of the prefix
      pub pass-prefix : has_timestamp value old t ≡ false → prefix_of d value new ≡ prefix_of d value old
      pass-prefix n =
          same-prefix new (prefix_of d value old) (in_order-prefix old) (λ u.
          has-kept (not (nat_eq u t)) u (e u) ∙ kept u (nat_eq u t) refl ∙ sym (among-prefix u old))
        where
          kept : (u : ℕ) (b : Bool) → nat_eq u t ≡ b → (has_timestamp value old u && not b) ≡ has_timestamp value old u
          kept u true i = subst (λ w. (has_timestamp value old w && false) ≡ has_timestamp value old w) (sym (eqb-true u t i)) (rw n refl)
          kept u false i = and_true (has_timestamp value old u)
            where
              and_true : (a : Bool) → (a && true) ≡ a
              and_true true = refl
              and_true false = refl

      -- the nearest timestamp with a value is the first of the prefix
      pub first-prefix : ((u : ℕ) → is_before d u t ≡ true → entry_of (key_of value u) old ≡ None) → has_timestamp value old t ≡ true → prefix_of d value old ≡ t ∷ prefix_of d value new
      first-prefix none here =
          same-prefix old (t ∷ prefix_of d value new) (behind-all d t (prefix_of d value new) behind, in_order-prefix new) (λ u.
          split u (nat_eq u t) refl ∙ ap (λ b. nat_eq u t || b) (sym (among-prefix u new)))
        where
          has : (u : ℕ) → has_timestamp value new u ≡ (has_timestamp value old u && not (nat_eq u t))
          has u = has-kept (not (nat_eq u t)) u (e u)

          split : (u : ℕ) (b : Bool) → nat_eq u t ≡ b → has_timestamp value old u ≡ (nat_eq u t || has_timestamp value new u)
          split u true i = ap (λ w. has_timestamp value old w) (eqb-true u t i) ∙ here ∙ sym (ap (λ b. b || has_timestamp value new u) i)
          split u false i = and_true (has_timestamp value old u) ∙ ap (λ b. has_timestamp value old u && not b) (sym i) ∙ sym (has u) ∙ sym (ap (λ b. b || has_timestamp value new u) i)
            where
              and_true : (a : Bool) → a ≡ (a && true)
              and_true true = refl
              and_true false = refl

          behind : (u : ℕ) → is_among u (prefix_of d value new) ≡ true → is_before d t u ≡ true
          behind u m = after (nat_eq u t) refl (is_before d u t) refl (is_before d t u) refl
            where
              inside : has_timestamp value new u ≡ true
              inside = sym (among-prefix u new) ∙ m

              after : (b : Bool) → nat_eq u t ≡ b → (c : Bool) → is_before d u t ≡ c → (f : Bool) → is_before d t u ≡ f → f ≡ true
              after true i c j f k = false_true (and_none (has_timestamp value old u) (nat_eq u t) i ∙ sym (has u) ∙ inside)
                where
                  and_none : (a b : Bool) → b ≡ true → false ≡ (a && not b)
                  and_none true true e = refl
                  and_none true false e = e
                  and_none false b e = refl
              after false i true j f k = false_true (ap (λ x. is_some (option_flatten x)) (sym (none u j)) ∙ and_left (has_timestamp value old u) (not (nat_eq u t)) (sym (has u) ∙ inside))
                where
                  and_left : (a b : Bool) → (a && b) ≡ true → a ≡ true
                  and_left true b e = refl
                  and_left false b e = e
              after false i false j true k = refl
              after false i false j false k = false_true (sym i ∙ eq-eqb u t (before-total d u t j k))
