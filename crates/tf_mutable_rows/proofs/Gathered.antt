-- Rows whose keys rise: one more of them, and when those among others are all of them.
use Rattle.std.proofs.Common.{◌≡◌, ◌≤◌, List, [], ◌∷◌, ◌++◌, length, Option, Some, None, true, false, refl, sym, ◌∙◌, ap, arith}
use Rattle.std.specs.Cmp.{IsTotalOrder}
use Rattle.std.specs.Ordering.{is_eq, is_lt}
use Rattle.std.specs.Option.{is_some}
use Rattle.std.specs.declared.cmp.Ordering.{Ordering}
use Rattle.std.proofs.lemmas.Bool.{false≢true}
use Rattle.std.proofs.lemmas.Map.Lookups.{CmpEqualImpliesEq}
use Rattle.std.proofs.lemmas.Option.{same_Some}
use Rattle.tf_sorted.specs.Rows.{AllAfter, IsRising, value_at}
use Rattle.tf_table.specs.declared.key.Key.{Key}
use Rattle.tf_table.specs.Key.{key_cmp}
use Rattle.tf_table.proofs.Determined.{ordering_cases}
use Rattle.tf_table.proofs.Keys.{keys_total}
use Rattle.tf_table.proofs.Rising.{AllBefore, IsRising-push, greater_back, is_eq-not, less_from, not_less_from, value_at-after, value_at-here, value_at-there}
use Rattle.tf_mutable_rows.specs.Rising.{is_above, last_key}

module _ {K E : Type 0} (cmp : K → K → Ordering) (o : IsTotalOrder cmp) (exact : CmpEqualImpliesEq cmp) where
  -- each of the first rows is among the second
  abbrev pub AreAmong : List (K × E) → List (K × E) → Type 0
  AreAmong [] ys = Unit {0}
  AreAmong (x ∷ xs) ys = (value_at cmp x.0 ys ≡ Some x.1) × AreAmong xs ys

  pub among-push : (xs : List (K × E)) (x : K × E) (ys : List (K × E)) → AreAmong xs ys → value_at cmp x.0 ys ≡ Some x.1 → AreAmong (xs ++ x ∷ []) ys
  among-push [] x ys among is = (is, tt)
  among-push (w ∷ xs) x ys among is = (among.0, among-push xs x ys among.1 is)

  -- rows behind a key that isn't below that of the first are among the rest
  among-rest : (k : K) (xs : List (K × E)) (y : K × E) (ys : List (K × E)) → AllAfter cmp k xs → is_lt (cmp k y.0) ≡ false → AreAmong xs (y ∷ ys) → AreAmong xs ys
  among-rest k [] y ys after not among = tt
  among-rest k (x ∷ xs) y ys after not among =
      let other : is_eq (cmp y.0 x.0) ≡ false = is_eq-not (cmp y.0 x.0) (λ e. not_less_from (cmp k y.0) not (ap (cmp k) (exact y.0 x.0 e) ∙ after.0)) in
      (sym (value_at-there cmp o x.0 y ys other) ∙ among.0, among-rest k xs y ys after.1 not among.1)

  -- the first of rows among others is the first of those, or behind it
  first_cases : {P : Type 0} (x : K × E) (xs : List (K × E)) (y : K × E) (ys : List (K × E)) → IsRising cmp (x ∷ xs) → IsRising cmp (y ∷ ys) → AreAmong (x ∷ xs) (y ∷ ys)
      → (x ≡ y → AreAmong xs ys → P) → (AreAmong (x ∷ xs) ys → P) → P
  first_cases x xs y ys risingx risingy among same behind = ordering_cases (cmp y.0 x.0)
      (λ l.
      let not : is_lt (cmp x.0 y.0) ≡ false = ap is_lt (greater_back cmp o y.0 x.0 l) in
      behind (sym (value_at-there cmp o x.0 y ys (ap is_eq l)) ∙ among.0, among-rest x.0 xs y ys risingx.0 not among.1))
      (λ e.
      let k : y.0 ≡ x.0 = exact y.0 x.0 e in
      let v : y.1 ≡ x.1 = same_Some y.1 x.1 (sym (value_at-here cmp o x.0 y ys (ap is_eq e)) ∙ among.0) in
      let not : is_lt (cmp x.0 y.0) ≡ false = ap (λ q. is_lt (cmp q y.0)) (sym k) ∙ ap (λ q. is_lt (cmp y.0 q)) k ∙ ap is_lt e in
      same (ap (λ q. (q, x.1)) (sym k) ∙ ap (λ w. (y.0, w)) (sym v)) (among-rest x.0 xs y ys risingx.0 not among.1))
      (λ g.
      let none : value_at cmp x.0 (y ∷ ys) ≡ None = value_at-there cmp o x.0 y ys (ap is_eq g) ∙ value_at-after cmp o x.0 y.0 ys (ap is_lt g) risingy.0 in
      absurd (false≢true (ap is_some (sym none ∙ among.0))))

  -- so there are at most as many
  at_most : (xs ys : List (K × E)) → IsRising cmp xs → IsRising cmp ys → AreAmong xs ys → length xs ≤ length ys
  at_most [] ys risingx risingy among = omega arith
  at_most (x ∷ xs) [] risingx risingy among = absurd (false≢true (ap is_some among.0))
  at_most (x ∷ xs) (y ∷ ys) risingx risingy among = first_cases x xs y ys risingx risingy among
      (λ _ rest. omega (arith, at_most xs ys risingx.1 risingy.1 rest))
      (λ behind. omega (arith, at_most (x ∷ xs) ys risingx risingy.1 behind))

  -- and as many are all
  pub are_all : (xs ys : List (K × E)) → IsRising cmp xs → IsRising cmp ys → AreAmong xs ys → length ys ≤ length xs → xs ≡ ys
  are_all [] [] risingx risingy among most = refl
  are_all [] (y ∷ ys) risingx risingy among most = absurd (omega (arith, most))
  are_all (x ∷ xs) [] risingx risingy among most = absurd (false≢true (ap is_some among.0))
  are_all (x ∷ xs) (y ∷ ys) risingx risingy among most = first_cases x xs y ys risingx risingy among
      (λ first rest. ap (λ (q : K × E). q ∷ xs) first ∙ ap (λ (rs : List (K × E)). y ∷ rs) (are_all xs ys risingx.1 risingy.1 rest (omega (arith, most))))
      (λ behind. absurd (omega (arith, most, at_most (x ∷ xs) ys risingx risingy.1 behind)))

module _ {E : Type 0} where
  pub last_key-push : (rows : List (Key × E)) (r : Key × E) → last_key (rows ++ r ∷ []) ≡ Some r.0
  last_key-push [] r = refl
  last_key-push (s ∷ []) r = refl
  last_key-push (s ∷ t ∷ rows) r = last_key-push (t ∷ rows) r

  -- a key above the last of rows that rise is above all of them
  above_all : (key : Key) (rows : List (Key × E)) → IsRising key_cmp rows → is_above key (last_key rows) ≡ true → AllBefore key_cmp keys_total key rows
  above_all key [] rising above = tt
  above_all key (r ∷ []) rising above = (less_from (key_cmp r.0 key) above, tt)
  above_all key (r ∷ s ∷ rows) rising above =
      let rest = above_all key (s ∷ rows) rising.1 above in
      (keys_total.trans r.0 s.0 key rising.0.0 rest.0, rest)

  pub rising-push : (rows : List (Key × E)) (key : Key) (entry : E) → IsRising key_cmp rows → is_above key (last_key rows) ≡ true → IsRising key_cmp (rows ++ (key, entry) ∷ [])
  rising-push rows key entry rising above = IsRising-push key_cmp keys_total rows (key, entry) rising (above_all key rows rising above)
