-- What a merge has put out so far, and what the rows that are left still say.
use Rattle.std.proofs.Common.{◌≡◌, ℕ, zero, suc, ◌+◌, ◌<◌, ◌≤◌, List, [], ◌∷◌, ◌++◌, length, replicate, Option, Some, None, Bool, true, false, refl, sym, ◌∙◌, ap, subst, arith}
use Rattle.std.specs.Cmp.{IsTotalOrder}
use Rattle.std.specs.Ordering.{is_eq}
use Rattle.std.specs.declared.cmp.Ordering.{Ordering}
use Rattle.std.proofs.lemmas.Cmp.{tied_itself}
use Rattle.std.proofs.lemmas.List.{append-nil, length_push}
use Rattle.std.proofs.lemmas.Map.Lookups.{CmpEqualImpliesEq}
use Rattle.tf_sorted.specs.Rows.{AllAfter, IsRising, value_at}
use Rattle.tf_table.specs.Content.{first_some, first_at, kept, kept_row}
use Rattle.tf_table.specs.Merge.{EachList, least_at, passed}
use Rattle.tf_table.proofs.Rising.{AllBefore, IsRising-push, equal_from, value_at-there, value_at-here, value_at-before, value_at-append}
use Rattle.tf_table.proofs.Least.{left_of, least_row, behind_each, EachList-behind, each_behind_after, behind_rising, behind_still_after, first_at-after, first_at-behind, first_at-empty, least_at-row, left_of-passed, rows_left, rows_left_fewer, least_from, least_entry, least_after, least_none}

pub left_of-start : {X : Type 0} (lists : List (List X)) (n : ℕ) → n ≡ length lists → left_of lists (replicate n 0) ≡ lists
left_of-start [] n e = refl
left_of-start (rows ∷ lists) zero e = absurd (omega arith)
left_of-start {X} (rows ∷ lists) (suc n) e = ap (λ (ls : List (List X)). rows ∷ ls) (left_of-start lists n (omega arith))

first_some-none : {X : Type 0} (x : Option X) → first_some x None ≡ x
first_some-none None = refl
first_some-none (Some x) = refl

kept-none : {V : Type 0} (b : Bool) → kept {V = V} b None ≡ None
kept-none true = refl
kept-none false = refl

module _ {K : Type 0} (cmp : K → K → Ordering) (exact : CmpEqualImpliesEq cmp) where
  by_key : (a b : K) (P : K → Type 0) → P a → (is_eq (cmp a b) ≡ false → P b) → P b
  by_key a b P same other = by_test (is_eq (cmp a b)) refl where
    by_test : (t : Bool) → is_eq (cmp a b) ≡ t → P b
    by_test true t = subst P (exact a b (equal_from _ t)) same
    by_test false t = other t

module _ {K V : Type 0} (cmp : K → K → Ordering) (o : IsTotalOrder cmp) (exact : CmpEqualImpliesEq cmp) where
  -- each row of out is before all rows that are left
  abbrev pub AllBeforeEach : List (K × Option V) → List (List (K × Option V)) → Type 0
  AllBeforeEach [] lists = Unit {0}
  AllBeforeEach (r ∷ out) lists = EachList (AllAfter cmp r.0) lists × AllBeforeEach out lists

  -- out is what is kept of the lists but for what is left of them
  pub record Combines (bottom : Bool) (lists : List (List (K × Option V))) (left : List (List (K × Option V))) (out : List (K × Option V)) : Type 0 where
    pub rising : IsRising cmp out
    pub left_rising : EachList (IsRising cmp) left
    pub before : AllBeforeEach out left
    pub entries : (key : K) → first_some (value_at cmp key out) (kept bottom (first_at cmp key left)) ≡ kept bottom (first_at cmp key lists)
    pub fits : length out + rows_left cmp o left ≤ rows_left cmp o lists

  pub combines_start : (bottom : Bool) (lists left : List (List (K × Option V))) (out : List (K × Option V)) → EachList (IsRising cmp) lists → left ≡ lists → out ≡ [] → Combines bottom lists left out
  combines_start bottom lists left out rising e none =
      subst (λ (ls : List (List (K × Option V))). Combines bottom lists ls out) (sym e)
      (subst (λ (rs : List (K × Option V)). Combines bottom lists lists rs) (sym none) (record { rising = tt; left_rising = rising; before = tt; entries = λ key. refl; fits = omega arith }))

  AllBeforeEach-least : (out : List (K × Option V)) (lists : List (List (K × Option V))) (r : K × Option V) → least_row cmp o lists ≡ Some r → AllBeforeEach out lists → AllBefore cmp o r.0 out
  AllBeforeEach-least [] lists r e a = tt
  AllBeforeEach-least (x ∷ out) lists r e a = (least_after cmp o x.0 lists r a.0 e, AllBeforeEach-least out lists r e a.1)

  AllBeforeEach-behind : (key : K) (out : List (K × Option V)) (lists : List (List (K × Option V))) → AllBeforeEach out lists → AllBeforeEach out (behind_each cmp o key lists)
  AllBeforeEach-behind key [] lists a = tt
  AllBeforeEach-behind key (x ∷ out) lists a =
      (EachList-behind cmp o (AllAfter cmp x.0) (AllAfter cmp x.0) key (behind_still_after cmp o key x.0) lists a.0, AllBeforeEach-behind key out lists a.1)

  AllBeforeEach-push : (out : List (K × Option V)) (r : K × Option V) (lists : List (List (K × Option V))) → AllBeforeEach out lists → EachList (AllAfter cmp r.0) lists → AllBeforeEach (out ++ r ∷ []) lists
  AllBeforeEach-push [] r lists a h = (h, tt)
  AllBeforeEach-push (x ∷ out) r lists a h = (a.0, AllBeforeEach-push out r lists a.1 h)

  pub out_before : (bottom : Bool) (lists left : List (List (K × Option V))) (out : List (K × Option V)) (r : K × Option V) → Combines bottom lists left out → least_row cmp o left ≡ Some r → AllBefore cmp o r.0 out
  out_before bottom lists left out r c e = AllBeforeEach-least out left r e c.before

  -- the least row goes out
  pub combines_more : (bottom : Bool) (lists left : List (List (K × Option V))) (out : List (K × Option V)) (r : K × Option V) → Combines bottom lists left out → least_row cmp o left ≡ Some r → kept bottom (Some r.1) ≡ Some r.1
      → Combines bottom lists (behind_each cmp o r.0 left) (out ++ r ∷ [])
  combines_more bottom lists left out r c e keeps =
      let before = AllBeforeEach-least out left r e c.before in
      let after = each_behind_after cmp o r.0 left c.left_rising (least_from cmp o left r e) in
      let gone = value_at-before cmp o r.0 out before in
      record {
        rising = IsRising-push cmp o out r c.rising before;
        left_rising = EachList-behind cmp o (IsRising cmp) (IsRising cmp) r.0 (behind_rising cmp o r.0) left c.left_rising;
        before = AllBeforeEach-push out r (behind_each cmp o r.0 left) (AllBeforeEach-behind r.0 out left c.before) after;
        entries = λ key. by_key cmp exact r.0 key (λ k. first_some (value_at cmp k (out ++ r ∷ [])) (kept bottom (first_at cmp k (behind_each cmp o r.0 left))) ≡ kept bottom (first_at cmp k lists))
            (let old : first_some (value_at cmp r.0 out) (kept bottom (first_at cmp r.0 left)) ≡ kept bottom (first_at cmp r.0 lists) = c.entries r.0 in
            let now : value_at cmp r.0 (out ++ r ∷ []) ≡ Some r.1 = value_at-append cmp o r.0 out (r ∷ []) ∙ ap (λ (v : Option (Option V)). first_some v (value_at cmp r.0 (r ∷ []))) gone ∙ value_at-here cmp o r.0 r [] (ap is_eq (tied_itself o r.0)) in
            ap (λ (v : Option (Option V)). first_some v (kept bottom (first_at cmp r.0 (behind_each cmp o r.0 left)))) now
            ∙ sym keeps
            ∙ sym (ap (kept bottom) (least_entry cmp o left r c.left_rising e))
            ∙ sym (ap (λ (v : Option (Option V)). first_some v (kept bottom (first_at cmp r.0 left))) gone)
            ∙ old)
            (λ n.
            let there : value_at cmp key (out ++ r ∷ []) ≡ value_at cmp key out = value_at-append cmp o key out (r ∷ []) ∙ ap (first_some (value_at cmp key out)) (value_at-there cmp o key r [] n) ∙ first_some-none (value_at cmp key out) in
            ap (λ (v : Option (Option V)). first_some v (kept bottom (first_at cmp key (behind_each cmp o r.0 left)))) there
            ∙ ap (λ (v : Option (Option V)). first_some (value_at cmp key out) (kept bottom v)) (first_at-behind cmp o r.0 key left n)
            ∙ c.entries key);
        fits = omega (arith, length_push out r, rows_left_fewer cmp o left r e, c.fits);
      }

  -- the least row is not kept
  pub combines_skip : (bottom : Bool) (lists left : List (List (K × Option V))) (out : List (K × Option V)) (r : K × Option V) → Combines bottom lists left out → least_row cmp o left ≡ Some r → kept bottom (Some r.1) ≡ None
      → Combines bottom lists (behind_each cmp o r.0 left) out
  combines_skip bottom lists left out r c e drops =
      let before = AllBeforeEach-least out left r e c.before in
      let after = each_behind_after cmp o r.0 left c.left_rising (least_from cmp o left r e) in
      let gone = value_at-before cmp o r.0 out before in
      record {
        rising = c.rising;
        left_rising = EachList-behind cmp o (IsRising cmp) (IsRising cmp) r.0 (behind_rising cmp o r.0) left c.left_rising;
        before = AllBeforeEach-behind r.0 out left c.before;
        entries = λ key. by_key cmp exact r.0 key (λ k. first_some (value_at cmp k out) (kept bottom (first_at cmp k (behind_each cmp o r.0 left))) ≡ kept bottom (first_at cmp k lists))
            (let old : first_some (value_at cmp r.0 out) (kept bottom (first_at cmp r.0 left)) ≡ kept bottom (first_at cmp r.0 lists) = c.entries r.0 in
            ap (λ (v : Option (Option V)). first_some v (kept bottom (first_at cmp r.0 (behind_each cmp o r.0 left)))) gone
            ∙ ap (kept bottom) (first_at-after cmp o r.0 (behind_each cmp o r.0 left) after) ∙ kept-none bottom
            ∙ sym (ap (kept bottom) (least_entry cmp o left r c.left_rising e) ∙ drops)
            ∙ sym (ap (λ (v : Option (Option V)). first_some v (kept bottom (first_at cmp r.0 left))) gone)
            ∙ old)
            (λ n.
            ap (λ (v : Option (Option V)). first_some (value_at cmp key out) (kept bottom v)) (first_at-behind cmp o r.0 key left n)
            ∙ c.entries key);
        fits = omega (arith, rows_left_fewer cmp o left r e, c.fits);
      }

  -- nothing is left
  pub combines_all : (bottom : Bool) (lists left : List (List (K × Option V))) (out : List (K × Option V)) → Combines bottom lists left out → least_row cmp o left ≡ None → (key : K) → value_at cmp key out ≡ kept bottom (first_at cmp key lists)
  combines_all bottom lists left out c e key =
      sym (first_some-none (value_at cmp key out))
      ∙ ap (first_some (value_at cmp key out)) (sym (kept-none bottom) ∙ ap (kept bottom) (sym (first_at-empty cmp o key left (least_none cmp o left e))))
      ∙ c.entries key

  -- the same by the places in the lists
  pub merge_more : (bottom : Bool) (lists : List (List (K × Option V))) (places : List ℕ) (out : List (K × Option V)) (r : K × Option V) → Combines bottom lists (left_of lists places) out → least_at cmp lists places ≡ Some r → kept bottom (Some r.1) ≡ Some r.1
      → Combines bottom lists (left_of lists (passed cmp r.0 lists places)) (out ++ r ∷ [])
  merge_more bottom lists places out r c e keeps =
      subst (λ (left : List (List (K × Option V))). Combines bottom lists left (out ++ r ∷ [])) (sym (left_of-passed cmp o r.0 lists places))
      (combines_more bottom lists (left_of lists places) out r c (sym (least_at-row cmp o lists places) ∙ e) keeps)

  pub merge_skip : (bottom : Bool) (lists : List (List (K × Option V))) (places : List ℕ) (out : List (K × Option V)) (r : K × Option V) → Combines bottom lists (left_of lists places) out → least_at cmp lists places ≡ Some r → kept bottom (Some r.1) ≡ None
      → Combines bottom lists (left_of lists (passed cmp r.0 lists places)) out
  merge_skip bottom lists places out r c e drops =
      subst (λ (left : List (List (K × Option V))). Combines bottom lists left out) (sym (left_of-passed cmp o r.0 lists places))
      (combines_skip bottom lists (left_of lists places) out r c (sym (least_at-row cmp o lists places) ∙ e) drops)

  pub merge_step : (bottom : Bool) (lists : List (List (K × Option V))) (places : List ℕ) (out : List (K × Option V)) (r : K × Option V) → Combines bottom lists (left_of lists places) out → least_at cmp lists places ≡ Some r
      → Combines bottom lists (left_of lists (passed cmp r.0 lists places)) (out ++ kept_row bottom r)
  merge_step true lists places out (k, None) c e =
      subst (λ (rows : List (K × Option V)). Combines true lists (left_of lists (passed cmp k lists places)) rows) (sym (append-nil out)) (merge_skip true lists places out (k, None) c e refl)
  merge_step true lists places out (k, Some v) c e = merge_more true lists places out (k, Some v) c e refl
  merge_step false lists places out r c e = merge_more false lists places out r c e refl

  -- while a row is left there is room for it
  pub merge_fits : (bottom : Bool) (lists : List (List (K × Option V))) (places : List ℕ) (out : List (K × Option V)) (r : K × Option V) → Combines bottom lists (left_of lists places) out → least_at cmp lists places ≡ Some r → length out < rows_left cmp o lists
  merge_fits bottom lists places out r c e =
      omega (arith, rows_left_fewer cmp o (left_of lists places) r (sym (least_at-row cmp o lists places) ∙ e), c.fits)

  pub merge_fewer : (lists : List (List (K × Option V))) (places : List ℕ) (r : K × Option V) → least_at cmp lists places ≡ Some r → rows_left cmp o (left_of lists (passed cmp r.0 lists places)) < rows_left cmp o (left_of lists places)
  merge_fewer lists places r e =
      subst (λ (left : List (List (K × Option V))). rows_left cmp o left < rows_left cmp o (left_of lists places)) (sym (left_of-passed cmp o r.0 lists places))
      (rows_left_fewer cmp o (left_of lists places) r (sym (least_at-row cmp o lists places) ∙ e))

  pub merge_all : (bottom : Bool) (lists : List (List (K × Option V))) (places : List ℕ) (out : List (K × Option V)) → Combines bottom lists (left_of lists places) out → least_at cmp lists places ≡ None → (key : K) → value_at cmp key out ≡ kept bottom (first_at cmp key lists)
  merge_all bottom lists places out c e = combines_all bottom lists (left_of lists places) out c (sym (least_at-row cmp o lists places) ∙ e)
