-- The span of timestamps, one after another, and the timestamps of rows.
use Rattle.std.proofs.Common.{◌≡◌, ◌⊎◌, inl, inr, ℕ, ◌+◌, ◌<◌, ◌≤◌, List, [], ◌∷◌, length, map, min, max, get_or, refl, sym, ◌∙◌, ap, subst, arith}
use Rattle.std.specs.List.{zip, Contains}
use Rattle.std.proofs.lemmas.Bool.{cases_lt}
use Rattle.std.proofs.lemmas.List.{get_or_default}
use Rattle.tf_table.specs.declared.key.Key.{Key}
use Rattle.tf_table.specs.declared.entries.Entries.{Entries}
use Rattle.tf_table.specs.declared.span.Span.{Span}
use Rattle.tf_table.specs.Entries.{entries_of}
use Rattle.tf_table.specs.Rows.{rows_of, IsPaired}
use Rattle.tf_table.specs.Span.{timestamps, IsSpan}

-- the span of the first so many timestamps, whose ends are among them all
pub record Spans (span : Span) (times : List ℕ) (n : ℕ) : Type 0 where
  pub within : (k d : ℕ) → k < n → (span.earliest ≤ get_or times k d) × (get_or times k d ≤ span.latest)
  pub earliest : Contains times span.earliest
  pub latest : Contains times span.latest

pub spans_start : (span : Span) (times : List ℕ) (t : ℕ) → 0 < length times → t ≡ get_or times 0 t → span.earliest ≡ t → span.latest ≡ t → Spans span times 0
spans_start span times t l same e f = record {
  within = λ k d h. absurd (omega arith);
  earliest = subst (Contains times) (sym e) (0, l, sym same);
  latest = subst (Contains times) (sym f) (0, l, sym same);
}

least_end : (P : ℕ → Type 0) (a b c : ℕ) → c ≡ min a b → P a → P b → P c
least_end P a b c e p q = either (cases_lt a b) where
  either : (a < b) ⊎ (b ≤ a) → P c
  either (inl l) = let same : c ≡ a = omega (arith, e) in subst P (sym same) p
  either (inr l) = let same : c ≡ b = omega (arith, e) in subst P (sym same) q

greatest_end : (P : ℕ → Type 0) (a b c : ℕ) → c ≡ max a b → P a → P b → P c
greatest_end P a b c e p q = either (cases_lt a b) where
  either : (a < b) ⊎ (b ≤ a) → P c
  either (inl l) = let same : c ≡ b = omega (arith, e) in subst P (sym same) q
  either (inr l) = let same : c ≡ a = omega (arith, e) in subst P (sym same) p

before_or_at : (k i : ℕ) → k < i + 1 → (k < i) ⊎ (k ≡ i)
before_or_at k i l = either (cases_lt k i) where
  either : (k < i) ⊎ (i ≤ k) → (k < i) ⊎ (k ≡ i)
  either (inl b) = inl b
  either (inr b) = inr (omega arith)

pub spans_more : (span next : Span) (times : List ℕ) (i t : ℕ) → i < length times → t ≡ get_or times i t → next.earliest ≡ min span.earliest t → next.latest ≡ max span.latest t → Spans span times i → Spans next times (i + 1)
spans_more span next times i t l same e f old = record {
  within = λ k d h. at k d (before_or_at k i h);
  earliest = least_end (Contains times) span.earliest t next.earliest e old.earliest (i, l, sym same);
  latest = greatest_end (Contains times) span.latest t next.latest f old.latest (i, l, sym same);
} where
  at : (k d : ℕ) → (k < i) ⊎ (k ≡ i) → (next.earliest ≤ get_or times k d) × (get_or times k d ≤ next.latest)
  at k d (inl b) = let w = old.within k d b in (omega (arith, e, w.0), omega (arith, f, w.1))
  at k d (inr b) =
      let here : get_or times k d ≡ t = ap (λ j. get_or times j d) b ∙ get_or_default times i d t l ∙ sym same in
      (omega (arith, e, here), omega (arith, f, here))

pub spans_all : (span : Span) (times : List ℕ) (n : ℕ) → n ≡ length times → Spans span times n → IsSpan span times
spans_all span times n e s = record {
  within = λ k d l. s.within k d (omega (arith, e));
  earliest = s.earliest;
  latest = s.latest;
}

-- the timestamps of keys are those of the rows
times-zip : {E : Type 0} (ks : List Key) (es : List E) → length es ≡ length ks → map (λ (k : Key). k.timestamp) ks ≡ timestamps (zip ks es)
times-zip [] es e = refl
times-zip (k ∷ ks) [] e = absurd (omega arith)
times-zip (k ∷ ks) (x ∷ es) e = ap (λ (ts : List ℕ). k.timestamp ∷ ts) (times-zip ks es (omega arith))

pub times-rows_of : {V A : Type 0} (ks : List Key) (es : Entries V A) → IsPaired ks es → map (λ (k : Key). k.timestamp) ks ≡ timestamps (rows_of ks es)
times-rows_of ks es h = times-zip ks (entries_of (length ks) es) h
