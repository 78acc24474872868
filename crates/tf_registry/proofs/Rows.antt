-- What a merged table in the place of its run keeps.
use Rattle.std.proofs.Common.{◌≡◌, ◌≢◌, ℕ, length, ◌+◌, ◌*◌, ◌^◌, ◌<◌, ◌≤◌, List, [], ◌∷◌, ◌++◌, Option, Some, None, Bool, true, false, slice_get, refl, sym, ◌∙◌, ap, subst, add-one, arith}
use Rattle.std.proofs.Math.Nat.{pow-suc}
use Rattle.std.specs.Option.{option_flatten}
use Rattle.tf_table.specs.declared.key.Key.{Key}
use Rattle.tf_table.specs.Content.{entry_at, entry_of, first_some, kept, value_only}
use Rattle.tf_registry.specs.Table.{Shown}
use Rattle.tf_registry.specs.Row.{lists_of, levels_of, content_at, SameContent, is_nil, OldestIsLast, AllFrom, LevelsRise, weight, IsRow}
use Rattle.tf_registry.specs.Run.{Run, IsRun, IsMergeOf}

doubled : (a b c : ℕ) → a ≡ b → c ≡ b + 1 → 2 ^ c ≡ 2 ^ a + 2 ^ b
doubled a b c e h =
    let p : 2 ^ c ≡ 2 ^ b * 2 = ap (λ (n : ℕ). 2 ^ n) (h ∙ add-one b) ∙ pow-suc 2 b in
    let q : 2 ^ a ≡ 2 ^ b = ap (λ (n : ℕ). 2 ^ n) e in
    omega (arith, p, q)

module _ {V : Type 0} where
  pub AllFrom-lower : (a b : ℕ) (ts : List (Shown V)) → a ≤ b → AllFrom b ts → AllFrom a ts
  AllFrom-lower a b [] h f = tt
  AllFrom-lower a b (t ∷ ts) h f = (omega (arith, f.0), AllFrom-lower a b ts h f.1)

  -- levels that rise, none of them the least one
  pub AllFrom-above : (l : ℕ) (ts : List (Shown V)) → AllFrom l ts → LevelsRise ts → slice_get (levels_of ts) 0 ≢ Some l → AllFrom (l + 1) ts
  AllFrom-above l [] f r n = tt
  AllFrom-above l (t ∷ ts) f r n =
      let other : t.table.level ≢ l = λ e. n (ap Some e) in
      let more : l + 1 ≤ t.table.level = omega (arith, f.0, other) in
      (more, AllFrom-lower (l + 1) t.table.level ts more r.0)

  is_nil-append : (xs : List (Shown V)) (y z : Shown V) (ys zs : List (Shown V)) → is_nil (xs ++ y ∷ ys) ≡ is_nil (xs ++ z ∷ zs)
  is_nil-append [] y z ys zs = refl
  is_nil-append (x ∷ xs) y z ys zs = refl

  AllFrom-replace : (l : ℕ) (run : Run V) (o : Shown V) (before after : List (Shown V)) → run.older.table.level ≤ o.table.level
      → AllFrom l (before ++ run.newer ∷ run.older ∷ after) → AllFrom l (before ++ o ∷ after)
  AllFrom-replace l run o [] after h f = (omega (arith, f.1.0), f.1.1)
  AllFrom-replace l run o (t ∷ before) after h f = (f.0, AllFrom-replace l run o before after h f.1)

  oldest_kept : (run : Run V) (o : Shown V) (before after : List (Shown V)) → o.table.oldest ≡ run.older.table.oldest
      → OldestIsLast (before ++ run.newer ∷ run.older ∷ after) → OldestIsLast (before ++ o ∷ after)
  oldest_kept run o [] after e h = (e ∙ h.1.0, h.1.1)
  oldest_kept run o (t ∷ before) after e h =
      (h.0 ∙ is_nil-append before run.newer o (run.older ∷ after) after, oldest_kept run o before after e h.1)

  levels_kept : (run : Run V) (o : Shown V) (before after : List (Shown V)) → o.table.level ≡ run.older.table.level + 1 → slice_get (levels_of after) 0 ≢ Some run.older.table.level
      → LevelsRise (before ++ run.newer ∷ run.older ∷ after) → LevelsRise (before ++ o ∷ after)
  levels_kept run o [] after e n h =
      (subst (λ (l : ℕ). AllFrom l after) (sym e) (AllFrom-above run.older.table.level after h.1.0 h.1.1 n), h.1.1)
  levels_kept run o (t ∷ before) after e n h =
      (AllFrom-replace t.table.level run o before after (omega (arith, e)) h.0, levels_kept run o before after e n h.1)

  pub weight_kept : (run : Run V) (o : Shown V) (before after : List (Shown V)) → run.newer.table.level ≡ run.older.table.level → o.table.level ≡ run.older.table.level + 1
      → weight (before ++ o ∷ after) ≡ weight (before ++ run.newer ∷ run.older ∷ after)
  weight_kept run o [] after e h = omega (arith, doubled run.newer.table.level run.older.table.level o.table.level e h)
  weight_kept run o (t ∷ before) after e h = ap (λ (w : ℕ). 2 ^ t.table.level + w) (weight_kept run o before after e h)

  -- a row with a merged table in the place of its run is a row
  pub row_kept : (run : Run V) (o : Shown V) (before after : List (Shown V)) → IsRun run → IsMergeOf run o.table → slice_get (levels_of after) 0 ≢ Some run.older.table.level
      → IsRow (before ++ run.newer ∷ run.older ∷ after) → IsRow (before ++ o ∷ after)
  row_kept run o before after r m n h = record {
    oldest = oldest_kept run o before after m.oldest h.oldest;
    levels = levels_kept run o before after m.level n h.levels;
    light = omega (arith, weight_kept run o before after r.level m.level, h.light);
  }

  OldestIsLast-end : (run : Run V) (before after : List (Shown V)) → OldestIsLast (before ++ run.newer ∷ run.older ∷ after) → run.older.table.oldest ≡ is_nil after
  OldestIsLast-end run [] after h = h.1.0
  OldestIsLast-end run (t ∷ before) after h = OldestIsLast-end run before after h.1

module _ {V : Type 0} where
  AllFrom-zero : (ts : List (Shown V)) → AllFrom 0 ts
  AllFrom-zero [] = tt
  AllFrom-zero (t ∷ ts) = (omega arith, AllFrom-zero ts)

  -- a row with a table that was just sealed in front is a row
  pub row_added : (t : Shown V) (ts : List (Shown V)) → t.table.level ≡ 0 → t.table.oldest ≡ is_nil ts → weight ts < 1048576 → IsRow ts → IsRow (t ∷ ts)
  row_added t ts level oldest light h = record {
    oldest = (oldest, h.oldest);
    levels = (subst (λ (l : ℕ). AllFrom l ts) (sym level) (AllFrom-zero ts), h.levels);
    light = let one : 2 ^ t.table.level ≡ 1 = ap (λ (n : ℕ). 2 ^ n) level in omega (arith, one, light);
  }

  -- the same of a row by another name, which has room
  pub row_with : (t : Shown V) (old new now : List (Shown V)) → old ≡ now → new ≡ t ∷ old → t.table.level ≡ 0 → t.table.oldest ≡ is_nil now → weight now < 1048576 → length now < 64 → IsRow old
      → IsRow new × (length new ≤ 64)
  row_with t old new now same put level oldest light room h =
      let row : IsRow (t ∷ old) = row_added t old level (oldest ∙ ap is_nil (sym same)) (subst (λ (ts : List (Shown V)). weight ts < 1048576) (sym same) light) h in
      let longer : length new ≡ length (t ∷ old) = ap (λ (ts : List (Shown V)). length ts) put in
      let before : length old ≡ length now = ap (λ (ts : List (Shown V)). length ts) same in
      (subst (λ (ts : List (Shown V)). IsRow ts) (sym put) row, omega (arith, longer, before, room))

-- the first of three entries, as that of the first of two and of the third
first_of_three : {E : Type 0} (a b c : Option E) → first_some (first_some a (first_some b None)) c ≡ first_some a (first_some b c)
first_of_three (Some x) b c = refl
first_of_three None (Some x) c = refl
first_of_three None None c = refl

-- where nothing is older, a tombstone may go
value_without : {V : Type 0} (e : Option (Option V)) → option_flatten (first_some (value_only e) None) ≡ option_flatten e
value_without None = refl
value_without (Some None) = refl
value_without (Some (Some v)) = refl

module _ {V : Type 0} where
  -- the value of a key in the merged table and what is older, as in the run and what is older
  merged_value : (key : Key) (oldest : Bool) (e a b : Option (Option V)) (after : List (Shown V)) → oldest ≡ is_nil after → e ≡ kept oldest (first_some a (first_some b None))
      → option_flatten (first_some e (entry_of key (lists_of after))) ≡ option_flatten (first_some a (first_some b (entry_of key (lists_of after))))
  merged_value key true e a b [] o h =
      ap (λ (x : Option (Option V)). option_flatten (first_some x None)) h ∙ value_without (first_some a (first_some b None))
  merged_value key false e a b [] o h = absurd (cc)
  merged_value key true e a b (t ∷ after) o h = absurd (cc)
  merged_value key false e a b (t ∷ after) o h =
      ap (λ (x : Option (Option V)). option_flatten (first_some x (entry_of key (lists_of (t ∷ after))))) h
      ∙ ap option_flatten (first_of_three a b (entry_of key (lists_of (t ∷ after))))

  pub under : (e : Option (Option V)) (x y : Option (Option V)) → option_flatten x ≡ option_flatten y → option_flatten (first_some e x) ≡ option_flatten (first_some e y)
  under (Some v) x y h = refl
  under None x y h = h

  value_kept : (key : Key) (run : Run V) (o : Shown V) (before after : List (Shown V)) → IsMergeOf run o.table → o.table.oldest ≡ is_nil after
      → content_at key (before ++ o ∷ after) ≡ content_at key (before ++ run.newer ∷ run.older ∷ after)
  value_kept key run o [] after m last = merged_value key o.table.oldest (entry_at key o.table.rows) (entry_at key run.newer.table.rows) (entry_at key run.older.table.rows) after last (m.entries key)
  value_kept key run o (t ∷ before) after m last =
      under (entry_at key t.table.rows) (entry_of key (lists_of (before ++ o ∷ after))) (entry_of key (lists_of (before ++ run.newer ∷ run.older ∷ after))) (value_kept key run o before after m last)

  -- a merged table in the place of its run keeps the row's content
  pub content_kept : (run : Run V) (o : Shown V) (before after : List (Shown V)) → IsMergeOf run o.table → OldestIsLast (before ++ run.newer ∷ run.older ∷ after)
      → SameContent (before ++ run.newer ∷ run.older ∷ after) (before ++ o ∷ after)
  content_kept run o before after m h key = value_kept key run o before after m (m.oldest ∙ OldestIsLast-end run before after h)
