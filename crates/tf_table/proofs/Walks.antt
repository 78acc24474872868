-- Steps of the walks over the tables of a merge.
use Rattle.std.proofs.Common.{◌≡◌, ℕ, zero, suc, ◌+◌, ◌<◌, ◌≤◌, List, [], ◌∷◌, ◌++◌, length, map, take, drop, set, get_or, Option, Bool, true, false, cond, refl, sym, ◌∙◌, ap, subst, arith}
use Rattle.std.specs.List.{slice_get}
use Rattle.std.specs.declared.cmp.Ordering.{Ordering}
use Rattle.std.proofs.lemmas.List.{take_more, get_or-map, length-map}
use denote.Ref.{Bor}
use Rattle.tf_table.specs.Merge.{EachList, lesser, least_at, has_key, passed}

-- the list behind a reference
abbrev pub lists_of : {X : Type 0} → List (Bor (List X)) → List (List X)
lists_of tables = map (λ table. table.now) tables

pub length-lists_of : {X : Type 0} (tables : List (Bor (List X))) → length (lists_of tables) ≡ length tables
length-lists_of {X} tables = length-map tables (λ (table : Bor (List X)). table.now)

pub list_there : {X : Type 0} (tables : List (Bor (List X))) (i : ℕ) (t : Bor (List X)) → i < length tables → t ≡ get_or tables i t → get_or (lists_of tables) i t.now ≡ t.now
list_there {X} tables i t l e = get_or-map (λ (table : Bor (List X)). table.now) tables i t t.now l ∙ ap (λ (table : Bor (List X)). table.now) (sym e)

EachList-push : {X : Type 0} (P : List X → Type 0) (lists : List (List X)) (rows : List X) → EachList P lists → P rows → EachList P (lists ++ rows ∷ [])
EachList-push P [] rows a p = (p, tt)
EachList-push P (xs ∷ lists) rows a p = (a.0, EachList-push P lists rows a.1 p)

pub tables_more : {X : Type 0} (P : List X → Type 0) (tables : List (Bor (List X))) (i : ℕ) (t : Bor (List X)) → i < length tables → t ≡ get_or tables i t → P t.now → EachList P (take i (lists_of tables)) → EachList P (take (i + 1) (lists_of tables))
tables_more P tables i t l e p a =
    subst (EachList P) (sym (take_more (lists_of tables) i t.now (omega (arith, length-lists_of tables))))
    (EachList-push P (take i (lists_of tables)) (get_or (lists_of tables) i t.now) a (subst P (sym (list_there tables i t l e)) p))

module _ {K E : Type 0} (cmp : K → K → Ordering) where
  least_at-drop : (lists : List (List (K × E))) (places : List ℕ) (i : ℕ) (d : List (K × E)) → i < length lists → length places ≡ length lists
      → least_at cmp (drop i lists) (drop i places) ≡ lesser cmp (slice_get (get_or lists i d) (get_or places i 0)) (least_at cmp (drop (suc i) lists) (drop (suc i) places))
  least_at-drop [] places i d l e = absurd (omega arith)
  least_at-drop (rows ∷ lists) [] i d l e = absurd (omega arith)
  least_at-drop (rows ∷ lists) (p ∷ places) zero d l e = refl
  least_at-drop (rows ∷ lists) (p ∷ places) (suc i) d l e = least_at-drop lists places i d (omega arith) (omega arith)

  -- the step of the walk from the oldest table
  pub least_at_more : (tables : List (Bor (List (K × E)))) (places : List ℕ) (rest i : ℕ) (t : Bor (List (K × E))) → i + 1 ≡ rest → rest ≤ length tables → length places ≡ length tables → t ≡ get_or tables i t
      → (front older : Option (K × E)) → front ≡ slice_get t.now (get_or places i 0) → older ≡ least_at cmp (drop rest (lists_of tables)) (drop rest places)
      → lesser cmp front older ≡ least_at cmp (drop i (lists_of tables)) (drop i places)
  least_at_more tables places rest i t n l e same front older ef eo =
      let s : suc i ≡ rest = omega arith in
      let lists = lists_of tables in
      ap (λ (x : Option (K × E)). lesser cmp x older) (ef ∙ ap (λ (rows : List (K × E)). slice_get rows (get_or places i 0)) (sym (list_there tables i t (omega arith) same)))
      ∙ ap (lesser cmp (slice_get (get_or lists i t.now) (get_or places i 0))) (eo ∙ sym (ap (λ m. least_at cmp (drop m lists) (drop m places)) s))
      ∙ sym (least_at-drop lists places i t.now (omega (arith, length-lists_of tables)) (omega (arith, length-lists_of tables)))

  pass_hit : (key : K) (lists : List (List (K × E))) (places : List ℕ) (i : ℕ) (d : List (K × E)) → i < length lists → length places ≡ length lists → has_key cmp key (slice_get (get_or lists i d) (get_or places i 0)) ≡ true
      → take (suc i) (set places i (get_or places i 0 + 1)) ++ passed cmp key (drop (suc i) lists) (drop (suc i) (set places i (get_or places i 0 + 1))) ≡ take i places ++ passed cmp key (drop i lists) (drop i places)
  pass_hit key [] places i d l e h = absurd (omega arith)
  pass_hit key (rows ∷ lists) [] i d l e h = absurd (omega arith)
  pass_hit key (rows ∷ lists) (p ∷ places) zero d l e h = ap (λ b. cond b (p + 1) p ∷ passed cmp key lists places) (sym h)
  pass_hit key (rows ∷ lists) (p ∷ places) (suc i) d l e h = ap (λ (ps : List ℕ). p ∷ ps) (pass_hit key lists places i d (omega arith) (omega arith) h)

  pass_miss : (key : K) (lists : List (List (K × E))) (places : List ℕ) (i : ℕ) (d : List (K × E)) → i < length lists → length places ≡ length lists → has_key cmp key (slice_get (get_or lists i d) (get_or places i 0)) ≡ false
      → take (suc i) places ++ passed cmp key (drop (suc i) lists) (drop (suc i) places) ≡ take i places ++ passed cmp key (drop i lists) (drop i places)
  pass_miss key [] places i d l e h = absurd (omega arith)
  pass_miss key (rows ∷ lists) [] i d l e h = absurd (omega arith)
  pass_miss key (rows ∷ lists) (p ∷ places) zero d l e h = ap (λ b. cond b (p + 1) p ∷ passed cmp key lists places) (sym h)
  pass_miss key (rows ∷ lists) (p ∷ places) (suc i) d l e h = ap (λ (ps : List ℕ). p ∷ ps) (pass_miss key lists places i d (omega arith) (omega arith) h)

  -- the step of the walk that moves the places
  pub passed_more : (key : K) (tables : List (Bor (List (K × E)))) (places places' : List ℕ) (i : ℕ) (t : Bor (List (K × E))) (b : Bool) → i < length tables → length places ≡ length tables → t ≡ get_or tables i t → b ≡ has_key cmp key (slice_get t.now (get_or places i 0))
      → places' ≡ cond b (set places i (get_or places i 0 + 1)) places → take (i + 1) places' ++ passed cmp key (drop (i + 1) (lists_of tables)) (drop (i + 1) places') ≡ take i places ++ passed cmp key (drop i (lists_of tables)) (drop i places)
  passed_more key tables places places' i t b l e same is eq =
      let s : i + 1 ≡ suc i = omega arith in
      let lists = lists_of tables in
      let h : has_key cmp key (slice_get (get_or lists i t.now) (get_or places i 0)) ≡ b = ap (λ (rows : List (K × E)). has_key cmp key (slice_get rows (get_or places i 0))) (list_there tables i t l same) ∙ sym is in
      ap (λ m. take m places' ++ passed cmp key (drop m lists) (drop m places')) s ∙ by_hit b h eq where
        by_hit : (b : Bool) → has_key cmp key (slice_get (get_or (lists_of tables) i t.now) (get_or places i 0)) ≡ b → places' ≡ cond b (set places i (get_or places i 0 + 1)) places
            → take (suc i) places' ++ passed cmp key (drop (suc i) (lists_of tables)) (drop (suc i) places') ≡ take i places ++ passed cmp key (drop i (lists_of tables)) (drop i places)
        by_hit true h eq =
            ap (λ (ps : List ℕ). take (suc i) ps ++ passed cmp key (drop (suc i) (lists_of tables)) (drop (suc i) ps)) eq
            ∙ pass_hit key (lists_of tables) places i t.now (omega (arith, length-lists_of tables)) (omega (arith, length-lists_of tables)) h
        by_hit false h eq =
            ap (λ (ps : List ℕ). take (suc i) ps ++ passed cmp key (drop (suc i) (lists_of tables)) (drop (suc i) ps)) eq
            ∙ pass_miss key (lists_of tables) places i t.now (omega (arith, length-lists_of tables)) (omega (arith, length-lists_of tables)) h

  length-passed : (key : K) (lists : List (List (K × E))) (places : List ℕ) → length places ≡ length lists → length (passed cmp key lists places) ≡ length lists
  length-passed key [] places e = refl
  length-passed key (rows ∷ lists) [] e = absurd (omega arith)
  length-passed key (rows ∷ lists) (p ∷ places) e = ap suc (length-passed key lists places (omega arith))

  pub length-passed_tables : (key : K) (tables : List (Bor (List (K × E)))) (places : List ℕ) → length places ≡ length tables → length (passed cmp key (lists_of tables) places) ≡ length tables
  length-passed_tables key tables places e = length-passed key (lists_of tables) places (omega (arith, length-lists_of tables)) ∙ length-lists_of tables
