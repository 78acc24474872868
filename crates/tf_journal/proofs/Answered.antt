-- What a walk over a list finds: backwards, and cut where a test first fails.
use Rattle.std.proofs.Common.{◌≡◌, ℕ, ◌≤◌, zero, suc, List, [], ◌∷◌, ◌++◌, take, length, map, reverse, Option, Some, None, Bool, true, false, cond, if◌then◌else◌, refl, ap, sym, ◌∙◌, arith, min}
use Rattle.std.specs.List.{filter as keep, filter_map, take-map, cons_option, AllWithin}
use Rattle.std.specs.Option.{option_and_then}
use Rattle.std.proofs.lemmas.List.{reverse-append}
use Rattle.std.proofs.lemmas.List.Elements.{filter-append, filter_map-append}
use Rattle.tf_journal.specs.Answer.{answer_of}
use Rattle.tf_journal.specs.Filter.{Search}
use Rattle.tf_journal.specs.Walk.{accepted_row}

-- what is found in two parts of a list, one after the other
found_append : {X Y : Type 0} (p : Y → Bool) (h : X → Option Y) (xs ys : List X)
    → keep p (filter_map h (xs ++ ys)) ≡ keep p (filter_map h xs) ++ keep p (filter_map h ys)
found_append p h xs ys = ap (keep p) (filter_map-append h xs ys) ∙ filter-append p (filter_map h xs) (filter_map h ys)

one_or_none : {Y : Type 0} (b : Bool) (y : Y) → cond b (y ∷ []) [] ≡ reverse (cond b (y ∷ []) [])
one_or_none true y = refl
one_or_none false y = refl

found_in_one : {Y : Type 0} (p : Y → Bool) (o : Option Y) → keep p (cons_option o []) ≡ reverse (keep p (cons_option o []))
found_in_one p None = refl
found_in_one p (Some y) = one_or_none (p y) y

-- what is found backwards is what is found, backwards
pub found_reverse : {X Y : Type 0} (p : Y → Bool) (h : X → Option Y) (xs : List X)
    → keep p (filter_map h (reverse xs)) ≡ reverse (keep p (filter_map h xs))
found_reverse p h [] = refl
found_reverse p h (x ∷ xs) =
    ap (λ zs. keep p (filter_map h zs)) (reverse-append (x ∷ []) xs)
    ∙ found_append p h (reverse xs) (x ∷ [])
    ∙ ap (λ zs. zs ++ keep p (filter_map h (x ∷ []))) (found_reverse p h xs)
    ∙ ap (λ zs. reverse (keep p (filter_map h xs)) ++ zs) (found_in_one p (h x))
    ∙ sym (reverse-append (keep p (filter_map h (x ∷ []))) (keep p (filter_map h xs)))
    ∙ ap reverse (sym (found_append p h (x ∷ []) xs))

row_or_none : {X Y : Type 0} (row : X → Y) (b : Bool) (y : X) (rows : List Y) (rest : List X)
    → rows ≡ map row rest
    → cons_option (if b then Some (row y) else None) rows ≡ map row (cond b (y ∷ rest) rest)
row_or_none row true y rows rest is = ap (λ zs. row y ∷ zs) is
row_or_none row false y rows rest is = is

row_accepted : {X Y : Type 0} (p : X → Bool) (row : X → Y) (found : Option X) (rows : List Y) (rest : List X)
    → rows ≡ map row (keep p rest)
    → cons_option (option_and_then (λ y. if p y then Some (row y) else None) found) rows ≡ map row (keep p (cons_option found rest))
row_accepted p row None rows rest is = is
row_accepted p row (Some y) rows rest is = row_or_none row (p y) y rows (keep p rest) is

-- rows of what is accepted, one entry after another
pub rows_accepted : {E X Y : Type 0} (h : E → Option X) (p : X → Bool) (row : X → Y) (xs : List E)
    → filter_map (accepted_row h p row) xs ≡ map row (keep p (filter_map h xs))
rows_accepted h p row [] = refl
rows_accepted h p row (x ∷ xs) = row_accepted p row (h x) (filter_map (accepted_row h p row) xs) (filter_map h xs) (rows_accepted h p row xs)

-- the answer of a valid search that isn't reversed
pub answer_forwards : {X Y E : Type 0} (asks : Search X) (row : X → Y) (h : E → Option X) (xs : List E) (rows : List Y) (most : ℕ)
    → asks.is_valid ≡ true → asks.is_reversed ≡ false → most ≡ min asks.limit 8190
    → rows ≡ take most (filter_map (accepted_row h asks.accepts row) xs) → rows ≡ map row (answer_of asks (filter_map h xs))
answer_forwards asks row h xs rows most valid forwards count is =
    let whole : answer_of asks (filter_map h xs) ≡ take (min asks.limit 8190) (keep asks.accepts (filter_map h xs)) = rw (valid, forwards) in
    is ∙ ap (take most) (rows_accepted h asks.accepts row xs) ∙ take-map row most (keep asks.accepts (filter_map h xs))
    ∙ ap (λ n. map row (take n (keep asks.accepts (filter_map h xs)))) count
    ∙ ap (map row) (sym whole)

-- the answer of a valid search that is reversed
pub answer_backwards : {X Y E : Type 0} (asks : Search X) (row : X → Y) (h : E → Option X) (xs : List E) (rows : List Y) (most : ℕ)
    → asks.is_valid ≡ true → asks.is_reversed ≡ true → most ≡ min asks.limit 8190
    → rows ≡ take most (filter_map (accepted_row h asks.accepts row) (reverse xs)) → rows ≡ map row (answer_of asks (filter_map h xs))
answer_backwards asks row h xs rows most valid backwards count is =
    let whole : answer_of asks (filter_map h xs) ≡ take (min asks.limit 8190) (reverse (keep asks.accepts (filter_map h xs))) = rw (valid, backwards) in
    is ∙ ap (take most) (rows_accepted h asks.accepts row (reverse xs)) ∙ take-map row most (keep asks.accepts (filter_map h (reverse xs)))
    ∙ ap (λ n. map row (take n (keep asks.accepts (filter_map h (reverse xs))))) count
    ∙ ap (λ zs. map row (take (min asks.limit 8190) zs)) (found_reverse asks.accepts h xs)
    ∙ ap (map row) (sym whole)

-- a list whose front passes a test and whose rest fails it
pub cut_where : {X : Type 0} (p : X → Bool) (xs : List X) (k : ℕ)
    → AllWithin (λ y. p y ≡ true) xs 0 k → AllWithin (λ y. p y ≡ false) xs k (length xs) → k ≤ length xs → take k xs ≡ keep p xs
cut_where p [] zero passes fails within = refl
cut_where p [] (suc k) passes fails within = refl
cut_where p (x ∷ xs) zero passes fails within =
    let here : p x ≡ false = fails 0 x (omega arith) (omega arith) in
    rw here (cut_where p xs zero (λ j d low high. absurd (omega arith)) (λ j d low high. fails (suc j) d (omega arith) (omega arith)) (omega arith))
cut_where p (x ∷ xs) (suc k) passes fails within =
    let here : p x ≡ true = passes 0 x (omega arith) (omega arith) in
    rw here (ap (λ zs. x ∷ zs) (cut_where p xs k (λ j d low high. passes (suc j) d (omega arith) (omega arith)) (λ j d low high. fails (suc j) d (omega arith) (omega arith)) (omega arith)))
