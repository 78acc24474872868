-- Rows out of a run of keys and a run of entries.
use Rattle.std.proofs.Common.{◌≡◌, ℕ, zero, suc, ◌+◌, ◌<◌, List, [], ◌∷◌, ◌++◌, length, get_or, Option, Some, refl, sym, ◌∙◌, ap, arith}
use Rattle.std.specs.List.{zip, slice_get}
use Rattle.std.proofs.lemmas.List.{length_push}
use Rattle.std.proofs.lemmas.Option.{slice_get-get_or}
use Rattle.tf_table.specs.declared.key.Key.{Key}
use Rattle.tf_table.specs.declared.entries.Entries.{Entries}
use Rattle.tf_table.specs.declared.entries.Entries.TheVariants.{Same, Each}
use Rattle.tf_table.specs.Entries.{entries_of, HasEntry}
use Rattle.tf_table.specs.Rows.{rows_of, IsPaired}

length-zip : {K E : Type 0} (ks : List K) (es : List E) → length es ≡ length ks → length (zip ks es) ≡ length ks
length-zip [] es h = refl
length-zip (k ∷ ks) [] h = absurd (omega arith)
length-zip (k ∷ ks) (e ∷ es) h = ap suc (length-zip ks es (omega arith))

get_or-zip : {K E : Type 0} (ks : List K) (es : List E) (p : ℕ) (k : K) (e : E) → length es ≡ length ks → p < length ks → get_or (zip ks es) p (k, e) ≡ (get_or ks p k, get_or es p e)
get_or-zip [] es p k e h l = absurd (omega arith)
get_or-zip (x ∷ ks) [] p k e h l = absurd (omega arith)
get_or-zip (x ∷ ks) (y ∷ es) zero k e h l = refl
get_or-zip (x ∷ ks) (y ∷ es) (suc p) k e h l = get_or-zip ks es p k e (omega arith) (omega arith)

zip-push : {K E : Type 0} (ks : List K) (es : List E) (k : K) (e : E) → length es ≡ length ks → zip (ks ++ k ∷ []) (es ++ e ∷ []) ≡ zip ks es ++ (k, e) ∷ []
zip-push [] [] k e h = refl
zip-push [] (y ∷ es) k e h = absurd (omega arith)
zip-push (x ∷ ks) [] k e h = absurd (omega arith)
zip-push {K} {E} (x ∷ ks) (y ∷ es) k e h = ap (λ (rs : List (K × E)). (x, y) ∷ rs) (zip-push ks es k e (omega arith))

pub length-rows_of : {V A : Type 0} (ks : List Key) (es : Entries V A) → IsPaired ks es → length (rows_of ks es) ≡ length ks
length-rows_of ks es h = length-zip ks (entries_of (length ks) es) h

-- the row at a place
pub row_there : {V A : Type 0} (ks : List Key) (es : Entries V A) (p : ℕ) (k : Key) (e : Option V) → IsPaired ks es → p < length ks → k ≡ get_or ks p k → get_or (entries_of (length ks) es) p e ≡ e → get_or (rows_of ks es) p (k, e) ≡ (k, e)
row_there ks es p k e h l same entry = get_or-zip ks (entries_of (length ks) es) p k e h l ∙ cc

pub row_read : {V A : Type 0} (ks : List Key) (es : Entries V A) (p : ℕ) (k : Key) (e : Option V) → IsPaired ks es → p < length ks → k ≡ get_or ks p k → get_or (entries_of (length ks) es) p e ≡ e → slice_get (rows_of ks es) p ≡ Some (k, e)
row_read ks es p k e h l same entry =
    let n = length-rows_of ks es h in
    slice_get-get_or (rows_of ks es) p (k, e) (omega arith) ∙ ap Some (row_there ks es p k e h l same entry)

-- the key of the row at a place
pub key_there : {V A : Type 0} (ks : List Key) (es : Entries V A) (p : ℕ) (d : Key × Option V) → IsPaired ks es → p < length ks → (get_or (rows_of ks es) p d).0 ≡ get_or ks p d.0
key_there {V} ks es p d h l = ap (λ (r : Key × Option V). r.0) (get_or-zip ks (entries_of (length ks) es) p d.0 d.1 h l)

-- its entry
pub entry_there : {V A : Type 0} (ks : List Key) (es : Entries V A) (p : ℕ) (d : Key × Option V) → IsPaired ks es → p < length ks → (get_or (rows_of ks es) p d).1 ≡ get_or (entries_of (length ks) es) p d.1
entry_there {V} ks es p d h l = ap (λ (r : Key × Option V). r.1) (get_or-zip ks (entries_of (length ks) es) p d.0 d.1 h l)

pub has_entry : {V A : Type 0} (ks : List Key) (es : Entries V A) (p : ℕ) → IsPaired ks es → p < length ks → HasEntry p es
has_entry ks (Same entry) p h l = tt
has_entry ks (Each entries) p h l = omega arith

-- one more row at the end
pub rows_of-more : {V A : Type 0} (ks ks' : List Key) (es es' : Entries V A) (n : ℕ) (k : Key) (e : Option V) → n ≡ length ks → IsPaired ks es → ks' ≡ ks ++ k ∷ [] → entries_of (n + 1) es' ≡ entries_of n es ++ e ∷ [] → rows_of ks' es' ≡ rows_of ks es ++ (k, e) ∷ []
rows_of-more ks ks' es es' n k e is h keys entries =
    let len : length ks' ≡ n + 1 = ap length keys ∙ length_push ks k ∙ ap (λ m. m + 1) (sym is) in
    ap (λ xs. zip xs (entries_of (length ks') es')) keys
    ∙ ap (λ m. zip (ks ++ k ∷ []) (entries_of m es')) len
    ∙ ap (zip (ks ++ k ∷ [])) (entries ∙ ap (λ m. entries_of m es ++ e ∷ []) is)
    ∙ zip-push ks (entries_of (length ks) es) k e h
