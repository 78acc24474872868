-- The first fault of scripts, one after another.
use Rattle.std.proofs.Common.{◌≡◌, ℕ, ◌<◌, ◌+◌, List, [], ◌∷◌, ◌++◌, length, map, take, drop, get_or, suc, ap, sym, ◌∙◌, subst, refl, Option, Some, None, Result, Ok, Err, drop-cons}
use Rattle.std.proofs.lemmas.List.{get_or-map, length-map, map-append, map_more, take-append-drop}
use Rattle.std.specs.List.{take-map}
use Rattle.tf_script.specs.Command.{Command}
use Rattle.tf_script.specs.Script.{Place, script_of}
use Rattle.tf_main.specs.declared.fault.RunFault.TheVariants.{NoMemory, BadLine, CannotWrite}
use Rattle.tf_storm.specs.Storm.{StopsReading, first_fault_of, or_later}
use Rattle.tf_storm.specs.declared.faults.RunStormFault.{RunStormFault}
use Rattle.tf_storm.specs.declared.faults.RunStormFault.TheVariants.{Run, NoThread}

-- a script without a fault passes on what later scripts have
or_later-passes : (r : Result (List Command) Place) (later other : Option Place) → or_later r later ≡ None → or_later r other ≡ other
or_later-passes (Ok commands) later other none = refl
or_later-passes (Err place) later other none = absurd cc

-- where there is no fault, later scripts have none either
or_later-rest : (r : Result (List Command) Place) (later : Option Place) → or_later r later ≡ None → later ≡ None
or_later-rest (Ok commands) later none = none
or_later-rest (Err place) later none = absurd cc

-- what a fault says of a script alone, it says of it and those behind it
or_later-stops : (r : Result (List Command) Place) (later : Option Place) (fault : RunStormFault) → StopsReading (or_later r None) fault → StopsReading (or_later r later) fault
or_later-stops (Ok commands) later (Run NoMemory) stops = tt
or_later-stops (Ok commands) later (Run (BadLine line column)) stops = absurd cc
or_later-stops (Ok commands) later (Run (CannotWrite error)) stops = stops
or_later-stops (Ok commands) later NoThread stops = stops
or_later-stops (Err place) later fault stops = stops

-- scripts without a fault pass on what later scripts have
first_fault-append : (xs ys : List (List ℕ)) → first_fault_of xs ≡ None → first_fault_of (xs ++ ys) ≡ first_fault_of ys
first_fault-append [] ys none = refl
first_fault-append (x ∷ xs) ys none = or_later-passes (script_of x) (first_fault_of xs) (first_fault_of (xs ++ ys)) none
    ∙ first_fault-append xs ys (or_later-rest (script_of x) (first_fault_of xs) none)

-- one script more without a fault
pub sound_more : {A : Type 0} (view : A → List ℕ) (items : List A) (i : ℕ) (item : A) → i < length items → item ≡ get_or items i item
    → first_fault_of (map view (take i items)) ≡ None → first_fault_of (view item ∷ []) ≡ None → first_fault_of (map view (take (i + 1) items)) ≡ None
sound_more view items i item within is before one =
    ap first_fault_of (map_more view items i item within ∙ ap (λ x. map view (take i items) ++ view x ∷ []) (sym is))
    ∙ first_fault-append (map view (take i items)) (view item ∷ []) before ∙ one

-- a fault at a script behind scripts without a fault
pub stops_at : {A : Type 0} (view : A → List ℕ) (items : List A) (i : ℕ) (item : A) → i < length items → item ≡ get_or items i item
    → first_fault_of (map view (take i items)) ≡ None → (fault : RunStormFault) → StopsReading (first_fault_of (view item ∷ [])) fault
    → StopsReading (first_fault_of (map view items)) fault
stops_at view items i item within is before fault stops =
    let texts : List (List ℕ) = map view items in
    let within_texts : i < length texts = rw length-map within in
    let is_text : view item ≡ get_or texts i (view item) = ap view is ∙ sym (get_or-map view items i item (view item) within) in
    let parts : take i texts ++ view item ∷ drop (suc i) texts ≡ texts =
    ap (λ x. take i texts ++ x ∷ drop (suc i) texts) is_text ∙ ap (λ xs. take i texts ++ xs) (sym (drop-cons texts i (view item) within_texts)) ∙ take-append-drop i texts in
    let first : first_fault_of texts ≡ first_fault_of (view item ∷ drop (suc i) texts) =
    ap first_fault_of (sym parts) ∙ first_fault-append (take i texts) (view item ∷ drop (suc i) texts) (ap first_fault_of (take-map view i items) ∙ before) in
    subst (λ place. StopsReading place fault) (sym first) (or_later-stops (script_of (view item)) (first_fault_of (drop (suc i) texts)) fault stops)

-- one more thing was made of one item more
pub made_more : {A B C : Type 0} (view : B → C) (task : A → C) (done : List B) (items : List A) (i : ℕ) (item : A) (made : B) → i < length items → item ≡ get_or items i item
    → map view done ≡ map task (take i items) → view made ≡ task item → map view (done ++ made ∷ []) ≡ map task (take (i + 1) items)
made_more view task done items i item made within is before one =
    map-append view done (made ∷ []) ∙ ap (λ cs. cs ++ view made ∷ []) before ∙ ap (λ c. map task (take i items) ++ c ∷ []) (one ∙ ap task is)
    ∙ sym (map_more task items i item within)
