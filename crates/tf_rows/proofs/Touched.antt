-- Steps in little room: one more, one less, and steps put behind others.
use Rattle.std.proofs.Common.{◌≡◌, ◌+◌, ◌≤◌, ℕ, suc, List, [], ◌∷◌, ◌++◌, length, drop, Option, Some, None, Bool, true, false, refl, sym, ◌∙◌, ap, subst, arith, append-nil, append_assoc}
use Rattle.std.proofs.lemmas.List.{drop-append-le, length-append}
use Rattle.std.specs.Prelude.{if◌then◌else◌, is_some}
use Rattle.std.specs.Option.{option_to_list}
use Rattle.tf_records.specs.declared.transfer.Transfer.{Transfer}
use Rattle.tf_manifest.specs.declared.row.Row.{Row}
use Rattle.tf_manifest.specs.declared.value.Value.{Value}
use Rattle.tf_rows.specs.declared.change.Step.{Step}
use Rattle.tf_rows.specs.declared.change.Step.TheVariants as step
use Rattle.tf_rows.specs.declared.steps.Touched.{Touched}
use Rattle.tf_rows.specs.declared.steps.Touched.TheVariants as touched
use Rattle.tf_rows.specs.Changes.{CanStep, CanStepAll, all_stepped, stepped}
use Rattle.tf_rows.specs.Parts.{Parts}
use Rattle.tf_rows.specs.Packed.{AreAdded, before_in, had_count, had_of, left_after, step_of, steps_of}

before_more : (had : Bool) (entries new : List (Option Value)) (n : ℕ) → (if had then 1 else 0) + n ≡ length entries → before_in had (entries ++ new) ≡ before_in had entries
before_more false entries new n count = refl
before_more true [] new n count = absurd (omega (arith, count))
before_more true (entry ∷ entries) new n count = refl

-- what a key had, where nothing else is kept
pub before_kept : (had : Bool) (before : Option (Option Value)) → had ≡ is_some before → before_in had (option_to_list before) ≡ before
before_kept false None is = refl
before_kept true (Some entry) is = refl
before_kept false (Some entry) is = cc
before_kept true None is = cc

step_more : (change : Touched) (entries new : List (Option Value)) (n : ℕ) → (if had_of change then 1 else 0) + n ≡ length entries → step_of change (entries ++ new) ≡ step_of change entries
step_more (touched.Key had r timestamp value) entries new n count =
    ap (λ (b : Option (Option Value)). step.Key r (record { value = value; timestamp = timestamp }) b) (before_more had entries new n count)
step_more (touched.Transfer t) entries new n count = refl

left_more : (had : Bool) (entries new : List (Option Value)) (n : ℕ) → (if had then 1 else 0) + n ≡ length entries → left_after had (entries ++ new) ≡ left_after had entries ++ new
left_more false entries new n count = refl
left_more true [] new n count = absurd (omega (arith, count))
left_more true (entry ∷ entries) new n count = refl

left_count : (had : Bool) (entries : List (Option Value)) (n : ℕ) → (if had then 1 else 0) + n ≡ length entries → n ≡ length (left_after had entries)
left_count false entries n count = omega (arith, count)
left_count true [] n count = absurd (omega (arith, count))
left_count true (entry ∷ entries) n count = omega (arith, count)

-- the last step, with the entries that are left for it
pub steps_of-last : (changes : List Touched) (entries new : List (Option Value)) (last : Touched) → had_count changes ≡ length entries → steps_of (changes ++ last ∷ []) (entries ++ new) ≡ steps_of changes entries ++ step_of last new ∷ []
steps_of-last [] [] new last count = refl
steps_of-last [] (entry ∷ entries) new last count = absurd (omega (arith, count))
steps_of-last (change ∷ changes) entries new last count =
    ap (λ (s : Step). s ∷ steps_of (changes ++ last ∷ []) (left_after (had_of change) (entries ++ new))) (step_more change entries new (had_count changes) count)
    ∙ ap (λ (l : List (Option Value)). step_of change entries ∷ steps_of (changes ++ last ∷ []) l) (left_more (had_of change) entries new (had_count changes) count)
    ∙ ap (λ (l : List Step). step_of change entries ∷ l) (steps_of-last changes (left_after (had_of change) entries) new last (left_count (had_of change) entries (had_count changes) count))

pub had_count-last : (changes : List Touched) (last : Touched) → had_count (changes ++ last ∷ []) ≡ had_count changes + (if had_of last then 1 else 0)
had_count-last [] last = omega arith
had_count-last (change ∷ changes) last = let rest = had_count-last changes last in omega (arith, rest)

if_one : (had : Bool) (before : Option (Option Value)) → had ≡ is_some before → (if had then 1 else 0) ≡ length (option_to_list before)
if_one false None is = refl
if_one true (Some entry) is = refl
if_one false (Some entry) is = cc
if_one true None is = cc

one_had : (had : Bool) → had ≡ true → ◌≡◌ {A = ℕ} (if had then 1 else 0) 1
one_had true is = refl
one_had false is = cc

no_one : (had : Bool) → had ≡ false → ◌≡◌ {A = ℕ} (if had then 1 else 0) 0
no_one false is = refl
no_one true is = cc

-- one change more keeps the count
pub pushed_count : (changes : List Touched) (entries : List (Option Value)) (last : Touched) (before : Option (Option Value)) → had_count changes ≡ length entries → had_of last ≡ is_some before → had_count (changes ++ last ∷ []) ≡ length (entries ++ option_to_list before)
pushed_count changes entries last before count is =
    let changes_more = had_count-last changes last in
    let one = if_one (had_of last) before is in
    let more = length-append entries (option_to_list before) in
    omega (arith, changes_more, one, more, count)

-- and one change less
pub popped_count : (changes : List Touched) (entries : List (Option Value)) (last : Touched) → had_count (changes ++ last ∷ []) ≡ length entries → had_of last ≡ false → had_count changes ≡ length entries
popped_count changes entries last count is =
    let more = had_count-last changes last in
    let none = no_one (had_of last) is in
    omega (arith, more, none, count)

pub popped_entry_count : (changes : List Touched) (entries : List (Option Value)) (last : Touched) (entry : Option Value) → had_count (changes ++ last ∷ []) ≡ length (entries ++ entry ∷ []) → had_of last ≡ true → had_count changes ≡ length entries
popped_entry_count changes entries last entry count is =
    let more = had_count-last changes last in
    let one = one_had (had_of last) is in
    let long = length-append entries (entry ∷ []) in
    omega (arith, more, one, long, count)

pub some_had : (changes : List Touched) (last : Touched) → had_of last ≡ true → had_count (changes ++ last ∷ []) ≡ 0 → ⊥
some_had changes last is none =
    let more = had_count-last changes last in
    let one = one_had (had_of last) is in
    omega (arith, more, one, none)

pub steps_length : (changes : List Touched) (entries : List (Option Value)) → length (steps_of changes entries) ≡ length changes
steps_length [] entries = refl
steps_length (change ∷ changes) entries = ap suc (steps_length changes (left_after (had_of change) entries))

pub all_stepped-append : (steps others : List Step) (parts : Parts) → all_stepped (steps ++ others) parts ≡ all_stepped steps (all_stepped others parts)
all_stepped-append [] others parts = refl
all_stepped-append (step ∷ steps) others parts = ap (stepped step) (all_stepped-append steps others parts)

module _ (has : Row → Bool) (fits : Row → Value → Bool) (takes_any : Row → Type 0) where
  can_step-append : (steps others : List Step) (parts : Parts) → CanStepAll has fits takes_any steps (all_stepped others parts) → CanStepAll has fits takes_any others parts → CanStepAll has fits takes_any (steps ++ others) parts
  can_step-append [] others parts can rest = rest
  can_step-append (step ∷ steps) others parts can rest =
      (can_step-append steps others parts can.0 rest, subst (CanStep has fits takes_any step) (sym (all_stepped-append steps others parts)) can.1)

  -- none, one, and more behind others
  pub none_added : (steps : List Step) (parts : Parts) → AreAdded has fits takes_any steps steps parts parts
  none_added steps parts = record { steps = []; is = sym (append-nil steps); can = tt; back = refl }

  pub one_added : (old new : List Step) (step : Step) (before after : Parts) → new ≡ old ++ step ∷ [] → CanStep has fits takes_any step after → stepped step after ≡ before → AreAdded has fits takes_any old new before after
  one_added old new step before after is can back = record { steps = step ∷ []; is = is; can = (tt, can); back = back }

  pub more_added : (old between new : List Step) (before midway after : Parts) → AreAdded has fits takes_any old between before midway → AreAdded has fits takes_any between new midway after → AreAdded has fits takes_any old new before after
  more_added old between new before midway after first second = record {
    steps = first.steps ++ second.steps;
    is = second.is ∙ ap (λ (ss : List Step). ss ++ second.steps) first.is ∙ append_assoc old first.steps second.steps;
    can = can_step-append first.steps second.steps after (subst (CanStepAll has fits takes_any first.steps) (sym second.back) first.can) second.can;
    back = all_stepped-append first.steps second.steps after ∙ ap (all_stepped first.steps) second.back ∙ first.back;
  }

-- the steps after one more, and before one less
pub pushed_steps : (changes : List Touched) (entries : List (Option Value)) (last : Touched) (step : Step) (had before : Option (Option Value)) → had_count changes ≡ length entries → had ≡ before → step_of last (option_to_list had) ≡ step → steps_of (changes ++ last ∷ []) (entries ++ option_to_list before) ≡ steps_of changes entries ++ step ∷ []
pushed_steps changes entries last step had before count same is =
    steps_of-last changes entries (option_to_list before) last count
    ∙ ap (λ (b : Option (Option Value)). steps_of changes entries ++ step_of last (option_to_list b) ∷ []) (sym same)
    ∙ ap (λ (s : Step). steps_of changes entries ++ s ∷ []) is

pub popped_steps : (all changes : List Touched) (entries : List (Option Value)) (last : Touched) (step : Step) → all ≡ changes ++ last ∷ [] → had_count all ≡ length entries → had_of last ≡ false
    → step ≡ step_of last [] → steps_of all entries ≡ steps_of changes entries ++ step ∷ []
popped_steps all changes entries last step is count had made =
    ap (λ (cs : List Touched). steps_of cs entries) is
    ∙ ap (λ (es : List (Option Value)). steps_of (changes ++ last ∷ []) es) (sym (append-nil entries))
    ∙ steps_of-last changes entries [] last (popped_count changes entries last (ap had_count (sym is) ∙ count) had)
    ∙ ap (λ (s : Step). steps_of changes entries ++ s ∷ []) (sym made)

pub popped_entry_steps : (all changes : List Touched) (whole entries : List (Option Value)) (last : Touched) (entry : Option Value) (step : Step) → all ≡ changes ++ last ∷ [] → whole ≡ entries ++ entry ∷ [] → had_count all ≡ length whole → had_of last ≡ true
    → step ≡ step_of last (entry ∷ []) → steps_of all whole ≡ steps_of changes entries ++ step ∷ []
popped_entry_steps all changes whole entries last entry step is split count had made =
    ap (λ (cs : List Touched). steps_of cs whole) is
    ∙ ap (steps_of (changes ++ last ∷ [])) split
    ∙ steps_of-last changes entries (entry ∷ []) last (popped_entry_count changes entries last entry (ap had_count (sym is) ∙ count ∙ ap (λ (es : List (Option Value)). length es) split) had)
    ∙ ap (λ (s : Step). steps_of changes entries ++ s ∷ []) (sym made)

-- a transfer's record has no entry: with one more the entries stay
pub recorded_count : (changes : List Touched) (entries : List (Option Value)) (t : Transfer) → had_count changes ≡ length entries → had_count (changes ++ touched.Transfer t ∷ []) ≡ length entries
recorded_count changes entries t count = let more = had_count-last changes (touched.Transfer t) in omega (arith, more, count)

pub recorded_steps : (changes : List Touched) (entries : List (Option Value)) (made t : Transfer) → had_count changes ≡ length entries → made ≡ t → steps_of (changes ++ touched.Transfer made ∷ []) entries ≡ steps_of changes entries ++ step.Transfer t ∷ []
recorded_steps changes entries made t count is =
    ap (λ (es : List (Option Value)). steps_of (changes ++ touched.Transfer made ∷ []) es) (sym (append-nil entries))
    ∙ steps_of-last changes entries [] (touched.Transfer made) count
    ∙ ap (λ (other : Transfer). steps_of changes entries ++ step.Transfer other ∷ []) is

-- a key that had an entry has it still
pub no_entry : (all changes : List Touched) (entries : List (Option Value)) (last : Touched) → all ≡ changes ++ last ∷ [] → had_count all ≡ length entries → had_of last ≡ true → length entries ≡ 0 → ⊥
no_entry all changes entries last is count had none = some_had changes last had (ap had_count (sym is) ∙ count ∙ none)

-- the steps behind the first n, the last of them apart
pub dropped : (all rest : List Step) (step : Step) (n : ℕ) → all ≡ rest ++ step ∷ [] → n ≤ length rest → drop n all ≡ drop n rest ++ step ∷ []
dropped all rest step n is few = ap (drop n) is ∙ drop-append-le n rest (step ∷ []) few
