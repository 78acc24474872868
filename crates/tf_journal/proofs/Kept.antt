-- What a ledger that keeps its journal as a list knows of it.
use Rattle.std.proofs.Common.{◌≡◌, ℕ, Bool, true, false, List, [], ◌∷◌, ◌++◌, take, subst, sym}
use Rattle.std.specs.Prelude.{if◌then◌else◌}
use Rattle.std.proofs.Math.Logic.{∥∥₁_map}
use Rattle.tf_journal.specs.declared.entry.Entry.{Entry}
use Rattle.tf_journal.specs.Lawful.{IsSound}
use Rattle.tf_journal.specs.Ledger.{CanGrow}
use Rattle.tf_journal.proofs.Sound.{sound_push, sound_take}

-- what a push of an entry leaves, whether or not there was memory
pub pushed_sound : (journal after : List Entry) (e : Entry) (pushed : Bool) → ∥ IsSound journal ∥₁ → CanGrow journal e
    → after ≡ (if pushed then journal ++ e ∷ [] else journal) → ∥ IsSound after ∥₁
pushed_sound journal after e true sound grows is = subst (λ j. ∥ IsSound j ∥₁) (sym is) (∥∥₁_map sound (λ h. sound_push journal e h grows))
pushed_sound journal after e false sound grows is = subst (λ j. ∥ IsSound j ∥₁) (sym is) sound

-- what a cut leaves
pub cut_sound : (journal after : List Entry) (n : ℕ) → ∥ IsSound journal ∥₁ → after ≡ take n journal → ∥ IsSound after ∥₁
cut_sound journal after n sound is = subst (λ j. ∥ IsSound j ∥₁) (sym is) (∥∥₁_map sound (sound_take n journal))
