-- Adding a publication keeps the rule.
use Rattle.std.proofs.Common.{◌≡◌, ◌<◌, true, List, [], ◌∷◌, ◌++◌, length, set, refl, ap, sym, subst, ◌∙◌, arith}
use mathlib.Core.List.{IsPrefix}
use Rattle.logbook.specs.Pages.{Cell, cell}
use Rattle.tf_journal.specs.Lawful.{IsLawful}
use Rattle.tf_history.specs.declared.law.Chunk.{Chunk}
use Rattle.tf_history.specs.History.{entries_of}
use Rattle.tf_history.specs.Rule.{IsKept}
use Rattle.tf_history.proofs.Prefixes.{prefix_whole}

abbrev pub shown : List Chunk → List Chunk
shown log = []

-- whatever the book is, its first word is at home, and where that is the number of publications that were seen, these are all, and
-- the rule holds with one more
pub adds_counts : (log : List Chunk) (e : Chunk) → IsLawful (entries_of (log ++ e ∷ [])) → (cells : List Cell) (whole : List Chunk) → IsKept cells whole → IsPrefix log whole
    → (0 < length cells) × ((cell cells 0).1 ≡ true) × (length log ≡ (cell cells 0).0 → (log ≡ whole) × IsKept (set cells 0 (length (log ++ e ∷ []), true)) (whole ++ e ∷ []) × (shown whole ≡ shown (whole ++ e ∷ [])))
adds_counts log e lawful cells whole kept begins =
    let first : length whole ≡ (cell cells 0).0 = ap (λ (cs : List Cell). (cell cs 0).0) (sym kept.words) in (
      rw kept.words (omega arith),
      ap (λ (cs : List Cell). (cell cs 0).1) kept.words,
      λ same.
          let all : log ≡ whole = prefix_whole log whole begins (omega (arith, same, first)) in (
            all,
            record {
              words = ap (λ (cs : List Cell). set cs 0 (length (log ++ e ∷ []), true)) kept.words ∙ ap (λ (l : List Chunk). (length (l ++ e ∷ []), true) ∷ (0, true) ∷ []) all;
              lawful = subst (λ (l : List Chunk). IsLawful (entries_of (l ++ e ∷ []))) all lawful;
            },
            refl,
          ),
    )
