-- What the mutable tables have at the lengths to which the journal can be cut back: one entry more, one less.
use Rattle.std.proofs.Common.{◌≡◌, ◌+◌, ℕ, suc, List, [], ◌∷◌, ◌++◌, length, take, Option, Some, refl, sym, ◌∙◌, ap, arith}
use Rattle.std.specs.Prelude.{slice_get}
use Rattle.std.proofs.lemmas.List.{length-append, take-take, take_at}
use Rattle.tf_table.specs.declared.key.Key.{Key}
use Rattle.tf_manifest.specs.declared.value.Value.{Value}
use Rattle.tf_rows.specs.Changes.{all_stepped}
use Rattle.tf_rows.specs.Parts.{Parts, fresh_in}
use Rattle.tf_rows.specs.Counts.{Sealed}
use Rattle.tf_publish.specs.Publish.{entries_waiting, tables_needed}
use Rattle.tf_publish.specs.Tables.{Waits, by_name, listed}
use Rattle.tf_journal.specs.declared.entry.Entry.{Entry}
use Rattle.tf_forest.specs.Forest.{Noted, View, all_undone, fresh_at_marks}
use Rattle.tf_forest.proofs.Notes.{all_undone-last}

-- what all mutable tables have, row by row
abbrev pub Fresh : Type 0
Fresh = List (List (Key × Option Value))

pub marks_many : (notes : List Noted) (rows : Parts) → length (fresh_at_marks notes rows) ≡ length notes + 1
marks_many [] rows = omega arith
marks_many (note ∷ notes) rows = let more = marks_many notes rows in omega (arith, more)

pub marks_present : (notes : List Noted) (rows : Parts) → slice_get (fresh_at_marks notes rows) (length notes) ≡ Some (listed (fresh_in rows))
marks_present [] rows = refl
marks_present (note ∷ notes) rows = marks_present notes rows

pub marks_last : (notes : List Noted) (note : Noted) (rows : Parts) → fresh_at_marks (notes ++ note ∷ []) rows ≡ fresh_at_marks notes (all_stepped note.steps rows) ++ listed (fresh_in rows) ∷ []
marks_last [] note rows = refl
marks_last (first ∷ notes) note rows =
    ap (λ (undone : Parts). listed (fresh_in (all_stepped first.steps undone)) ∷ fresh_at_marks (notes ++ note ∷ []) rows) (all_undone-last notes note rows)
    ∙ ap (λ (marks : List Fresh). listed (fresh_in (all_undone (first ∷ notes) (all_stepped note.steps rows))) ∷ marks) (marks_last notes note rows)

-- the first stays where more are put behind it, and where only so many are left
pub first_behind : (notes : List Noted) (rows : Parts) (more : List Fresh) → slice_get (fresh_at_marks notes rows ++ more) 0 ≡ slice_get (fresh_at_marks notes rows) 0
first_behind [] rows more = refl
first_behind (note ∷ notes) rows more = refl

first_of : (n : ℕ) (marks : List Fresh) → slice_get (take (suc n) marks) 0 ≡ slice_get marks 0
first_of n [] = refl
first_of n (mark ∷ marks) = refl

pub first_taken : (n : ℕ) (marks : List Fresh) → slice_get (take (n + 1) marks) 0 ≡ slice_get marks 0
first_taken n marks = let more : n + 1 ≡ suc n = omega arith in ap (λ (m : ℕ). slice_get (take m marks) 0) more ∙ first_of n marks

-- a note less, one mark less
pub marks_less : (whole : List Fresh) (rows after : Parts) (notes rest : List Noted) (note : Noted) → fresh_at_marks notes rows ≡ take (length notes + 1) whole → notes ≡ rest ++ note ∷ [] → after ≡ all_stepped note.steps rows → fresh_at_marks rest after ≡ take (length rest + 1) whole
marks_less whole rows after notes rest note marks split back =
    let more = ap (λ (ns : List Noted). length ns) split ∙ length-append rest (note ∷ []) in
    let own = marks_many rest after in
    let is : fresh_at_marks notes rows ≡ fresh_at_marks rest after ++ listed (fresh_in rows) ∷ [] =
    ap (λ (ns : List Noted). fresh_at_marks ns rows) split ∙ marks_last rest note rows
    ∙ ap (λ (ps : Parts). fresh_at_marks rest ps ++ listed (fresh_in rows) ∷ []) (sym {A = Parts} back) in
    sym (take_at (fresh_at_marks rest after) (listed (fresh_in rows) ∷ []) (length rest + 1) own)
    ∙ ap (take (length rest + 1)) (sym is ∙ marks)
    ∙ take-take (length rest + 1) (length notes + 1) whole (omega (arith, more))

-- what of a forest neither entries nor undos change
abbrev pub rest_of : View → Sealed × Option Fresh
rest_of forest = (forest.sealed, slice_get forest.marks 0)

-- a forest that keeps all its entries, whose journal, clock and sealed tables stayed, and what its mutable tables had when the
-- journal was last kept: all of it stayed
pub all_as_before : (old new : View) → old.kept ≡ length old.journal → new.journal ≡ old.journal → new.clock ≡ old.clock → new.kept ≡ old.kept → rest_of new ≡ rest_of old
    → (old.kept ≡ length old.journal → old.marks ≡ old.fresh ∷ []) → (new.kept ≡ length new.journal → new.marks ≡ new.fresh ∷ [])
    → Waits old.fresh old.sealed.tables old.needed old.waiting → Waits new.fresh new.sealed.tables new.needed new.waiting → new ≡ old
all_as_before old new all journal clock kept rest then_old then_new waited waits =
    let was : old.marks ≡ old.fresh ∷ [] = then_old all in
    let now : new.marks ≡ new.fresh ∷ [] = then_new (kept ∙ all ∙ ap (λ (j : List Entry). length j) (sym journal)) in
    let sealed : new.sealed ≡ old.sealed = ap (λ (r : Sealed × Option Fresh). r.0) rest in
    let first : slice_get new.marks 0 ≡ slice_get old.marks 0 = ap (λ (r : Sealed × Option Fresh). r.1) rest in
    let one : Some new.fresh ≡ Some old.fresh = sym (ap (λ (ms : List Fresh). slice_get ms 0) now) ∙ first ∙ ap (λ (ms : List Fresh). slice_get ms 0) was in
    let fresh : new.fresh ≡ old.fresh = cc in
    let marks : new.marks ≡ old.marks = now ∙ ap (λ (f : Fresh). f ∷ []) fresh ∙ sym was in
    let needed : new.needed ≡ old.needed = waits.needed ∙ ap (λ (f : Fresh). tables_needed (by_name f) new.sealed.tables) fresh ∙ ap (λ (s : Sealed). tables_needed (by_name old.fresh) s.tables) sealed ∙ sym waited.needed in
    let waiting : new.waiting ≡ old.waiting = waits.waiting ∙ ap (λ (f : Fresh). entries_waiting (by_name f)) fresh ∙ sym waited.waiting in
    let seen : List Entry → Sealed → Fresh → List Fresh → ℕ → ℕ → ℕ → ℕ → View = λ j s f ms n w c k. record { journal = j; sealed = s; fresh = f; marks = ms; needed = n; waiting = w; clock = c; kept = k } in
    ap (λ (j : List Entry). seen j new.sealed new.fresh new.marks new.needed new.waiting new.clock new.kept) journal
    ∙ ap (λ (s : Sealed). seen old.journal s new.fresh new.marks new.needed new.waiting new.clock new.kept) sealed
    ∙ ap (λ (f : Fresh). seen old.journal old.sealed f new.marks new.needed new.waiting new.clock new.kept) fresh
    ∙ ap (λ (ms : List Fresh). seen old.journal old.sealed old.fresh ms new.needed new.waiting new.clock new.kept) marks
    ∙ ap (λ (n : ℕ). seen old.journal old.sealed old.fresh old.marks n new.waiting new.clock new.kept) needed
    ∙ ap (λ (w : ℕ). seen old.journal old.sealed old.fresh old.marks old.needed w new.clock new.kept) waiting
    ∙ ap (λ (c : ℕ). seen old.journal old.sealed old.fresh old.marks old.needed old.waiting c new.kept) clock
    ∙ ap (λ (k : ℕ). seen old.journal old.sealed old.fresh old.marks old.needed old.waiting old.clock k) kept
