-- What contracts see of what a store published, and what always holds of it.
use mathlib.Core.List.{IsPrefix}
use Rattle.std.specs.Prelude.{◌≡◌, ◌⊎◌, ℕ, ◌-◌, ◌^◌, ◌≤◌, [], List, length, take}
use Rattle.tf_journal.specs.declared.entry.Entry.{Entry}
use Rattle.tf_journal.specs.Lawful.{IsLawful}
use Rattle.tf_manifest.specs.View.{ShowsJournal}
use Rattle.tf_forest.specs.Forest.{View}

-- the history as far as it goes, in how many publications it came, how many entries of it the sealed tables show, and the journal that readers can see
pub record PublicView : Type 0 where
  pub front : List Entry
  pub publications : ℕ
  pub shown : ℕ
  pub readable : List Entry

-- nothing
abbrev pub nothing_public : PublicView
nothing_public = record { front = []; publications = 0; shown = 0; readable = [] }

-- all of a journal, in so many publications
abbrev pub all_public : List Entry → ℕ → PublicView
all_public journal publications = record { front = journal; publications = publications; shown = length journal; readable = journal }

-- the history came to a journal, unless it had as many publications before as can be counted
abbrev pub ReachesUnlessFull : List Entry → PublicView → PublicView → Type 0
ReachesUnlessFull journal before after = (after.front ≡ journal) ⊎ (before.publications ≡ 2 ^ 64 - 1)

-- the history begins a forest's journal, and so much of it as is shown is lawful, is what the sealed tables show, and is what
-- readers can see
pub record IsPublic (forest : View) (public : PublicView) : Type 0 where
  pub begins : IsPrefix public.front forest.journal
  pub shown : public.shown ≤ length public.front
  pub sound : IsLawful (take public.shown forest.journal)
  pub published : ShowsJournal forest.sealed.tables (take public.shown forest.journal)
  pub readable : public.readable ≡ take public.shown forest.journal
