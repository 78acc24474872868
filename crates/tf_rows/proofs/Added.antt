-- Rows after the changes of a journal's next entry.
use Rattle.std.proofs.Common.{◌≡◌, ◌∙◌, List, [], ◌∷◌, ◌++◌, sym, ap, subst}
use Rattle.tf_journal.specs.declared.entry.Entry.{Entry}
use Rattle.tf_journal.specs.Lawful.{IsSound}
use Rattle.tf_journal.specs.Ledger.{CanGrow}
use Rattle.tf_manifest.specs.Shows.{Shows}
use Rattle.tf_rows.specs.declared.change.Change.{Change}
use Rattle.tf_rows.specs.declared.found.Found.{Found}
use Rattle.tf_rows.specs.Changes.{all_changed}
use Rattle.tf_rows.specs.Edits.{found_for}
use Rattle.tf_rows.specs.Next.{changes, changes_by, content_in}
use Rattle.tf_rows.specs.Parts.{Parts}

-- what is known of rows that show a journal: after the changes of its next entry they show it with that entry
abbrev pub ShowTheNext : Type 0
ShowTheNext = (rows : Parts) (journal : List Entry) (e : Entry) → IsSound journal → CanGrow journal e → Shows (content_in rows) journal → Shows (content_in (all_changed (changes journal e) rows)) (journal ++ e ∷ [])

module _ (old : Parts) (found : Found) (made : List Change) (e adding : Entry) (is : adding ≡ e) (by : made ≡ changes_by found e) where
  -- the changes are those of the entry
  pub made_by : made ≡ changes_by found adding
  made_by = by ∙ ap (changes_by found) (sym is)

  pub changed_by : (new : Parts) → new ≡ all_changed made old → new ≡ all_changed (changes_by found adding) old
  changed_by new after = after ∙ ap (λ (cs : List Change). all_changed cs old) made_by

  pub shown_by : ShowTheNext → (new : Parts) → new ≡ all_changed made old → (journal : List Entry) → IsSound journal → CanGrow journal adding → found ≡ found_for journal adding → Shows (content_in old) journal → Shows (content_in new) (journal ++ adding ∷ [])
  shown_by next new after journal sound grows looked_up shows =
      subst (λ (ps : Parts). Shows (content_in ps) (journal ++ adding ∷ []))
      (sym (changed_by new after ∙ ap (λ (f : Found). all_changed (changes_by f adding) old) looked_up))
      (next old journal adding sound grows shows)
