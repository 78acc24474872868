use Rattle.std.proofs.Common.{◌≡◌, ◌∙◌, ◌+◌, ◌-◌, List, length, take, ap, subst, sym, arith}
use Rattle.std.specs.Prelude.{slice_get}
use Rattle.std.proofs.lemmas.List.{take-take}
use Rattle.std.proofs.lemmas.List.Elements.{All-take}
use Rattle.tf_journal.specs.declared.entry.Entry.{Entry}
use Rattle.tf_journal.specs.Journal.{IsUpTo}
use Rattle.tf_rows.specs.DueSet.{StayHeld}
use Rattle.tf_rows.specs.Floors.{HaveFloors}
use Rattle.tf_forest.specs.Forest.{View}
use Rattle.tf_rows.specs.Spelled.{journal_in}
use Rattle.tf_manifest.specs.declared.row.Row.TheVariants as row
use Rattle.tf_rows.proofs.HeldKeys.{Free}
use Rattle.tf_rows.proofs.Unvalued.{none_back}
use Rattle.tf_forest.proofs.Notes.{cut_is_taken, cut_length}
use Rattle.tf_forest.specs.Forest.{fresh_at_marks}
use Rattle.tf_forest.specs.UsedIds.{AreKnown, IsKnown}
use Rattle.tf_forest.proofs.Marks.{Fresh, first_taken}
use Rattle.tf_forest.proofs.forest.Forest.undo.Goals as goal

pub invariant_of-self : goal.invariant_of-self
invariant_of-self g c =
    let old : List Entry = journal_in (g.S.RowSet.parts c.self.inside.rows) in
    let new : List Entry = journal_in (g.S.RowSet.parts c.undo_to.new.rows) in
    let n = c.args.to.length in
    let kept = c.self.inside.kept in
    let count = c.self.invariant.count in
    let own_kept : kept ≡ c.args.self.now.kept = ap (λ (v : View). v.kept) c.self.view_is in
    let own_length : length old ≡ length c.args.self.now.journal = ap (λ (v : View). length v.journal) c.self.view_is in
    let not_kept = c.requires.not_kept in
    let present = c.requires.present in
    let left = c.undo_to.ensures.left in
    let less = cut_length old new (length c.self.inside.notes - (n - kept)) c.undo_to.ensures.cut in
    let taken : take n old ≡ new = cut_is_taken old new (length c.self.inside.notes - (n - kept)) n c.undo_to.ensures.cut (omega arith) in
    record {
      shows = c.undo_to.ensures.shows;
      right = c.undo_to.ensures.right;
      count = omega arith;
      floors = subst (λ (journal : List Entry). HaveFloors c.back-self-inside.result journal kept) taken (c.back-self-inside.ensures.holds old kept n (omega arith) c.self.invariant.floors);
      due =
          let both : length new ≡ kept + (n - kept) = omega arith in
          c.undone.ensures new kept c.undo_to.ensures.shows.shows both
          (subst (λ (journal : List Entry). StayHeld c.self.inside.due journal kept) taken (none_back (Free c.self.inside.due) kept n old (omega arith) c.self.invariant.due));
      resident = c.undo_to.ensures.resident;
      used = subst (AreKnown c.self.inside.used) taken (All-take (IsKnown c.self.inside.used) n old c.self.invariant.used);
      up_to =
          subst (λ (j : List Entry). IsUpTo c.self.inside.clock (take kept j)) taken
          (subst (IsUpTo c.self.inside.clock) (sym (take-take kept n old (omega arith))) c.self.invariant.up_to);
    }

pub undone-requires : goal.undone-requires
undone-requires g c = g.met.S.AllRows.has_all row.Expiry

pub returns-clause-marks : goal.returns-clause-marks
returns-clause-marks g c =
    c.undo_to.ensures.marks ∙ ap (λ (v : View). take (c.args.to.length - v.kept + 1) v.marks) c.self.view_is

pub returns-clause-first : goal.returns-clause-first
returns-clause-first g c =
    ap (λ (marks : List Fresh). slice_get marks 0) c.undo_to.ensures.marks
    ∙ first_taken (c.args.to.length - c.self.inside.kept) (fresh_at_marks c.self.inside.notes (g.S.RowSet.parts c.self.inside.rows))
    ∙ ap (λ (v : View). slice_get v.marks 0) c.self.view_is
