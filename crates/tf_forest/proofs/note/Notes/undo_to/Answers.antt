use Rattle.std.proofs.Common.{◌≡◌, ◌+◌, ◌∷◌, [], ◌∙◌, List, length, take, refl, sym, ap, subst, arith}
use Rattle.std.proofs.lemmas.List.{length-append, take_all}
use Rattle.tf_rows.specs.Spelled.{journal_in}
use Rattle.tf_forest.specs.Forest.{Noted, fresh_at_marks}
use Rattle.tf_forest.proofs.Marks.{marks_less, marks_many}
use Rattle.tf_forest.proofs.Notes.{IsUndone, can_undo, none_cut, one_less}
use Rattle.tf_forest.proofs.Noting.{ending}
use Rattle.tf_forest.proofs.note.Notes.undo_to.Goals as goal

pub take_back-requires : goal.take_back-requires
take_back-requires g c = λ others last is.
    can_undo g.S.RowSet.has_row g.S.RowSet.fits g.S.RowSet.takes_any (journal_in (g.S.RowSet.parts c.args.rows.now)) (length c.args.self.now)
    (g.S.RowSet.parts c.loop-self.rows) c.loop-self.self others last c.loop-self.resident c.loop-self.invariant.undone is

pub loop-self-init : goal.loop-self-init
loop-self-init g c =
    let rows = g.S.RowSet.parts c.args.rows.now in
    let many = marks_many c.args.self.now rows in
    record {
      undone = record {
        shows = c.requires.shows;
        right = c.requires.right;
        fewer = omega arith;
        cut = none_cut (journal_in rows) (length c.args.self.now);
        resident = c.requires.resident;
      };
      left = c.requires.left;
      marks = sym (take_all (length c.args.self.now + 1) (fresh_at_marks c.args.self.now rows) (omega (arith, many)));
      sealed = refl;
    }

pub loop-self-smaller : goal.loop-self-smaller
loop-self-smaller g c =
    let end = ending c.loop-self.self (omega (arith, c.len.ensures, c.loop-self-test.true)) in
    let others = ap (λ (notes : List Noted). length notes) (c.take_back.ensures.others end.rest end.last end.is) in
    let whole = ap (λ (notes : List Noted). length notes) end.is in
    let both = length-append end.rest (end.last ∷ []) in
    omega (arith, others, whole, both)

pub loop-self-preserved : goal.loop-self-preserved
loop-self-preserved g c =
    let end = ending c.loop-self.self (omega (arith, c.len.ensures, c.loop-self-test.true)) in
    let same = c.take_back.ensures.others end.rest end.last end.is in
    let others = ap (λ (notes : List Noted). length notes) same in
    let whole = ap (λ (notes : List Noted). length notes) end.is in
    let both = length-append end.rest (end.last ∷ []) in
    record {
      undone =
          subst (λ (notes : List Noted). IsUndone g.S.RowSet.has_row g.S.RowSet.fits g.S.RowSet.takes_any (journal_in (g.S.RowSet.parts c.args.rows.now)) (length c.args.self.now) (g.S.RowSet.parts c.take_back.new.rows) notes c.take_back.new.resident) (sym same)
          (one_less g.S.RowSet.has_row g.S.RowSet.fits g.S.RowSet.takes_any (journal_in (g.S.RowSet.parts c.args.rows.now)) (length c.args.self.now)
          (g.S.RowSet.parts c.loop-self.rows) (g.S.RowSet.parts c.take_back.new.rows) c.loop-self.self end.rest end.last c.loop-self.resident c.take_back.new.resident c.loop-self.invariant.undone end.is
          (c.take_back.ensures.rows end.rest end.last end.is) (c.take_back.ensures.resident end.rest end.last end.is));
      left = omega (arith, others, whole, both, c.len.ensures, c.loop-self-test.true);
      marks =
          subst (λ (notes : List Noted). fresh_at_marks notes (g.S.RowSet.parts c.take_back.new.rows) ≡ take (length notes + 1) (fresh_at_marks c.args.self.now (g.S.RowSet.parts c.args.rows.now))) (sym same)
          (marks_less (fresh_at_marks c.args.self.now (g.S.RowSet.parts c.args.rows.now)) (g.S.RowSet.parts c.loop-self.rows) (g.S.RowSet.parts c.take_back.new.rows)
          c.loop-self.self end.rest end.last c.loop-self.invariant.marks end.is (c.take_back.ensures.rows end.rest end.last end.is));
      sealed = c.take_back.ensures.sealed ∙ c.loop-self.invariant.sealed;
    }
