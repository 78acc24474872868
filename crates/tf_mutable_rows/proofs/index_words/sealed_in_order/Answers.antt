use Rattle.std.proofs.Common.{◌≡◌, [], ◌∷◌, ◌++◌, length, length-append, Some, ap, subst, sym, ◌∙◌, arith}
use Rattle.std.proofs.lemmas.Bool.{cond-true}
use Rattle.tf_mutable_rows.proofs.IndexWords.{AreOfIndex, all_of_index, one_more_of_index}
use Rattle.tf_mutable_rows.proofs.index_words.sealed_in_order.Goals as goal

pub loop-word-preserved : goal.loop-word-preserved
loop-word-preserved g c =
    let key = c.key.result in
    let rows = c.loop-word.draft.rows in
    let put : c.add.new.self.rows ≡ rows ++ (key, Some tt) ∷ [] = c.in_ok-add.ensures.rows ∙ cond-true c.in_ok-add.field-0 _ _ c.if-not-branch.false in
    record {
      rows = omega (arith, ap length put, length-append rows ((key, Some tt) ∷ []), c.loop-word.invariant.rows);
      room = c.in_ok-add.ensures.room ∙ c.loop-word.invariant.room;
      among = subst (AreOfIndex c.args.field c.args.objects.now) (sym put)
          (one_more_of_index c.args.field c.args.objects.now rows c.place.result c.in-Some.object.now key c.loop-word.invariant.among c.in-Some.ensures.lookup.3.0 c.in-Some.ensures.lookup.1 c.key.ensures);
    }

pub returns : goal.returns
returns g c =
    c.in_ok-seal.ensures.sealed
    ∙ all_of_index c.args.field c.args.objects.now c.requires.times c.requires.once c.loop-word.draft.rows c.in_ok-seal.ensures.rising c.loop-word.invariant.among (omega (arith, c.loop-word.invariant.rows))
