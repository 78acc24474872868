use Rattle.tf_btree.proofs.Words.{◌∙◌}
use Rattle.tf_btree.proofs.RunLemmas.{from_first}
use Rattle.tf_btree.proofs.cursor.Cursor.all.Goals as goal

pub returns-in-Some : goal.returns-in-Some
returns-in-Some g c = c.from_key.ensures ∙ rw c.in-Some.is (from_first _ g.met.K.Ord.total _ _ (rw c.in-Some.is at c.requires.rising) c.first-first.ensures.key)
