use Rattle.std.proofs.Common.{inl, inr}
use Rattle.tf_storm.proofs.Telling.{keeps-same}
use Rattle.tf_storm.proofs.files.storm_files.Goals as goal

pub returns-in-Err-clause-told : goal.returns-in-Err-clause-told
returns-in-Err-clause-told g c = elim c.unread.ensures [
  | inl is ↦ rw is (keeps-same (g.W.Write.contents c.args.out.now))
  | inr is ↦ rw is (inl (keeps-same (g.W.Write.contents c.args.out.now)))
]
