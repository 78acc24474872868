use Rattle.tf_manifest.proofs.Answered.{content}
use Rattle.tf_manifest.proofs.manifest.Manifest.install.Goals as goal

pub returns-clause-content : goal.returns-clause-content
returns-clause-content g c = content c.args.self.now _ _ _ c.put.ensures
