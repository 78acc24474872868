use Rattle.tf_manifest.proofs.Spelled.{one_journal, shown_alike}
use Rattle.tf_manifest.proofs.laws.rows_show_one_journal.Goals as goal

pub returns-clause-spelled : goal.returns-clause-spelled
returns-clause-spelled c = one_journal c.ids_are_unique.ensures

pub returns-clause-shown : goal.returns-clause-shown
returns-clause-shown c =
    λ content first second one other shows shown.
    one_journal c.ids_are_unique.ensures first second one other (shown_alike content first second shows shown)
