use Rattle.tf_query.proofs.Directed.{among_matches, list_of_matches}
use Rattle.tf_query.proofs.laws.scans_list_matches.Goals as goal

pub returns-clause-members : goal.returns-clause-members
returns-clause-members g c = among_matches

pub returns-clause-list : goal.returns-clause-list
returns-clause-list g c = list_of_matches
