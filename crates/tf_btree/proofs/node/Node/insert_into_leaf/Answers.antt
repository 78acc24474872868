use Rattle.tf_btree.proofs.Words.{Some, sym, ◌∙◌, ap, append-nil, joined, rows}
use Rattle.tf_btree.proofs.Entries.{same_parts}
use Rattle.tf_btree.proofs.Placed.{value_found}
use Rattle.tf_btree.proofs.Edited.{with_row_at}
use Rattle.tf_btree.proofs.node.Node.insert_into_leaf.Goals as goal

pub returns-in-Ok-clause-rows : goal.returns-in-Ok-clause-rows
returns-in-Ok-clause-rows g c =
    let at = c.in-Ok.ensures.found in
    record {
      all = append-nil (rows c.replace_row.new.self) ∙ ap joined (same_parts c.replace_row.ensures.new) ∙ sym (with_row_at _ _ _ _ _ at);
      value = ap Some (c.replace_row.ensures.old _ _ at.row.2) ∙ sym (value_found _ _ _ _ at);
      absent = tt;
    }
