use Rattle.std.proofs.Common.{arith, ◌∙◌, ap, None}
use Rattle.std.specs.List.{fold}
use Rattle.std.proofs.lemmas.List.{take_all}
use Rattle.std.proofs.lemmas.List.Elements.{Contains-get_or}
use Rattle.std.proofs.lemmas.List.Sums.{fold_more}
use Rattle.tf_journal.specs.Expired.{first_due}
use Rattle.tf_journal.proofs.FirstDue.{next_found}
use Rattle.tf_journal.proofs.expiry.next_due.Goals as goal

pub returns : goal.returns
returns c =
    let journal = c.args.entries.now in
    c.loop-entry.invariant ∙ ap (fold (first_due journal c.args.at) None) (take_all c.loop-entry.entry-index journal c.loop-entry-test.false) ∙ next_found journal c.args.at

pub loop-entry-preserved : goal.loop-entry-preserved
loop-entry-preserved c =
    let journal = c.args.entries.now in
    grind (arith, fold_more (first_due journal c.args.at) None journal c.loop-entry.entry-index)

pub first_with-first-requires : goal.first_with-first-requires
first_with-first-requires c = record {
  sound = c.requires;
  last = c.last_expired-last.ensures;
  present = Contains-get_or c.args.entries.now c.loop-entry.entry-index _ c.loop-entry-test.true;
}
