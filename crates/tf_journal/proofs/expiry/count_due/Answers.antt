use Rattle.std.proofs.Common.{arith, cond, ap}
use Rattle.std.specs.List.{sum_by}
use Rattle.std.proofs.lemmas.List.{take_all}
use Rattle.std.proofs.lemmas.List.Sums.{sum_by_more}
use Rattle.tf_journal.specs.Expired.{holds_due}
use Rattle.tf_journal.proofs.FirstDue.{count_found}
use Rattle.tf_journal.proofs.expiry.count_due.Goals as goal

pub loop-entry-preserved : goal.loop-entry-preserved
loop-entry-preserved c =
    grind (arith, sum_by_more (λ e. cond (holds_due c.args.entries.now c.args.at e) 1 0) c.args.entries.now c.loop-entry.entry-index)

pub returns : goal.returns
returns c =
    let journal = c.args.entries.now in
    omega (arith, count_found journal c.args.at, ap (λ j. sum_by (λ e. cond (holds_due journal c.args.at e) 1 0) j) (take_all c.loop-entry.entry-index journal c.loop-entry-test.false))
