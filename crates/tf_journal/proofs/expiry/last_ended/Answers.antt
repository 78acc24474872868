use Rattle.std.proofs.Common.{arith, sym, ◌∙◌, subst, true, ◌≡◌}
use Rattle.std.specs.List.{list_any}
use Rattle.std.proofs.lemmas.List.{take_all}
use Rattle.std.proofs.lemmas.List.Folds.{list_any_kept, list_any_more}
use Rattle.tf_journal.specs.Expired.{ends}
use Rattle.tf_journal.proofs.expiry.last_ended.Goals as goal
use Rattle.tf_journal.proofs.expiry.last_ended.Goals.{in-Expiry, in_default}

pub returns : goal.returns
returns c = λ p is.
    let journal = c.args.entries.now in
    subst (λ j. list_any (ends p) j ≡ true) (take_all c.loop-entry.entry-index journal c.loop-entry-test.false) (c.loop-entry.invariant p is)

pub loop-entry-preserved : goal.loop-entry-preserved
loop-entry-preserved c =
    let journal = c.args.entries.now in
    elim c.match-entry.branch [
      | in-Expiry w ↦ λ p is. grind (arith, list_any_more (ends p) journal c.loop-entry.entry-index)
      | in_default w ↦ λ p is. list_any_kept (ends p) journal c.loop-entry.entry-index (c.loop-entry.invariant p (sym w.last-is ∙ is))
    ]
