use Rattle.std.proofs.Common.{arith, ap, ◌∙◌}
use Rattle.tf_journal.specs.declared.side.Side.TheVariants.{Debit, Credit}
use Rattle.tf_journal.proofs.RunningSums.{all_four, pending_is, posted_is, step_of}
use Rattle.tf_journal.proofs.balances.balances_after.Goals as goal

pub moved-requires : goal.moved-requires
moved-requires c =
    let step = step_of c.args.entries.now c.args.entry.now Debit c.args.id c.requires.sound c.requires.grows in
    let off = c.ended_amount.ensures ∙ c.ended_by-ended.ensures Debit in
    let before = ap (λ s. s.debits_pending) c.requires.before in
    let more = c.newly_pending.ensures in
    record {
      low = omega (arith, step.pending, off, before, more);
      high = omega (arith, step.pending, step.limit, off, before, more);
    }

pub moved-requires-2 : goal.moved-requires-2
moved-requires-2 c =
    let step = step_of c.args.entries.now c.args.entry.now Credit c.args.id c.requires.sound c.requires.grows in
    let off = c.ended_amount-2.ensures ∙ c.ended_by-ended.ensures Credit in
    let before = ap (λ s. s.credits_pending) c.requires.before in
    let more = c.newly_pending-2.ensures in
    record {
      low = omega (arith, step.pending, off, before, more);
      high = omega (arith, step.pending, step.limit, off, before, more);
    }

pub overflow_add-result : goal.overflow_add-result
overflow_add-result c =
    let step = step_of c.args.entries.now c.args.entry.now Debit c.args.id c.requires.sound c.requires.grows in
    let before = ap (λ s. s.debits_posted) c.requires.before in
    omega (arith, step.posted, step.limit, before, c.posted.ensures)

pub overflow_add-result-2 : goal.overflow_add-result-2
overflow_add-result-2 c =
    let step = step_of c.args.entries.now c.args.entry.now Credit c.args.id c.requires.sound c.requires.grows in
    let before = ap (λ s. s.credits_posted) c.requires.before in
    omega (arith, step.posted, step.limit, before, c.posted-2.ensures)

pub returns : goal.returns
returns c =
    let journal = c.args.entries.now in
    let e = c.args.entry.now in
    let id = c.args.id in
    let debit = step_of journal e Debit id c.requires.sound c.requires.grows in
    let credit = step_of journal e Credit id c.requires.sound c.requires.grows in
    let before = c.requires.before in
    let off_debit = c.ended_amount.ensures ∙ c.ended_by-ended.ensures Debit in
    let off_credit = c.ended_amount-2.ensures ∙ c.ended_by-ended.ensures Credit in
    all_four _ _ _ _ _ _ _ _
    (pending_is journal e Debit id _ _ _ _ debit (ap (λ s. s.debits_pending) before) c.newly_pending.ensures off_debit c.moved.ensures)
    (posted_is journal e Debit id _ _ debit (ap (λ s. s.debits_posted) before) c.posted.ensures)
    (pending_is journal e Credit id _ _ _ _ credit (ap (λ s. s.credits_pending) before) c.newly_pending-2.ensures off_credit c.moved-2.ensures)
    (posted_is journal e Credit id _ _ credit (ap (λ s. s.credits_posted) before) c.posted-2.ensures)
