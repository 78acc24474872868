use Rattle.std.proofs.Common.{ap, arith}
use Rattle.tf_journal.specs.Due.{pulse_step}
use Rattle.tf_store.specs.Book.{book_of}
use Rattle.tf_store.proofs.Counting.{book_and_failed, pulse_counts}
use Rattle.tf_store.proofs.run.run_pulse.Goals as goal

pub add-requires : goal.add-requires
add-requires g c =
    let journal = g.L.Ledger.journal in
    let old = c.args.ledger.now in
    let new = c.pulse.new.ledger in
    let counted = pulse_counts (journal old) (g.L.Ledger.clock old) c.args.now c.args.max in
    let after = pulse_step (journal old) (g.L.Ledger.clock old) c.args.now c.args.max in
    let stored = ap book_of {y = after.journal} c.in_ok-count.ensures.run.stored in
    let count = c.in_ok-count.ensures.run.count in
    let whole = book_and_failed (journal new) in
    omega (arith, c.requires.counted, counted, stored, count, whole, c.mark-bounds_the_book.ensures.present, c.mark-bounds_the_book.type_inv)

pub returns-clause-counted : goal.returns-clause-counted
returns-clause-counted g c =
    let journal = g.L.Ledger.journal in
    let old = c.args.ledger.now in
    let counted = pulse_counts (journal old) (g.L.Ledger.clock old) c.args.now c.args.max in
    let after = pulse_step (journal old) (g.L.Ledger.clock old) c.args.now c.args.max in
    let stored = ap book_of {y = after.journal} c.in_ok-count.ensures.run.stored in
    let count = c.in_ok-count.ensures.run.count in
    omega (arith, c.requires.counted, counted, stored, count, c.add.ensures.count)
