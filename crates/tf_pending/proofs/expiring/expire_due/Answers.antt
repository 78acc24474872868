use Rattle.std.proofs.Common.{◌≡◌, ◌∙◌, refl, sym, subst, arith, length, take, ◌+◌, ◌<◌, ◌≤◌, ◌++◌, ◌∷◌, []}
use Rattle.std.proofs.lemmas.Result.{IfOk-from_err}
use Rattle.tf_journal.specs.declared.entry.Entry.TheVariants as entry
use Rattle.tf_journal.specs.Journal.{last_timestamp}
use Rattle.tf_journal.specs.Ledger.{CanGrow}
use Rattle.tf_pending.specs.Parts.{IsExpiring}
use Rattle.tf_pending.proofs.Pulses.{expiring_begins, expiring_done, expiring_grows, expiring_longer, expiring_next, expiring_start, expiring_within}
use Rattle.tf_pending.proofs.expiring.expire_due.Goals as goal

pub returns-in_default-clause-count : goal.returns-in_default-clause-count
returns-in_default-clause-count g c =
    let start = g.L.Ledger.journal c.args.ledger.now in
    let is = c.loop-count.invariant.expired in
    let all = expiring_done c.args.moment start (g.L.Ledger.journal c.loop-count.ledger) c.loop-count.count is (sym c.next_due.ensures ∙ c.in_default.is) in
    let turn = c.loop-count-test.true in
    omega (arith, all, is.within, turn)

pub add_expiry-requires : goal.add_expiry-requires
add_expiry-requires g c =
    let start = g.L.Ledger.journal c.args.ledger.now in
    let journal = g.L.Ledger.journal c.loop-count.ledger in
    let later : c.args.moment + c.loop-count.count < last_timestamp =
    let within = expiring_within c.args.moment start journal c.loop-count.count c.in-Some.pending c.loop-count.invariant.expired (sym c.next_due.ensures ∙ c.in-Some.is) in
    let turn = c.loop-count-test.true in
    omega (arith, within, turn, c.requires.in_range) in
    subst (λ n. CanGrow journal (entry.Expiry (c.args.moment + n + 1) c.in-Some.pending.timestamp)) (sym c.from.ensures)
    (expiring_grows c.args.moment start journal c.loop-count.count c.in-Some.pending c.loop-count.invariant.expired (sym c.next_due.ensures ∙ c.in-Some.is) later)

pub loop-count-preserved : goal.loop-count-preserved
loop-count-preserved g c =
    let start = g.L.Ledger.journal c.args.ledger.now in
    let journal = g.L.Ledger.journal c.loop-count.ledger in
    let later : c.args.moment + c.loop-count.count < last_timestamp =
    let within = expiring_within c.args.moment start journal c.loop-count.count c.in-Some.pending c.loop-count.invariant.expired (sym c.next_due.ensures ∙ c.in-Some.is) in
    let turn = c.loop-count-test.true in
    omega (arith, within, turn, c.requires.in_range) in
    let next = expiring_next c.args.moment start journal c.loop-count.count c.in-Some.pending c.loop-count.invariant.expired (sym c.next_due.ensures ∙ c.in-Some.is) later in
    let added = subst (λ n. g.L.Ledger.journal c.add_expiry.new.self ≡ journal ++ entry.Expiry (c.args.moment + n + 1) c.in-Some.pending.timestamp ∷ []) c.from.ensures c.in_ok-add_expiry.ensures.addition.ok in
    record {
      expired = subst (λ j. IsExpiring c.args.moment start j (c.loop-count.count + 1)) (sym added) next;
      clock = c.add_expiry.ensures.addition.clock ∙ c.loop-count.invariant.clock;
      kept = c.add_expiry.ensures.addition.kept ∙ c.loop-count.invariant.kept;
      rest = c.add_expiry.ensures.rest ∙ c.loop-count.invariant.rest;
    }

pub loop-count-init : goal.loop-count-init
loop-count-init g c = record {
  expired = expiring_start c.args.moment (g.L.Ledger.journal c.args.ledger.now) c.requires.lawful;
  clock = refl;
  kept = refl;
  rest = refl;
}

pub returns-in_default-clause-expired : goal.returns-in_default-clause-expired
returns-in_default-clause-expired g c = c.loop-count.invariant.expired

pub returns-in_default-clause-refusal : goal.returns-in_default-clause-refusal
returns-in_default-clause-refusal g c = tt

pub returns-in_default-clause-longer : goal.returns-in_default-clause-longer
returns-in_default-clause-longer g c = expiring_longer c.args.moment (g.L.Ledger.journal c.args.ledger.now) (g.L.Ledger.journal c.loop-count.ledger) c.loop-count.count c.loop-count.invariant.expired

pub returns-in_default-clause-begins : goal.returns-in_default-clause-begins
returns-in_default-clause-begins g c = expiring_begins c.args.moment (g.L.Ledger.journal c.args.ledger.now) (g.L.Ledger.journal c.loop-count.ledger) c.loop-count.count c.loop-count.invariant.expired

pub returns-in_default-clause-clock_kept : goal.returns-in_default-clause-clock_kept
returns-in_default-clause-clock_kept g c = c.loop-count.invariant.clock

pub returns-in_default-clause-length_kept : goal.returns-in_default-clause-length_kept
returns-in_default-clause-length_kept g c = c.loop-count.invariant.kept

pub returns-in_default-clause-rest : goal.returns-in_default-clause-rest
returns-in_default-clause-rest g c = c.loop-count.invariant.rest

pub returns-clause-refusal : goal.returns-clause-refusal
returns-clause-refusal g c = tt

pub returns-clause-longer : goal.returns-clause-longer
returns-clause-longer g c = expiring_longer c.args.moment (g.L.Ledger.journal c.args.ledger.now) (g.L.Ledger.journal c.loop-count.ledger) c.loop-count.count c.loop-count.invariant.expired

pub returns-clause-begins : goal.returns-clause-begins
returns-clause-begins g c = expiring_begins c.args.moment (g.L.Ledger.journal c.args.ledger.now) (g.L.Ledger.journal c.loop-count.ledger) c.loop-count.count c.loop-count.invariant.expired

pub returns-clause-clock_kept : goal.returns-clause-clock_kept
returns-clause-clock_kept g c = c.loop-count.invariant.clock

pub returns-clause-length_kept : goal.returns-clause-length_kept
returns-clause-length_kept g c = c.loop-count.invariant.kept

pub returns-clause-rest : goal.returns-clause-rest
returns-clause-rest g c = c.loop-count.invariant.rest

pub returns-in_err-add_expiry-clause-expired : goal.returns-in_err-add_expiry-clause-expired
returns-in_err-add_expiry-clause-expired g c = IfOk-from_err _ _ c.from_residual.ensures.0

pub returns-in_err-add_expiry-clause-count : goal.returns-in_err-add_expiry-clause-count
returns-in_err-add_expiry-clause-count g c = IfOk-from_err _ _ c.from_residual.ensures.0

pub returns-in_err-add_expiry-clause-longer : goal.returns-in_err-add_expiry-clause-longer
returns-in_err-add_expiry-clause-longer g c =
    subst (λ j. length (g.L.Ledger.journal c.args.ledger.now) ≤ length j) (sym c.in_err-add_expiry.ensures.addition.err)
    (expiring_longer c.args.moment (g.L.Ledger.journal c.args.ledger.now) (g.L.Ledger.journal c.loop-count.ledger) c.loop-count.count c.loop-count.invariant.expired)

pub returns-in_err-add_expiry-clause-begins : goal.returns-in_err-add_expiry-clause-begins
returns-in_err-add_expiry-clause-begins g c =
    subst (λ j. take (length (g.L.Ledger.journal c.args.ledger.now)) j ≡ g.L.Ledger.journal c.args.ledger.now) (sym c.in_err-add_expiry.ensures.addition.err)
    (expiring_begins c.args.moment (g.L.Ledger.journal c.args.ledger.now) (g.L.Ledger.journal c.loop-count.ledger) c.loop-count.count c.loop-count.invariant.expired)

pub returns-in_err-add_expiry-clause-clock_kept : goal.returns-in_err-add_expiry-clause-clock_kept
returns-in_err-add_expiry-clause-clock_kept g c = c.add_expiry.ensures.addition.clock ∙ c.loop-count.invariant.clock

pub returns-in_err-add_expiry-clause-length_kept : goal.returns-in_err-add_expiry-clause-length_kept
returns-in_err-add_expiry-clause-length_kept g c = c.add_expiry.ensures.addition.kept ∙ c.loop-count.invariant.kept

pub returns-in_err-add_expiry-clause-rest : goal.returns-in_err-add_expiry-clause-rest
returns-in_err-add_expiry-clause-rest g c = c.add_expiry.ensures.rest ∙ c.loop-count.invariant.rest
