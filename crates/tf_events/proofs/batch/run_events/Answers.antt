use Rattle.std.proofs.Common.{◌≡◌, ℕ, ◌+◌, ◌++◌, ◌-◌, ◌<◌, ◌≤◌, ◌∙◌, ap, append-nil, arith, drop, length, refl, rules, subst, sym, take}
use Rattle.std.proofs.lemmas.List.{length-drop, take_rest}
use Rattle.std.proofs.lemmas.Result.{IfOk-from_err}
use Rattle.tf_journal.specs.Lawful.{AreChained}
use Rattle.tf_events.specs.Batch.{chains_of, chains_step, placed}
use Rattle.tf_events.specs.Chain.{Step}
use Rattle.tf_events.specs.Walk.{IsSoundAt}
use Rattle.tf_events.proofs.Chained.{chained_one}
use Rattle.tf_events.proofs.Cuts.{chain_length-some, chain_length-within, first_chain_length, first_chain_one, first_within}
use Rattle.tf_events.proofs.Left.{extends_more, left_more, left_none}
use Rattle.tf_events.proofs.Stored.{extends_itself, sound_at_later}
use Rattle.tf_events.proofs.batch.run_events.Goals as goal

pub slice_bounds-run_chain-end : goal.slice_bounds-run_chain-end
slice_bounds-run_chain-end g c =
    let rest = take (length c.args.events.now - c.loop-start.start) (drop c.loop-start.start c.args.events.now) in
    sym (first_chain_length g.E.Event.kind rest c.chain_len-len.result c.chain_len-len.ensures)

pub run_chain-requires-clause-one : goal.run_chain-requires-clause-one
run_chain-requires-clause-one g c =
    let rest = take (length c.args.events.now - c.loop-start.start) (drop c.loop-start.start c.args.events.now) in
    first_chain_one g.E.Event.kind rest c.chain_len-len.result c.chain_len-len.ensures

pub run_chain-requires-clause-some : goal.run_chain-requires-clause-some
run_chain-requires-clause-some g c =
    let events = c.args.events.now in
    let rest = take (length events - c.loop-start.start) (drop c.loop-start.start events) in
    let same : rest ≡ drop c.loop-start.start events = take_rest events c.loop-start.start in
    let more : 0 < length rest = subst (λ r. 0 < length r) (sym same) (omega (arith, length-drop c.loop-start.start events)) in
    omega (arith, chain_length-some g.E.Event.kind rest more, first_chain_length g.E.Event.kind rest c.chain_len-len.result c.chain_len-len.ensures, c.chain_len-len.ensures)

pub overflow_add-start : goal.overflow_add-start
overflow_add-start g c =
    let events = c.args.events.now in
    let rest = take (length events - c.loop-start.start) (drop c.loop-start.start events) in
    let same : rest ≡ drop c.loop-start.start events = take_rest events c.loop-start.start in
    let within : c.chain_len-len.result ≤ length (drop c.loop-start.start events) = subst (λ r. c.chain_len-len.result ≤ length r) same
    (omega (arith, chain_length-within g.E.Event.kind rest, c.chain_len-len.ensures)) in
    omega (arith, within, length-drop c.loop-start.start events)

pub loop-start-smaller : goal.loop-start-smaller
loop-start-smaller g c =
    let events = c.args.events.now in
    let rest = take (length events - c.loop-start.start) (drop c.loop-start.start events) in
    let same : rest ≡ drop c.loop-start.start events = take_rest events c.loop-start.start in
    let more : 0 < length rest = subst (λ r. 0 < length r) (sym same) (omega (arith, length-drop c.loop-start.start events)) in
    omega (arith, chain_length-some g.E.Event.kind rest more, c.chain_len-len.ensures)

pub loop-start-preserved : goal.loop-start-preserved
loop-start-preserved g c =
    let kind = g.E.Event.kind in
    let keeps = g.met.E.Event.keeps in
    let first = g.L.Ledger.journal c.args.ledger.now in
    let journal = g.L.Ledger.journal c.loop-start.ledger in
    let after = g.L.Ledger.journal c.run_chain.new.ledger in
    let before = c.args.before in
    let start = c.loop-start.start in
    let n = c.chain_len-len.result in
    let events = c.args.events.now in
    let rest = take (length events - start) (drop start events) in
    let so_far = c.loop-start.invariant in
    let ran = c.in_ok-run_chain.ensures in
    let same : rest ≡ drop start events = take_rest events start in
    let within : n ≤ length (drop start events) = subst (λ r. n ≤ length r) same
    (omega (arith, chain_length-within kind rest, c.chain_len-len.ensures)) in
    let fits : start + n ≤ length events = omega (arith, within, length-drop start events) in
    let more : 0 < length rest = subst (λ r. 0 < length r) (sym same) (omega (arith, length-drop start events)) in
    let some = chain_length-some kind rest more in
    let whole = chains_step kind first (chains_of kind (placed 0 (before + 1) events)) in
    let long : length (take n rest) ≡ n = first_chain_length kind rest n c.chain_len-len.ensures in
    let one = first_chain_one kind rest n c.chain_len-len.ensures in
    let left = left_more kind journal after before start n events rest c.loop-start.failures.items c.run_chain.new.failures.items whole same
    c.chain_len-len.ensures ran.step so_far.stored so_far.noted in
    record {
      stored = left.0;
      noted = left.1;
      within = fits;
      sound = sound_at_later (before + start + length (take n rest)) (before + (start + n)) after (omega (arith, long)) ran.sound;
      chained = subst AreChained (sym ran.step.stored)
          (chained_one kind keeps journal start (before + start + 1) (take n rest) one (omega (arith, long, some, c.chain_len-len.ensures)) so_far.chained);
      extends = extends_more first journal after so_far.extends ran.goes_on.extends;
      clock = ran.goes_on.clock ∙ so_far.clock;
      kept = ran.goes_on.kept ∙ so_far.kept;
      rest = ran.rest ∙ so_far.rest;
    }

pub returns-in_err-run_chain-clause-goes_on : goal.returns-in_err-run_chain-clause-goes_on
returns-in_err-run_chain-clause-goes_on g c =
    let first = g.L.Ledger.journal c.args.ledger.now in
    let journal = g.L.Ledger.journal c.loop-start.ledger in
    let so_far = c.loop-start.invariant in
    let ran = c.run_chain.ensures.goes_on in
    record {
      extends = extends_more first journal (g.L.Ledger.journal c.run_chain.new.ledger) so_far.extends ran.extends;
      refusal = search rules;
      clock = ran.clock ∙ so_far.clock;
      kept = ran.kept ∙ so_far.kept;
    }

pub returns-clause-stored : goal.returns-clause-stored
returns-clause-stored g c =
    let journal = g.L.Ledger.journal c.loop-start.ledger in
    sym (ap (λ (s : Step). s.journal) (left_none g.E.Event.kind journal c.args.before c.loop-start.start c.args.events.now (omega (arith, c.loop-start-test.false))))
    ∙ c.loop-start.invariant.stored

pub returns-clause-noted : goal.returns-clause-noted
returns-clause-noted g c =
    let journal = g.L.Ledger.journal c.loop-start.ledger in
    let noted = c.loop-start.failures.items in
    let none = left_none g.E.Event.kind journal c.args.before c.loop-start.start c.args.events.now (omega (arith, c.loop-start-test.false)) in
    sym (ap (λ (s : Step). noted ++ s.failures) none ∙ append-nil noted) ∙ c.loop-start.invariant.noted

pub run_chain-requires-clause-sound : goal.run_chain-requires-clause-sound
run_chain-requires-clause-sound g c = c.loop-start.invariant.sound

pub returns-in_err-run_chain-clause-stored : goal.returns-in_err-run_chain-clause-stored
returns-in_err-run_chain-clause-stored g c = IfOk-from_err _ _ c.from_residual.ensures.0

pub returns-in_err-run_chain-clause-noted : goal.returns-in_err-run_chain-clause-noted
returns-in_err-run_chain-clause-noted g c = IfOk-from_err _ _ c.from_residual.ensures.0

pub returns-in_err-run_chain-clause-sound : goal.returns-in_err-run_chain-clause-sound
returns-in_err-run_chain-clause-sound g c = IfOk-from_err _ _ c.from_residual.ensures.0

pub returns-in_err-run_chain-clause-chained : goal.returns-in_err-run_chain-clause-chained
returns-in_err-run_chain-clause-chained g c = IfOk-from_err _ _ c.from_residual.ensures.0

pub returns-in_err-run_chain-clause-rest : goal.returns-in_err-run_chain-clause-rest
returns-in_err-run_chain-clause-rest g c = c.run_chain.ensures.rest ∙ c.loop-start.invariant.rest

pub returns-clause-sound : goal.returns-clause-sound
returns-clause-sound g c =
    sound_at_later (c.args.before + c.loop-start.start) (c.args.before + length c.args.events.now) (g.L.Ledger.journal c.loop-start.ledger)
    (omega (arith, c.loop-start.invariant.within)) c.loop-start.invariant.sound

pub returns-clause-chained : goal.returns-clause-chained
returns-clause-chained g c = c.loop-start.invariant.chained

pub returns-clause-goes_on : goal.returns-clause-goes_on
returns-clause-goes_on g c =
    let so_far = c.loop-start.invariant in
    record { extends = so_far.extends; refusal = tt; clock = so_far.clock; kept = so_far.kept }

pub returns-clause-rest : goal.returns-clause-rest
returns-clause-rest g c = c.loop-start.invariant.rest

pub loop-start-init : goal.loop-start-init
loop-start-init g c =
    let kind = g.E.Event.kind in
    let journal = g.L.Ledger.journal c.args.ledger.now in
    let step : ℕ → Step = λ n. chains_step kind journal (chains_of kind (placed 0 (n + 1) c.args.events.now)) in
    let first : c.args.before + 0 ≡ c.args.before = omega arith in
    record {
      stored = ap (λ n. (step n).journal) first;
      noted = ap (λ noted. noted ++ (step (c.args.before + 0)).failures) c.new-failures.ensures.items ∙ ap (λ n. (step n).failures) first;
      within = omega arith;
      sound = subst (λ n. IsSoundAt n journal) (sym first) c.requires.sound;
      chained = c.requires.chained;
      extends = extends_itself journal;
      clock = refl;
      kept = refl;
      rest = refl;
    }

pub run_chain-requires-clause-size : goal.run_chain-requires-clause-size
run_chain-requires-clause-size g c =
    omega (arith, first_within g.E.Event.kind c.args.events.now c.loop-start.start c.chain_len-len.result c.loop-start-test.true c.chain_len-len.ensures, c.requires.size)

pub run_chain-requires-clause-in_range : goal.run_chain-requires-clause-in_range
run_chain-requires-clause-in_range g c =
    omega (arith, first_within g.E.Event.kind c.args.events.now c.loop-start.start c.chain_len-len.result c.loop-start-test.true c.chain_len-len.ensures, c.requires.in_range)
