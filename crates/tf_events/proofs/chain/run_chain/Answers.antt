use Rattle.std.proofs.Common.{◌+◌, ◌-◌, arith, length, sym, take}
use Rattle.tf_events.proofs.Cuts.{length-front, step_closed, step_open}
use Rattle.tf_events.proofs.Stored.{on_ok_map, sound_at_later}
use Rattle.tf_events.proofs.chain.run_chain.Goals as goal

pub returns-then-is_linked-clause-step : goal.returns-then-is_linked-clause-step
returns-then-is_linked-clause-step g c =
    let events = c.args.chain.now in
    let last = c.index-chain-last.result in
    on_ok_map c.run_open_chain.result
    (step_open g.E.Event.kind (g.L.Ledger.journal c.args.ledger.now) (g.L.Ledger.journal c.run_open_chain.new.ledger) c.args.index (c.args.before + 1)
    events last c.args.failures.now.items c.run_open_chain.new.failures.items c.requires.one c.requires.some c.index-chain-last.is (sym c.if-is_linked.ensures))
    (c.run_open_chain.ensures.step (c.args.before + 1 + length (take (length events - 1) events)) last)

pub returns-else-is_linked-clause-step : goal.returns-else-is_linked-clause-step
returns-else-is_linked-clause-step g c =
    on_ok_map c.run_closed_chain.result
    (step_closed g.E.Event.kind (g.L.Ledger.journal c.args.ledger.now) (g.L.Ledger.journal c.run_closed_chain.new.ledger) c.args.index (c.args.before + 1)
    c.args.chain.now c.index-chain-last.result c.args.failures.now.items c.run_closed_chain.new.failures.items
    c.requires.one c.requires.some c.index-chain-last.is (sym c.if-is_linked.ensures))
    c.run_closed_chain.ensures.step

pub run_closed_chain-requires-clause-sound : goal.run_closed_chain-requires-clause-sound
run_closed_chain-requires-clause-sound g c = c.requires.sound

pub run_closed_chain-requires-clause-size : goal.run_closed_chain-requires-clause-size
run_closed_chain-requires-clause-size g c = c.requires.size

pub run_closed_chain-requires-clause-in_range : goal.run_closed_chain-requires-clause-in_range
run_closed_chain-requires-clause-in_range g c = c.requires.in_range

pub run_open_chain-requires-clause-sound : goal.run_open_chain-requires-clause-sound
run_open_chain-requires-clause-sound g c = c.requires.sound

pub run_open_chain-requires-clause-size : goal.run_open_chain-requires-clause-size
run_open_chain-requires-clause-size g c = omega (arith, length-front c.args.chain.now c.requires.some)

pub run_open_chain-requires-clause-in_range : goal.run_open_chain-requires-clause-in_range
run_open_chain-requires-clause-in_range g c = omega (arith, length-front c.args.chain.now c.requires.some)

pub returns-then-is_linked-clause-sound : goal.returns-then-is_linked-clause-sound
returns-then-is_linked-clause-sound g c =
    let events = c.args.chain.now in
    let front = take (length events - 1) events in
    on_ok_map c.run_open_chain.result
    (sound_at_later (c.args.before + length front) (c.args.before + length events) (g.L.Ledger.journal c.run_open_chain.new.ledger) (omega (arith, length-front events c.requires.some)))
    c.run_open_chain.ensures.sound

pub returns-then-is_linked-clause-goes_on : goal.returns-then-is_linked-clause-goes_on
returns-then-is_linked-clause-goes_on g c = c.run_open_chain.ensures.goes_on

pub returns-then-is_linked-clause-rest : goal.returns-then-is_linked-clause-rest
returns-then-is_linked-clause-rest g c = c.run_open_chain.ensures.rest

pub returns-else-is_linked-clause-sound : goal.returns-else-is_linked-clause-sound
returns-else-is_linked-clause-sound g c = c.run_closed_chain.ensures.sound

pub returns-else-is_linked-clause-goes_on : goal.returns-else-is_linked-clause-goes_on
returns-else-is_linked-clause-goes_on g c = c.run_closed_chain.ensures.goes_on

pub returns-else-is_linked-clause-rest : goal.returns-else-is_linked-clause-rest
returns-else-is_linked-clause-rest g c = c.run_closed_chain.ensures.rest
