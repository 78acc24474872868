use Rattle.std.proofs.Common.{◌≡◌, ◌+◌, ◌∙◌, ◌++◌, ◌∷◌, [], ap, arith, length, refl, subst, sym}
use Rattle.std.proofs.lemmas.List.{drop_all}
use Rattle.std.proofs.lemmas.List.Elements.{All-nil}
use Rattle.tf_journal.specs.Lawful.{IsAdmitted}
use Rattle.tf_events.specs.Batch.{placed}
use Rattle.tf_events.specs.Chain.{first_failure, with_events}
use Rattle.tf_events.specs.Walk.{Extends, IsSoundAt}
use Rattle.tf_events.proofs.Stored.{accepted_grows, accepted_more, accepted_sound, extends_itself, extends_push, placed-all, sound_at_later}
use Rattle.tf_events.proofs.chain.store_events.Goals as goal

pub add_entry-requires : goal.add_entry-requires
add_entry-requires g c =
    accepted_grows g.E.Event.kind g.met.E.Event.keeps (c.args.before + c.loop-i.i) (g.L.Ledger.journal c.loop-i.ledger)
    (c.args.before + 1 + c.loop-i.i) c.index-events-i.result c.in-Ok.entry c.loop-i.invariant.sound c.in-Ok.ensures.ok (omega arith) (omega arith)

pub loop-i-preserved : goal.loop-i-preserved
loop-i-preserved g c =
    let kind = g.E.Event.kind in
    let journal = g.L.Ledger.journal c.loop-i.ledger in
    let after = g.L.Ledger.journal c.add_entry.new.ledger in
    let timestamp = c.args.before + 1 + c.loop-i.i in
    let so_far = c.loop-i.invariant in
    let added = c.in_ok-add_entry-in-Ok.ensures.addition in
    let more = accepted_more kind journal after c.args.index (c.args.before + 1) c.loop-i.i c.args.events.now c.index-events-i.result c.in-Ok.entry
    (omega arith) c.index-events-i.is c.in-Ok.ensures.ok added.ok in
    let sound = accepted_sound kind g.met.E.Event.keeps (c.args.before + c.loop-i.i) journal timestamp c.index-events-i.result c.in-Ok.entry
    so_far.sound c.in-Ok.ensures.ok (omega arith) (omega arith) in
    record {
      first = more.0 ∙ so_far.first;
      stored = more.1 ∙ so_far.stored;
      sound = subst (IsSoundAt (c.args.before + (c.loop-i.i + 1))) (sym added.ok)
          (sound_at_later timestamp (c.args.before + (c.loop-i.i + 1)) (journal ++ c.in-Ok.entry ∷ []) (omega arith) sound);
      extends = subst (Extends (g.L.Ledger.journal c.args.ledger.now)) (sym added.ok)
          (extends_push (g.L.Ledger.journal c.args.ledger.now) journal c.in-Ok.entry so_far.extends);
      clock = added.clock ∙ so_far.clock;
      kept = added.kept ∙ so_far.kept;
      rest = c.in_ok-add_entry-in-Ok.ensures.rest ∙ so_far.rest;
    }

pub returns-in-Err-clause-goes_on : goal.returns-in-Err-clause-goes_on
returns-in-Err-clause-goes_on g c =
    let so_far = c.loop-i.invariant in
    record { extends = so_far.extends; refusal = tt; clock = so_far.clock; kept = so_far.kept }

pub returns-in-Err-clause-rest : goal.returns-in-Err-clause-rest
returns-in-Err-clause-rest g c = c.loop-i.invariant.rest

pub returns-clause-goes_on : goal.returns-clause-goes_on
returns-clause-goes_on g c =
    let so_far = c.loop-i.invariant in
    record { extends = so_far.extends; refusal = tt; clock = so_far.clock; kept = so_far.kept }

pub returns-clause-rest : goal.returns-clause-rest
returns-clause-rest g c = c.loop-i.invariant.rest

pub loop-i-init : goal.loop-i-init
loop-i-init g c =
    let kind = g.E.Event.kind in
    let journal = g.L.Ledger.journal c.args.ledger.now in
    let all = placed-all c.args.index (c.args.before + 1) c.args.events.now in
    let first : c.args.before + 0 ≡ c.args.before = omega arith in
    record {
      first = ap (first_failure kind journal) all;
      stored = ap (with_events kind journal) all;
      sound = subst (λ n. IsSoundAt n journal) (sym first) c.requires.sound;
      extends = extends_itself journal;
      clock = refl;
      kept = refl;
      rest = refl;
    }

pub returns-in-Err-clause-after : goal.returns-in-Err-clause-after
returns-in-Err-clause-after g c = omega arith

pub returns-in-Err-clause-within : goal.returns-in-Err-clause-within
returns-in-Err-clause-within g c = omega arith

pub returns-in-Err-clause-sound : goal.returns-in-Err-clause-sound
returns-in-Err-clause-sound g c =
    sound_at_later (c.args.before + c.loop-i.i) (c.args.before + length c.args.events.now) (g.L.Ledger.journal c.loop-i.ledger) (omega arith) c.loop-i.invariant.sound

pub returns-clause-own : goal.returns-clause-own
returns-clause-own g c =
    ap (λ es. first_failure g.E.Event.kind (g.L.Ledger.journal c.loop-i.ledger) (placed (c.args.index + c.loop-i.i) (c.args.before + 1 + c.loop-i.i) es))
    (sym (drop_all c.loop-i.i c.args.events.now c.loop-i-test.false)) ∙ c.loop-i.invariant.first

pub returns-clause-stored : goal.returns-clause-stored
returns-clause-stored g c =
    λ none. ap (λ es. with_events g.E.Event.kind (g.L.Ledger.journal c.loop-i.ledger) (placed (c.args.index + c.loop-i.i) (c.args.before + 1 + c.loop-i.i) es))
    (sym (drop_all c.loop-i.i c.args.events.now c.loop-i-test.false)) ∙ c.loop-i.invariant.stored

pub returns-clause-left : goal.returns-clause-left
returns-clause-left g c = All-nil (IsAdmitted (g.L.Ledger.journal c.args.ledger.now))

pub returns-clause-after : goal.returns-clause-after
returns-clause-after g c = tt

pub returns-clause-within : goal.returns-clause-within
returns-clause-within g c = tt

pub returns-clause-sound : goal.returns-clause-sound
returns-clause-sound g c =
    sound_at_later (c.args.before + c.loop-i.i) (c.args.before + length c.args.events.now) (g.L.Ledger.journal c.loop-i.ledger) (omega arith) c.loop-i.invariant.sound
