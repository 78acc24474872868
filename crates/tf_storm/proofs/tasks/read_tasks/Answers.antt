use Rattle.std.proofs.Common.{◌≡◌, ◌∙◌, [], ◌∷◌, List, ℕ, None, ap, map, subst, arith}
use Rattle.tf_storm.specs.Storm.{StopsReading, first_fault_of}
use Rattle.tf_storm.specs.Tasks.{client_work, work_view}
use Rattle.tf_storm.proofs.Reading.{made_more, sound_more, stops_at}
use Rattle.tf_storm.proofs.tasks.read_tasks.Goals as goal

pub loop-script-preserved : goal.loop-script-preserved
loop-script-preserved c =
    let was = c.loop-script.invariant in
    let within = c.loop-script-test.true in
    let sound = subst (λ (text : List ℕ). first_fault_of (text ∷ []) ≡ None) c.as_slice.ensures.value c.in-Ok.ensures.reading in (
      sound_more (λ s. s.items) c.args.scripts.now c.loop-script.script-index c.script-item.result within c.script-item.is was.0 sound,
      rw c.in-Ok-push.ensures.items
          (made_more (λ w. map work_view w.items) (λ s. client_work s.items) c.loop-script.works.items c.args.scripts.now c.loop-script.script-index c.script-item.result c.in-Ok.work
          within c.script-item.is was.1 (c.in-Ok.ensures.works ∙ ap client_work c.as_slice.ensures.value)),
      omega (arith, c.in-Ok-push.ensures.len, was.2),
    )

pub returns-in-Err-clause-reading : goal.returns-in-Err-clause-reading
returns-in-Err-clause-reading c =
    let stops = subst (λ (text : List ℕ). StopsReading (first_fault_of (text ∷ [])) c.in-Err.fault) c.as_slice.ensures.value c.in-Err.ensures.reading in
    stops_at (λ s. s.items) c.args.scripts.now c.loop-script.script-index c.script-item.result c.loop-script-test.true c.script-item.is c.loop-script.invariant.0 c.in-Err.fault stops
