use Rattle.std.proofs.Common.{◌≡◌, None, map, take, vec_len}
use Rattle.tf_storm.specs.Storm.{first_fault_of}
use Rattle.tf_storm.specs.Tasks.{client_work, work_view}
use Rattle.tf_storm.proofs.tasks.read_tasks.Given as goal

abbrev pub invariant-loop-script : goal.invariant-loop-script
invariant-loop-script l = (first_fault_of (map (λ s. s.items) (take l.script-index l.scripts)) ≡ None)
    × (map (λ w. map work_view w.items) l.works.items ≡ map (λ s. client_work s.items) (take l.script-index l.scripts))
    × (vec_len l.works ≡ l.script-index)
