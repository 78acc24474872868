use Rattle.std.proofs.Common.{◌≡◌, ◌+◌, ◌-◌, ◌<◌, ◌++◌, false, true≢false, Result, Ok, Err, is_err, OnOk, length, sym, ap, subst, ◌∙◌, arith, length-drop}
use Rattle.std.specs.List.{position_or_len}
use Rattle.std.proofs.lemmas.Bool.Decides.{nat_tests}
use Rattle.tf_script.specs.Lines.{lines_of}
use Rattle.tf_script.specs.Statements.{◌<&>◌, statement_of}
use Rattle.tf_script.specs.Script.{with_line, commands_from, script_of}
use Rattle.tf_script.specs.CommandViews.{commands_of}
use Rattle.tf_script.specs.Reader.LineViews.{CanStand, statement_view}
use Rattle.tf_script.specs.Reader.Reading.{batch_of, resumed, Adds}
use Rattle.tf_script.proofs.ScriptLemmas.{is_feed, commands_from-fault, commands_from-line, then-nothing, then-map}
use Rattle.tf_script.proofs.script.parse.Goals as goal

-- what is known where no memory was refused
added : {X E : Type 0} (answer : Result X E) (P : Type 0) → is_err answer ≡ false → OnOk answer P → P
added (Ok x) P h adds = adds
added (Err e) P h adds = absurd (true≢false h)

pub loop-rest-init : goal.loop-rest-init
unfolding script_of
loop-rest-init g c = record {
  numbered = omega arith;
  read = then-nothing _ _ (λ commands. ap (λ items. commands_of items ++ commands) c.new.ensures.items);
}

pub returns-in-Err : goal.returns-in-Err
returns-in-Err g c =
    let here : 0 < length c.loop-rest.rest.now = grind (arith, nat_tests) in
    let fault : Err c.in-Err.column ≡ statement_of (batch_of c.loop-rest.reading.unfinished) c.first_line.result.0.now =
    c.in-Err.ensures.value ∙ ap (λ batch. statement_of batch c.first_line.result.0.now) c.batch-batch.ensures in
    rw c.bad_line.ensures
    (sym c.loop-rest.invariant.read
    ∙ ap (λ answer. answer <&> resumed c.loop-rest.reading)
    (commands_from-fault (batch_of c.loop-rest.reading.unfinished) c.loop-rest.number c.in-Err.column c.loop-rest.rest.now _ _ here
    c.first_line.ensures.line c.first_line.ensures.rest fault))

pub loop-rest-preserved : goal.loop-rest-preserved
loop-rest-preserved g c =
    let old = c.loop-rest.reading in
    let new = c.add.new.self in
    let statement = statement_view c.in-Ok.statement in
    let adds : Adds old new statement = added c.add.result (Adds old new statement) (sym c.is_err.ensures.value ∙ c.if-is_err.false) c.add.ensures in
    let here : 0 < length c.loop-rest.rest.now = grind (arith, nat_tests) in
    let means : Ok statement ≡ statement_of (batch_of old.unfinished) c.first_line.result.0.now =
    c.in-Ok.ensures.value ∙ ap (λ batch. statement_of batch c.first_line.result.0.now) c.batch-batch.ensures in
    let left : length c.first_line.result.1.now ≡ length c.loop-rest.rest.now - (position_or_len is_feed c.loop-rest.rest.now + 1) =
    ap length c.first_line.ensures.rest ∙ length-drop (position_or_len is_feed c.loop-rest.rest.now + 1) c.loop-rest.rest.now in
    record {
      numbered = omega (arith, left, here, c.loop-rest.invariant.numbered);
      read =
          then-map _ (with_line (batch_of old.unfinished) statement) (resumed old) (resumed new) adds.commands
          ∙ ap (λ opened. (commands_from opened (c.loop-rest.number + 1) (lines_of c.first_line.result.1.now) <&> with_line (batch_of old.unfinished) statement) <&> resumed old) adds.batch
          ∙ sym (ap (λ answer. answer <&> resumed old)
          (commands_from-line (batch_of old.unfinished) c.loop-rest.number statement c.loop-rest.rest.now _ _ here
          c.first_line.ensures.line c.first_line.ensures.rest means))
          ∙ c.loop-rest.invariant.read;
    }

pub add-requires : goal.add-requires
add-requires g c = subst (λ batch. CanStand batch c.in-Ok.statement) c.batch-batch.ensures c.in-Ok.ensures.placed
