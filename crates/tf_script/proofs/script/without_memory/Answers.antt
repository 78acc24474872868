use Rattle.std.proofs.Common.{◌≡◌, ◌+◌, ◌-◌, ◌<◌, length, IsOk, refl, sym, ap, subst, ◌∙◌, arith, length-drop}
use Rattle.std.specs.List.{position_or_len}
use Rattle.std.proofs.lemmas.Bool.Decides.{nat_tests}
use Rattle.tf_records.specs.declared.refusal.Refusal.TheVariants.{NoMemory, BadLine}
use Rattle.tf_script.specs.Lines.{lines_of}
use Rattle.tf_script.specs.Script.{commands_from}
use Rattle.tf_script.specs.CommandViews.{Explains}
use Rattle.tf_script.specs.Reader.LineViews.{statement_view}
use Rattle.tf_script.proofs.ScriptLemmas.{is_feed, commands_from-fault, commands_from-line, commands_from-end, Explains-map}
use Rattle.tf_script.proofs.script.without_memory.Goals as goal

pub returns-in-Err : goal.returns-in-Err
returns-in-Err c =
    let here : 0 < length c.loop-rest.rest.now = grind (arith, nat_tests) in
    rw c.bad_line.ensures
    (c.loop-rest.invariant.explains (BadLine c.loop-rest.number c.in-Err.column)
    (commands_from-fault c.loop-rest.batch c.loop-rest.number c.in-Err.column c.loop-rest.rest.now _ _ here
    c.first_line.ensures.line c.first_line.ensures.rest c.in-Err.ensures.value))

pub loop-rest-preserved : goal.loop-rest-preserved
loop-rest-preserved c =
    let here : 0 < length c.loop-rest.rest.now = grind (arith, nat_tests) in
    let left : length c.first_line.result.1.now ≡ length c.loop-rest.rest.now - (position_or_len is_feed c.loop-rest.rest.now + 1) =
    ap length c.first_line.ensures.rest ∙ length-drop (position_or_len is_feed c.loop-rest.rest.now + 1) c.loop-rest.rest.now in
    record {
      numbered = omega (arith, left, here, c.loop-rest.invariant.numbered);
      explains = λ refusal later. c.loop-rest.invariant.explains refusal
          (subst (Explains refusal)
          (sym (commands_from-line c.loop-rest.batch c.loop-rest.number (statement_view c.in-Ok.statement) c.loop-rest.rest.now _ _ here
          c.first_line.ensures.line c.first_line.ensures.rest c.in-Ok.ensures.value))
          (Explains-map refusal _ _
          (subst (λ opened. Explains refusal (commands_from opened (c.loop-rest.number + 1) (lines_of c.first_line.result.1.now))) c.batch_after-batch.ensures later)));
    }

pub returns-in-None : goal.returns-in-None
returns-in-None c =
    let none : length c.loop-rest.rest.now ≡ 0 = grind (arith, nat_tests) in
    c.loop-rest.invariant.explains NoMemory
    (subst IsOk (sym (commands_from-end c.loop-rest.batch c.loop-rest.number c.loop-rest.rest.now none)) (rw c.in-None.is refl))

pub returns-in-Some : goal.returns-in-Some
returns-in-Some c =
    let none : length c.loop-rest.rest.now ≡ 0 = grind (arith, nat_tests) in
    rw c.bad_line-in-Some.ensures
    (c.loop-rest.invariant.explains (BadLine c.loop-rest.number 1)
    (commands_from-end c.loop-rest.batch c.loop-rest.number c.loop-rest.rest.now none ∙ rw c.in-Some.is refl))
