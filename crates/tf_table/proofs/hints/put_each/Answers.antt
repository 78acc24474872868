use Rattle.std.proofs.Common.{take, ◌∙◌, subst, arith}
use Rattle.std.proofs.lemmas.List.{take_all}
use Rattle.std.proofs.lemmas.List.Elements.{All-more, All-weaker}
use Rattle.tf_table.specs.declared.key.Key.{Key}
use Rattle.tf_table.specs.Filter.{Holds, HoldsEach}
use Rattle.tf_table.proofs.hints.put_each.Goals as goal

pub loop-key-preserved : goal.loop-key-preserved
loop-key-preserved g c =
    let keys = c.args.keys.now in
    let i = c.loop-key.key-index in
    let old = c.loop-key.words.items in
    let new = c.put.new.words.items in
    record {
      held = All-more (λ (key : Key). Holds new c.args.filter_words key.value) keys i _ (omega arith)
          (All-weaker (λ (key : Key). Holds old c.args.filter_words key.value) (λ (key : Key). Holds new c.args.filter_words key.value) (λ key h. c.put.ensures.others key.value h) (take i keys) c.loop-key.invariant.held) c.put.ensures.value;
      words = c.put.ensures.length ∙ c.loop-key.invariant.words;
    }

pub returns-clause-held : goal.returns-clause-held
returns-clause-held g c =
    let keys = c.args.keys.now in
    subst (HoldsEach c.loop-key.words.items c.args.filter_words) (take_all c.loop-key.key-index keys (omega arith)) c.loop-key.invariant.held
