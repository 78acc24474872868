use Rattle.std.proofs.Common.{ap, ◌∙◌}
use Rattle.std.proofs.lemmas.List.{take_all}
use Rattle.tf_journal.specs.Balances.{balances_of}
use Rattle.tf_journal.proofs.RunningSums.{balances_more, grows_on, sound_part}
use Rattle.tf_journal.proofs.balances.balances.Goals as goal

pub balances_after-sums-requires : goal.balances_after-sums-requires
balances_after-sums-requires c = record {
  before = c.loop-i.invariant;
  sound = sound_part c.args.entries.now c.loop-i.i c.requires;
  grows = grows_on c.args.entries.now c.loop-i.i _ c.requires c.loop-i-test.true;
}

pub loop-i-preserved : goal.loop-i-preserved
loop-i-preserved c = balances_more c.args.entries.now c.loop-i.i c.args.id _ c.balances_after-sums.result c.loop-i-test.true c.balances_after-sums.ensures

pub returns : goal.returns
returns c = c.loop-i.invariant ∙ ap (λ j. balances_of j c.args.id) (take_all c.loop-i.i c.args.entries.now c.loop-i-test.false)
