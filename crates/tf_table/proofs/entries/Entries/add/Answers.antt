use Rattle.std.proofs.Common.{arith, sym, ◌∙◌, subst}
use Rattle.std.proofs.lemmas.Bool.{false≢true}
use Rattle.tf_table.specs.Entries.{HaveNoValue}
use Rattle.tf_table.proofs.Stored.{spread_has_value}
use Rattle.tf_table.proofs.entries.Entries.add.Goals as goal

pub returns-in_ok-spread-in-Same-clause-stored : goal.returns-in_ok-spread-in-Same-clause-stored
returns-in_ok-spread-in-Same-clause-stored g c = (
  c.in_ok-spread-in-Same.ensures.room,
  λ none. spread_has_value c.args.rows c.in-Same.same c.args.entry.now (omega arith)
      (λ same last. false≢true (sym c.if-not-is_repeated.true ∙ c.is_repeated.ensures.tombstones same last)) (subst HaveNoValue c.in_ok-spread-in-Same.ensures.items none),
)
