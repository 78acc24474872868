use Rattle.std.proofs.Common.{◌∙◌, ap, sym}
use Rattle.std.proofs.lemmas.Bool.{false≢true}
use Rattle.tf_table.specs.Content.{entry_at}
use Rattle.tf_table.proofs.Found.{entry_at-unheld}
use Rattle.tf_table.proofs.sealed.Sealed.may_have.Goals as goal

pub returns-else-may_hold : goal.returns-else-may_hold
returns-else-may_hold g c absent =
    let t = c.self.inside in
    sym (ap (entry_at c.args.key.now) c.self.view_is)
    ∙ entry_at-unheld t.hints.words.items t.hints.filter_words c.args.key.now t.keys.items t.entries c.self.invariant.held (λ held. false≢true (sym c.if-may_hold.false ∙ c.may_hold.ensures.held held))
