use Rattle.std.proofs.Common.{◌≡◌, IfSome, Some, subst}
use Rattle.std.specs.Option.{option_copied}
use Rattle.tf_table.specs.Content.{entry_of}
use Rattle.tf_registry.specs.Row.{lists_of}
use Rattle.tf_query.specs.Walk.{AreComing}
use Rattle.tf_query.proofs.walk.Walk.next_entry.Goals as goal

pub invariant_of-self-2 : goal.invariant_of-self-2
invariant_of-self-2 g c =
    let lists = lists_of c.self.inside.references.now in
    c.entry.ensures.known lists (subst (λ o. IfSome o (λ coming. AreComing lists coming.part coming.keys.now coming.entries.now)) c.in-Some.is c.self.invariant)

pub returns-clause-found : goal.returns-clause-found
returns-clause-found g c =
    let lists = lists_of c.self.inside.references.now in
    subst (λ tables. IfSome c.entry.result (λ entry. entry_of c.args.key.now (lists_of tables) ≡ Some (option_copied entry))) c.self.view_is
    (c.entry.ensures.found lists (subst (λ o. IfSome o (λ coming. AreComing lists coming.part coming.keys.now coming.entries.now)) c.in-Some.is c.self.invariant))
