use Rattle.std.proofs.Common.{◌≡◌, ◌∷◌, [], ◌∙◌, ap, subst, sym}
use Rattle.std.specs.List.{All}
use Rattle.std.specs.Option.{option_map}
use Rattle.std.proofs.lemmas.List.Elements.{All-head}
use Rattle.tf_journal.specs.Ledger.{CanGrow}
use Rattle.tf_events.specs.Chain.{entries_left}
use Rattle.tf_events.specs.Walk.{own_failure_of}
use Rattle.tf_events.proofs.chain.leave.Goals as goal

pub add_entry-requires : goal.add_entry-requires
add_entry-requires g c =
    let kind = g.E.Event.kind in
    let journal = g.L.Ledger.journal c.args.ledger.now in
    let entry = c.in-Some-left_by.entry in
    let only : entry ∷ [] ≡ entries_left kind (option_map own_failure_of c.args.own.now) =
    c.in-Some-left_by.ensures ∙ sym (ap (λ o. entries_left kind (option_map own_failure_of o)) c.in-Some.is) in
    All-head (CanGrow journal) entry [] (subst (All (CanGrow journal)) (sym only) c.requires)
