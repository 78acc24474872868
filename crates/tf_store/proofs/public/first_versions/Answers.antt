use Rattle.std.proofs.Common.{◌≡◌, List, IfOk, [], sym, subst}
use Rattle.tf_journal.specs.declared.entry.Entry.{Entry}
use Rattle.tf_manifest.specs.View.{ShowsJournal, View}
use Rattle.tf_store.proofs.public.first_versions.Goals as goal

pub owners_of-owners-requires : goal.owners_of-owners-requires
owners_of-owners-requires g c =
    subst (ShowsJournal c.in-Ok.tables) (sym c.requires.empty)
    (subst (λ (v : View). ShowsJournal v []) (sym c.in-Ok.ensures.none) (c.empty_manifests_show_nothing.ensures c.args.registries.now.limit))

pub two_of-requires-clause-versions : goal.two_of-requires-clause-versions
two_of-requires-clause-versions g c =
    subst (λ (l : List Entry). IfOk c.owners_of-owners.result (λ o. (o.0 ≡ l) × ((o.1 ≡ l) × (o.2 ≡ l)))) c.requires.empty c.owners_of-owners.ensures.versions

pub two_of-requires-clause-refusal : goal.two_of-requires-clause-refusal
two_of-requires-clause-refusal g c = c.owners_of-owners.ensures.refusal

pub returns-clause-nothing : goal.returns-clause-nothing
returns-clause-nothing g c = c.two_of.ensures.nothing

pub returns-clause-refusal : goal.returns-clause-refusal
returns-clause-refusal g c = c.two_of.ensures.refusal
