use Rattle.std.proofs.Common.{sym, ◌∙◌, ap, subst}
use Rattle.tf_table.specs.Content.{entry_at}
use Rattle.tf_manifest.specs.Shows.{Shows}
use Rattle.tf_manifest.specs.View.{ShowsJournal}
use Rattle.tf_rows.specs.Counts.{AreBounded, Sealed}
use Rattle.tf_rows.specs.Next.{content_in}
use Rattle.tf_rows.specs.Parts.{Entries, fresh_in, parts_of}
use Rattle.tf_rows.specs.Spelled.{journal_in}
use Rattle.tf_publish.specs.Tables.{Waits, by_name}
use Rattle.tf_publish.proofs.Sealed.{found_sealed}
use Rattle.tf_publish.proofs.Tables.{listed_back, listed_waits, none_there}
use Rattle.tf_forest.specs.Forest.{View}
use Rattle.tf_forest.proofs.publishing.Forest+Rows+F+A+N+A.facts_of_rows.Goals as goal

pub returns-clause-shows : goal.returns-clause-shows
returns-clause-shows g c =
    let fresh : Entries = g.F.MutableRows.entries c.self.inside.rows.fresh in
    let sealed : Sealed = c.self.inside.rows.published in
    subst (λ (v : View). Shows (content_in (parts_of (by_name v.fresh) v.sealed.tables)) v.journal) c.self.view_is
    (subst (λ (f : Entries). Shows (content_in (parts_of f sealed.tables)) (journal_in (parts_of fresh sealed.tables))) (sym (listed_back fresh)) c.self.invariant.shows.shows)

pub returns-clause-alone : goal.returns-clause-alone
returns-clause-alone g c = λ none.
    let fresh : Entries = g.F.MutableRows.entries c.self.inside.rows.fresh in
    let sealed : Sealed = c.self.inside.rows.published in
    subst (λ (v : View). ShowsJournal v.sealed.tables v.journal) c.self.view_is
    (λ r key. found_sealed fresh sealed.tables r key (sym (ap (entry_at key) (none_there fresh (ap (λ (v : View). v.waiting) c.self.view_is ∙ none) r))) ∙ c.self.invariant.shows.shows r key)

pub returns-clause-waits : goal.returns-clause-waits
returns-clause-waits g c =
    let fresh : Entries = g.F.MutableRows.entries c.self.inside.rows.fresh in
    let sealed : Sealed = c.self.inside.rows.published in
    subst (λ (v : View). Waits v.fresh v.sealed.tables v.needed v.waiting) c.self.view_is
    (listed_waits (fresh_in (parts_of fresh sealed.tables)) sealed.tables)

pub returns-clause-bounded : goal.returns-clause-bounded
returns-clause-bounded g c = subst (λ (v : View). AreBounded v.sealed) c.self.view_is c.counts-counts.ensures.bounded
