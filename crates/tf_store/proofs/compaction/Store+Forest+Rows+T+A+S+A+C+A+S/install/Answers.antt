use Rattle.std.proofs.Common.{◌≡◌, ◌∙◌, ◌+◌, ◌<◌, length, subst, ap, IfErr, OnOk}
use Rattle.std.specs.Prelude.{map}
use Rattle.tf_registry.specs.Install.{IfNoMemory, OnFull, OnStale}
use Rattle.tf_manifest.specs.Jobs.{InstallsIn, StandsIn, output_of}
use Rattle.tf_store.specs.Receipt.{receipt_of}
use Rattle.tf_store.specs.Store.{View}
use Rattle.tf_store.proofs.compaction.Store+Forest+Rows+T+A+S+A+C+A+S.install.Goals as goal

pub returns-clause-journal : goal.returns-clause-journal
returns-clause-journal g c = c.install.ensures.journal ∙ ap (λ (v : View). v.forest.journal) c.self.view_is

pub returns-clause-clock_kept : goal.returns-clause-clock_kept
returns-clause-clock_kept g c = c.install.ensures.clock_kept ∙ ap (λ (v : View). v.forest.clock) c.self.view_is

pub returns-clause-length_kept : goal.returns-clause-length_kept
returns-clause-length_kept g c = c.install.ensures.length_kept ∙ ap (λ (v : View). v.forest.kept) c.self.view_is

pub returns-clause-entries : goal.returns-clause-entries
returns-clause-entries g c =
    (c.install.ensures.entries.0 ∙ ap (λ (v : View). v.forest.fresh) c.self.view_is, c.install.ensures.entries.1 ∙ ap (λ (v : View). v.forest.waiting) c.self.view_is)

pub returns-clause-waiting : goal.returns-clause-waiting
returns-clause-waiting g c =
    ap (λ l. map (receipt_of l) c.self.inside.queue.waiting) c.install.ensures.journal ∙ ap (λ (v : View). v.waiting) c.self.view_is

pub returns-clause-readable : goal.returns-clause-readable
returns-clause-readable g c = ap (λ (v : View). v.readable) c.self.view_is

pub returns-clause-counts : goal.returns-clause-counts
returns-clause-counts g c =
    subst (λ (v : View). OnOk c.install.result (c.install.new.self.sealed.counts ≡ record v.forest.sealed.counts { rows_held = v.forest.sealed.counts.rows_held + length (output_of c.args.merged).table.rows }))
    c.self.view_is c.install.ensures.counts

pub returns-clause-installs : goal.returns-clause-installs
returns-clause-installs g c =
    subst (λ (v : View). OnOk c.install.result (InstallsIn v.forest.sealed.tables c.args.merged c.install.new.self.sealed.tables)) c.self.view_is c.install.ensures.installs

pub returns-clause-stale : goal.returns-clause-stale
returns-clause-stale g c =
    subst (λ (v : View). IfErr c.install.result (λ e. OnStale e (StandsIn v.forest.sealed.tables c.args.merged → ⊥))) c.self.view_is c.install.ensures.stale

pub returns-clause-full : goal.returns-clause-full
returns-clause-full g c =
    subst (λ (v : View). IfErr c.install.result (λ e. OnFull e (StandsIn v.forest.sealed.tables c.args.merged × (v.forest.sealed.tables.pushed.count ≡ v.forest.sealed.tables.pushed.limit))))
    c.self.view_is c.install.ensures.full

pub returns-clause-no_memory : goal.returns-clause-no_memory
returns-clause-no_memory g c =
    subst (λ (v : View). IfErr c.install.result (λ e. IfNoMemory e (λ m. StandsIn v.forest.sealed.tables c.args.merged × (v.forest.sealed.tables.pushed.count < v.forest.sealed.tables.pushed.limit))))
    c.self.view_is c.install.ensures.no_memory

pub returns-clause-room : goal.returns-clause-room
returns-clause-room g c =
    subst (λ (v : View). OnOk c.install.result (v.forest.sealed.tables.pushed.count < v.forest.sealed.tables.pushed.limit)) c.self.view_is c.install.ensures.room

pub returns-clause-back : goal.returns-clause-back
returns-clause-back g c = c.install.ensures.back
