use Rattle.std.proofs.Common.{◌≡◌, ℕ, ◌+◌, ◌<◌, ◌^◌, length, sym, ◌∙◌, ap, subst, arith}
use Rattle.tf_registry.specs.Install.{IfNoMemory, OnFull, OnStale}
use Rattle.tf_manifest.specs.Jobs.{InstallsIn, StandsIn, output_of}
use Rattle.tf_manifest.specs.View.{View as Tables, content_in}
use Rattle.tf_rows.specs.Counts.{Counted, PushesMore, all_references}
use Rattle.tf_publish.proofs.Bounds.{counted_install, more_by_install, none_more}
use Rattle.tf_publish.proofs.Measures.{installed_references}
use Rattle.tf_publish.proofs.counted.CountedTables.install.Goals as goal

pub invariant_of-self : goal.invariant_of-self
invariant_of-self g c =
    let old : Counted = record { tables = c.self.inside.manifest; sealed = c.self.inside.sealed; held = c.self.inside.held } in
    let fits : c.entries-entries.result < 2 ^ 64 = omega arith in
    counted_install {A = g.row.A.Denot} {N = g.row.N.Denot} old c.install.new.self c.args.merged c.in-Ok.ensures.installs c.entries-entries.result c.entries-entries.ensures fits c.self.invariant

pub returns-in-Ok-clause-installs : goal.returns-in-Ok-clause-installs
returns-in-Ok-clause-installs g c =
    subst (λ (v : Counted). InstallsIn {A = g.row.A.Denot} {N = g.row.N.Denot} v.tables c.args.merged c.install.new.self) c.self.view_is c.in-Ok.ensures.installs

pub returns-in-Ok-clause-content : goal.returns-in-Ok-clause-content
returns-in-Ok-clause-content g c = λ row key. c.in-Ok.ensures.content row key ∙ ap (λ (v : Counted). content_in v.tables row key) c.self.view_is

pub returns-in-Ok-clause-room : goal.returns-in-Ok-clause-room
returns-in-Ok-clause-room g c = subst (λ (v : Counted). v.tables.pushed.count < v.tables.pushed.limit) c.self.view_is c.in-Ok.ensures.room

pub returns-in-Ok-clause-held : goal.returns-in-Ok-clause-held
returns-in-Ok-clause-held g c =
    ap (λ (n : ℕ). c.self.inside.held + n) c.entries-entries.ensures.entries
    ∙ ap (λ (v : Counted). v.held + length (output_of {A = g.row.A.Denot} {N = g.row.N.Denot} c.args.merged).table.rows) c.self.view_is

pub returns-in-Ok-clause-sealed : goal.returns-in-Ok-clause-sealed
returns-in-Ok-clause-sealed g c = ap (λ (v : Counted). v.sealed) c.self.view_is

pub returns-in-Ok-clause-few : goal.returns-in-Ok-clause-few
returns-in-Ok-clause-few g c =
    installed_references {A = g.row.A.Denot} {N = g.row.N.Denot} c.self.inside.manifest c.install.new.self c.args.merged c.in-Ok.ensures.installs
    ∙ ap (λ (v : Counted). all_references v.tables) c.self.view_is

pub returns-in-Ok-clause-more : goal.returns-in-Ok-clause-more
returns-in-Ok-clause-more g c =
    let old : Counted = record { tables = c.self.inside.manifest; sealed = c.self.inside.sealed; held = c.self.inside.held } in
    let new : Counted = record { tables = c.install.new.self; sealed = c.self.inside.sealed; held = c.self.inside.held + c.entries-entries.result } in
    let fits : c.entries-entries.result < 2 ^ 64 = omega arith in
    subst (λ (v : Counted). PushesMore v new) c.self.view_is
    (more_by_install {A = g.row.A.Denot} {N = g.row.N.Denot} old c.install.new.self c.args.merged c.in-Ok.ensures.installs c.entries-entries.result c.entries-entries.ensures fits)

pub returns-in-Err-clause-content : goal.returns-in-Err-clause-content
returns-in-Err-clause-content g c =
    λ row key. c.in-Err.ensures.content row key ∙ ap (λ (v : Counted). content_in v.tables row key) c.self.view_is

pub returns-in-Err-clause-sealed : goal.returns-in-Err-clause-sealed
returns-in-Err-clause-sealed g c = ap (λ (v : Counted). v.sealed) c.self.view_is

pub returns-in-Err-clause-more : goal.returns-in-Err-clause-more
returns-in-Err-clause-more g c =
    let same = ap (λ (t : Tables). record { tables = t; sealed = c.self.inside.sealed; held = c.self.inside.held }) c.in-Err.ensures.err ∙ c.self.view_is in
    subst (PushesMore c.args.self.now) (sym same) (none_more c.args.self.now)

pub returns-in-Err-clause-err : goal.returns-in-Err-clause-err
returns-in-Err-clause-err g c =
    ap (λ (t : Tables). record { tables = t; sealed = c.self.inside.sealed; held = c.self.inside.held }) c.in-Err.ensures.err ∙ c.self.view_is

pub returns-in-Err-clause-stale : goal.returns-in-Err-clause-stale
returns-in-Err-clause-stale g c =
    subst (λ (v : Counted). OnStale c.in-Err.refused (StandsIn v.tables c.args.merged → ⊥)) c.self.view_is c.in-Err.ensures.stale

pub returns-in-Err-clause-full : goal.returns-in-Err-clause-full
returns-in-Err-clause-full g c =
    subst (λ (v : Counted). OnFull c.in-Err.refused (StandsIn v.tables c.args.merged × (v.tables.pushed.count ≡ v.tables.pushed.limit))) c.self.view_is c.in-Err.ensures.full

pub returns-in-Err-clause-no_memory : goal.returns-in-Err-clause-no_memory
returns-in-Err-clause-no_memory g c =
    subst (λ (v : Counted). IfNoMemory c.in-Err.refused (λ m. StandsIn v.tables c.args.merged × (v.tables.pushed.count < v.tables.pushed.limit))) c.self.view_is c.in-Err.ensures.no_memory

pub returns-in-Err-clause-back : goal.returns-in-Err-clause-back
returns-in-Err-clause-back g c = c.in-Err.ensures.back
