use Rattle.tf_publish.proofs.OneRow.{few_left, of_row, room_made, stands_still}
use Rattle.tf_publish.proofs.Refused.{err_as, never_full, never_stale, ok_as, ok_as_both}
use Rattle.tf_publish.proofs.Tables.{place_by_merge}
use Rattle.tf_publish.proofs.pushing.merge_in_place.Goals as goal

pub installed-requires-clause-stale : goal.installed-requires-clause-stale
installed-requires-clause-stale g c =
    never_stale c.install.result _ c.install.ensures.stale
    (stands_still {A = g.row.A.Denot} {N = g.row.N.Denot} c.args.next.now.tables c.args.row c.args.job.now c.in-Ok.merged c.requires.picked c.in-Ok.ensures.job)

pub installed-requires-clause-full : goal.installed-requires-clause-full
installed-requires-clause-full g c =
    never_full c.install.result _ _ _ c.install.ensures.full c.requires.limit

pub returns-in-Ok-clause-room : goal.returns-in-Ok-clause-room
returns-in-Ok-clause-room g c =
    let old = c.args.next.now in
    let new = c.install.new.self in
    let of = of_row {A = g.row.A.Denot} {N = g.row.N.Denot} old.tables c.args.row c.args.job.now c.in-Ok.merged c.requires.picked c.in-Ok.ensures.job in
    ok_as c.installed.result c.install.result _ _ c.installed.ensures.same
    (λ installs. room_made c.args.row old.tables new.tables c.in-Ok.merged installs of c.requires.full c.install.ensures.content)
    c.install.ensures.installs

pub returns-in-Ok-clause-few : goal.returns-in-Ok-clause-few
returns-in-Ok-clause-few g c =
    let old = c.args.next.now in
    let new = c.install.new.self in
    let of = of_row {A = g.row.A.Denot} {N = g.row.N.Denot} old.tables c.args.row c.args.job.now c.in-Ok.merged c.requires.picked c.in-Ok.ensures.job in
    ok_as c.installed.result c.install.result _ _ c.installed.ensures.same
    (λ installs. few_left c.args.row old.tables new.tables c.in-Ok.merged installs of c.requires.full)
    c.install.ensures.installs

pub returns-in-Ok-clause-place : goal.returns-in-Ok-clause-place
returns-in-Ok-clause-place g c =
    let old = c.args.next.now in
    let new = c.install.new.self in
    let of = of_row {A = g.row.A.Denot} {N = g.row.N.Denot} old.tables c.args.row c.args.job.now c.in-Ok.merged c.requires.picked c.in-Ok.ensures.job in
    ok_as_both c.installed.result c.install.result _ _ _ c.installed.ensures.same
    (λ installs held. place_by_merge {A = g.row.A.Denot} {N = g.row.N.Denot} c.args.row old new c.args.job.now c.in-Ok.merged c.requires.picked c.in-Ok.ensures.job of c.in-Ok.ensures.merges installs c.requires.full held)
    c.install.ensures.installs c.install.ensures.held

pub returns-in-Ok-clause-err : goal.returns-in-Ok-clause-err
returns-in-Ok-clause-err g c = err_as c.installed.result c.install.result _ c.installed.ensures.same c.install.ensures.err
