use Rattle.std.proofs.Common.{◌≡◌, ◌<◌, ◌≤◌, ◌∙◌, length, ap, refl, sym, arith}
use Rattle.tf_manifest.specs.declared.jobs.Merged.{Merged}
use Rattle.tf_manifest.specs.declared.jobs.Merged.TheVariants as merged
use Rattle.tf_manifest.proofs.Answered.{answers, whole}
use Rattle.tf_manifest.proofs.Kept.{answered, counted, lighter}
use Rattle.tf_manifest.proofs.manifest.Manifest.put.Goals as goal
use Rattle.tf_manifest.proofs.manifest.Manifest.put.Goals.{in-Ok, in-Err, in-Ok-parted, in-Err-parted, in-Ok-parted-2, in-Err-parted-2, in-Ok-parted-3, in-Err-parted-3, in-Ok-parted-4, in-Err-parted-4, in-Ok-parted-5, in-Err-parted-5, in-Ok-parted-6, in-Err-parted-6, in-Ok-parted-7, in-Err-parted-7}

pub returns-after-parted : goal.returns-after-parted
returns-after-parted g c =
    let is : c.match-parted.result ≡ whole {K = Merged g.row.A.Denot g.row.N.Denot} (λ back. merged.Stamp c.in-Stamp.row back) c.parted.result =
    elim c.match-parted.branch [
      | in-Ok w ↦ w.result-is ∙ ap (whole {K = Merged g.row.A.Denot g.row.N.Denot} (λ back. merged.Stamp c.in-Stamp.row back)) (sym w.in-Ok.is)
      | in-Err w ↦ w.result-is ∙ ap (whole {K = Merged g.row.A.Denot g.row.N.Denot} (λ back. merged.Stamp c.in-Stamp.row back)) (sym w.in-Err.is)
    ] in
    answers {A = g.row.A.Denot} {N = g.row.N.Denot} _ c.args.self.now (merged.Stamp c.in-Stamp.row c.in-Stamp.out) c.args.merged (λ back. merged.Stamp c.in-Stamp.row back) c.index.result c.install.result c.parted.result c.match-parted.result c.install.new.self c.install.new.pushes c.self.view_is c.in-Stamp.is c.index.ensures.place
    record { installs = c.install.ensures.installs; pushed = c.install.ensures.pushed; room = c.install.ensures.room; err = c.install.ensures.err; stale = c.install.ensures.stale; full = c.install.ensures.full; no_memory = c.install.ensures.no_memory; back = c.install.ensures.back }
    c.parted.ensures is refl

pub returns-after-parted-2 : goal.returns-after-parted-2
returns-after-parted-2 g c =
    let is : c.match-parted-2.result ≡ whole {K = Merged g.row.A.Denot g.row.N.Denot} (λ back. merged.Account back) c.parted-in-Account.result =
    elim c.match-parted-2.branch [
      | in-Ok-parted w ↦ w.result-is ∙ ap (whole {K = Merged g.row.A.Denot g.row.N.Denot} (λ back. merged.Account back)) (sym w.in-Ok-parted.is)
      | in-Err-parted w ↦ w.result-is ∙ ap (whole {K = Merged g.row.A.Denot g.row.N.Denot} (λ back. merged.Account back)) (sym w.in-Err-parted.is)
    ] in
    answers {A = g.row.A.Denot} {N = g.row.N.Denot} _ c.args.self.now (merged.Account c.in-Account.out) c.args.merged (λ back. merged.Account back) 0 c.install-in-Account.result c.parted-in-Account.result c.match-parted-2.result c.install-in-Account.new.self c.install-in-Account.new.pushes c.self.view_is c.in-Account.is refl
    record { installs = c.install-in-Account.ensures.installs; pushed = c.install-in-Account.ensures.pushed; room = c.install-in-Account.ensures.room; err = c.install-in-Account.ensures.err; stale = c.install-in-Account.ensures.stale; full = c.install-in-Account.ensures.full; no_memory = c.install-in-Account.ensures.no_memory; back = c.install-in-Account.ensures.back }
    c.parted-in-Account.ensures is refl

pub returns-after-parted-3 : goal.returns-after-parted-3
returns-after-parted-3 g c =
    let is : c.match-parted-3.result ≡ whole {K = Merged g.row.A.Denot g.row.N.Denot} (λ back. merged.Transfer back) c.parted-in-Transfer.result =
    elim c.match-parted-3.branch [
      | in-Ok-parted-2 w ↦ w.result-is ∙ ap (whole {K = Merged g.row.A.Denot g.row.N.Denot} (λ back. merged.Transfer back)) (sym w.in-Ok-parted-2.is)
      | in-Err-parted-2 w ↦ w.result-is ∙ ap (whole {K = Merged g.row.A.Denot g.row.N.Denot} (λ back. merged.Transfer back)) (sym w.in-Err-parted-2.is)
    ] in
    answers {A = g.row.A.Denot} {N = g.row.N.Denot} _ c.args.self.now (merged.Transfer c.in-Transfer.out) c.args.merged (λ back. merged.Transfer back) 0 c.install-in-Transfer.result c.parted-in-Transfer.result c.match-parted-3.result c.install-in-Transfer.new.self c.install-in-Transfer.new.pushes c.self.view_is c.in-Transfer.is refl
    record { installs = c.install-in-Transfer.ensures.installs; pushed = c.install-in-Transfer.ensures.pushed; room = c.install-in-Transfer.ensures.room; err = c.install-in-Transfer.ensures.err; stale = c.install-in-Transfer.ensures.stale; full = c.install-in-Transfer.ensures.full; no_memory = c.install-in-Transfer.ensures.no_memory; back = c.install-in-Transfer.ensures.back }
    c.parted-in-Transfer.ensures is refl

pub returns-after-parted-4 : goal.returns-after-parted-4
returns-after-parted-4 g c =
    let is : c.match-parted-4.result ≡ whole {K = Merged g.row.A.Denot g.row.N.Denot} (λ back. merged.Id back) c.parted-in-Id.result =
    elim c.match-parted-4.branch [
      | in-Ok-parted-3 w ↦ w.result-is ∙ ap (whole {K = Merged g.row.A.Denot g.row.N.Denot} (λ back. merged.Id back)) (sym w.in-Ok-parted-3.is)
      | in-Err-parted-3 w ↦ w.result-is ∙ ap (whole {K = Merged g.row.A.Denot g.row.N.Denot} (λ back. merged.Id back)) (sym w.in-Err-parted-3.is)
    ] in
    answers {A = g.row.A.Denot} {N = g.row.N.Denot} _ c.args.self.now (merged.Id c.in-Id.out) c.args.merged (λ back. merged.Id back) 0 c.install-in-Id.result c.parted-in-Id.result c.match-parted-4.result c.install-in-Id.new.self c.install-in-Id.new.pushes c.self.view_is c.in-Id.is refl
    record { installs = c.install-in-Id.ensures.installs; pushed = c.install-in-Id.ensures.pushed; room = c.install-in-Id.ensures.room; err = c.install-in-Id.ensures.err; stale = c.install-in-Id.ensures.stale; full = c.install-in-Id.ensures.full; no_memory = c.install-in-Id.ensures.no_memory; back = c.install-in-Id.ensures.back }
    c.parted-in-Id.ensures is refl

pub returns-after-parted-5 : goal.returns-after-parted-5
returns-after-parted-5 g c =
    let is : c.match-parted-5.result ≡ whole {K = Merged g.row.A.Denot g.row.N.Denot} (λ back. merged.Unit c.in-Unit.row back) c.parted-in-Unit.result =
    elim c.match-parted-5.branch [
      | in-Ok-parted-4 w ↦ w.result-is ∙ ap (whole {K = Merged g.row.A.Denot g.row.N.Denot} (λ back. merged.Unit c.in-Unit.row back)) (sym w.in-Ok-parted-4.is)
      | in-Err-parted-4 w ↦ w.result-is ∙ ap (whole {K = Merged g.row.A.Denot g.row.N.Denot} (λ back. merged.Unit c.in-Unit.row back)) (sym w.in-Err-parted-4.is)
    ] in
    answers {A = g.row.A.Denot} {N = g.row.N.Denot} _ c.args.self.now (merged.Unit c.in-Unit.row c.in-Unit.out) c.args.merged (λ back. merged.Unit c.in-Unit.row back) c.index-in-Unit.result c.install-in-Unit.result c.parted-in-Unit.result c.match-parted-5.result c.install-in-Unit.new.self c.install-in-Unit.new.pushes c.self.view_is c.in-Unit.is c.index-in-Unit.ensures.place
    record { installs = c.install-in-Unit.ensures.installs; pushed = c.install-in-Unit.ensures.pushed; room = c.install-in-Unit.ensures.room; err = c.install-in-Unit.ensures.err; stale = c.install-in-Unit.ensures.stale; full = c.install-in-Unit.ensures.full; no_memory = c.install-in-Unit.ensures.no_memory; back = c.install-in-Unit.ensures.back }
    c.parted-in-Unit.ensures is refl

pub returns-after-parted-6 : goal.returns-after-parted-6
returns-after-parted-6 g c =
    let is : c.match-parted-6.result ≡ whole {K = Merged g.row.A.Denot g.row.N.Denot} (λ back. merged.State back) c.parted-in-State.result =
    elim c.match-parted-6.branch [
      | in-Ok-parted-5 w ↦ w.result-is ∙ ap (whole {K = Merged g.row.A.Denot g.row.N.Denot} (λ back. merged.State back)) (sym w.in-Ok-parted-5.is)
      | in-Err-parted-5 w ↦ w.result-is ∙ ap (whole {K = Merged g.row.A.Denot g.row.N.Denot} (λ back. merged.State back)) (sym w.in-Err-parted-5.is)
    ] in
    answers {A = g.row.A.Denot} {N = g.row.N.Denot} _ c.args.self.now (merged.State c.in-State.out) c.args.merged (λ back. merged.State back) 0 c.install-in-State.result c.parted-in-State.result c.match-parted-6.result c.install-in-State.new.self c.install-in-State.new.pushes c.self.view_is c.in-State.is refl
    record { installs = c.install-in-State.ensures.installs; pushed = c.install-in-State.ensures.pushed; room = c.install-in-State.ensures.room; err = c.install-in-State.ensures.err; stale = c.install-in-State.ensures.stale; full = c.install-in-State.ensures.full; no_memory = c.install-in-State.ensures.no_memory; back = c.install-in-State.ensures.back }
    c.parted-in-State.ensures is refl

pub returns-after-parted-7 : goal.returns-after-parted-7
returns-after-parted-7 g c =
    let is : c.match-parted-7.result ≡ whole {K = Merged g.row.A.Denot g.row.N.Denot} (λ back. merged.Sums back) c.parted-in-Sums.result =
    elim c.match-parted-7.branch [
      | in-Ok-parted-6 w ↦ w.result-is ∙ ap (whole {K = Merged g.row.A.Denot g.row.N.Denot} (λ back. merged.Sums back)) (sym w.in-Ok-parted-6.is)
      | in-Err-parted-6 w ↦ w.result-is ∙ ap (whole {K = Merged g.row.A.Denot g.row.N.Denot} (λ back. merged.Sums back)) (sym w.in-Err-parted-6.is)
    ] in
    answers {A = g.row.A.Denot} {N = g.row.N.Denot} _ c.args.self.now (merged.Sums c.in-Sums.out) c.args.merged (λ back. merged.Sums back) 0 c.install-in-Sums.result c.parted-in-Sums.result c.match-parted-7.result c.install-in-Sums.new.self c.install-in-Sums.new.pushes c.self.view_is c.in-Sums.is refl
    record { installs = c.install-in-Sums.ensures.installs; pushed = c.install-in-Sums.ensures.pushed; room = c.install-in-Sums.ensures.room; err = c.install-in-Sums.ensures.err; stale = c.install-in-Sums.ensures.stale; full = c.install-in-Sums.ensures.full; no_memory = c.install-in-Sums.ensures.no_memory; back = c.install-in-Sums.ensures.back }
    c.parted-in-Sums.ensures is refl

pub returns-after-parted-8 : goal.returns-after-parted-8
returns-after-parted-8 g c =
    let is : c.match-parted-8.result ≡ whole {K = Merged g.row.A.Denot g.row.N.Denot} (λ back. merged.Status back) c.parted-in-Status.result =
    elim c.match-parted-8.branch [
      | in-Ok-parted-7 w ↦ w.result-is ∙ ap (whole {K = Merged g.row.A.Denot g.row.N.Denot} (λ back. merged.Status back)) (sym w.in-Ok-parted-7.is)
      | in-Err-parted-7 w ↦ w.result-is ∙ ap (whole {K = Merged g.row.A.Denot g.row.N.Denot} (λ back. merged.Status back)) (sym w.in-Err-parted-7.is)
    ] in
    answers {A = g.row.A.Denot} {N = g.row.N.Denot} _ c.args.self.now (merged.Status c.in-Status.out) c.args.merged (λ back. merged.Status back) 0 c.install-in-Status.result c.parted-in-Status.result c.match-parted-8.result c.install-in-Status.new.self c.install-in-Status.new.pushes c.self.view_is c.in-Status.is refl
    record { installs = c.install-in-Status.ensures.installs; pushed = c.install-in-Status.ensures.pushed; room = c.install-in-Status.ensures.room; err = c.install-in-Status.ensures.err; stale = c.install-in-Status.ensures.stale; full = c.install-in-Status.ensures.full; no_memory = c.install-in-Status.ensures.no_memory; back = c.install-in-Status.ensures.back }
    c.parted-in-Status.ensures is refl

pub invariant_of-self-in-Unit : goal.invariant_of-self-in-Unit
invariant_of-self-in-Unit g c =
    let light = c.self.invariant.0 in
    let rows = c.self.invariant.1 in
    let below = c.index-in-Unit.ensures.below in
    let installs = c.install-in-Unit.ensures in
    let was = c.self.inside.pushes in
    let now = c.install-in-Unit.new.pushes in
    let within : c.index-in-Unit.result < length c.self.inside.units = omega (arith, below, rows.units) in
    let more : was.count ≤ now.count = counted was now c.install-in-Unit.result _ installs.pushed installs.err in (
      record {
        stamps = lighter was.count now.count c.self.inside.stamps more light.stamps;
        accounts = lighter was.count now.count c.self.inside.accounts more light.accounts;
        transfers = lighter was.count now.count c.self.inside.transfers more light.transfers;
        ids = lighter was.count now.count c.self.inside.ids more light.ids;
        units = answered was now c.self.inside.units c.index-in-Unit.result c.in-Unit.out c.install-in-Unit.result c.install-in-Unit.new.self within installs.installs installs.pushed installs.err light.units;
        states = lighter was.count now.count c.self.inside.states more light.states;
        sums = lighter was.count now.count c.self.inside.sums more light.sums;
        statuses = lighter was.count now.count c.self.inside.statuses more light.statuses;
      },
      record {
        stamps = rows.stamps;
        accounts = rows.accounts;
        transfers = rows.transfers;
        ids = rows.ids;
        units = installs.count ∙ rows.units;
        states = rows.states;
        sums = rows.sums;
        statuses = rows.statuses;
      },
    )

pub invariant_of-self : goal.invariant_of-self
invariant_of-self g c =
    let light = c.self.invariant.0 in
    let rows = c.self.invariant.1 in
    let installs = c.install.ensures in
    let was = c.self.inside.pushes in
    let now = c.install.new.pushes in
    let within : c.index.result < length c.self.inside.stamps = omega (arith, c.index.ensures.below, rows.stamps) in
    let more : was.count ≤ now.count = counted was now c.install.result _ installs.pushed installs.err in (
      record {
        stamps = answered was now c.self.inside.stamps c.index.result c.in-Stamp.out c.install.result c.install.new.self within installs.installs installs.pushed installs.err light.stamps;
        accounts = lighter was.count now.count c.self.inside.accounts more light.accounts;
        transfers = lighter was.count now.count c.self.inside.transfers more light.transfers;
        ids = lighter was.count now.count c.self.inside.ids more light.ids;
        units = lighter was.count now.count c.self.inside.units more light.units;
        states = lighter was.count now.count c.self.inside.states more light.states;
        sums = lighter was.count now.count c.self.inside.sums more light.sums;
        statuses = lighter was.count now.count c.self.inside.statuses more light.statuses;
      },
      record {
        stamps = installs.count ∙ rows.stamps;
        accounts = rows.accounts;
        transfers = rows.transfers;
        ids = rows.ids;
        units = rows.units;
        states = rows.states;
        sums = rows.sums;
        statuses = rows.statuses;
      },
    )

pub invariant_of-self-in-Account : goal.invariant_of-self-in-Account
invariant_of-self-in-Account g c =
    let light = c.self.invariant.0 in
    let rows = c.self.invariant.1 in
    let installs = c.install-in-Account.ensures in
    let was = c.self.inside.pushes in
    let now = c.install-in-Account.new.pushes in
    let within : 0 < length c.self.inside.accounts = omega (arith, rows.accounts) in
    let more : was.count ≤ now.count = counted was now c.install-in-Account.result _ installs.pushed installs.err in (
      record {
        stamps = lighter was.count now.count c.self.inside.stamps more light.stamps;
        accounts = answered was now c.self.inside.accounts 0 c.in-Account.out c.install-in-Account.result c.install-in-Account.new.self within installs.installs installs.pushed installs.err light.accounts;
        transfers = lighter was.count now.count c.self.inside.transfers more light.transfers;
        ids = lighter was.count now.count c.self.inside.ids more light.ids;
        units = lighter was.count now.count c.self.inside.units more light.units;
        states = lighter was.count now.count c.self.inside.states more light.states;
        sums = lighter was.count now.count c.self.inside.sums more light.sums;
        statuses = lighter was.count now.count c.self.inside.statuses more light.statuses;
      },
      record {
        stamps = rows.stamps;
        accounts = installs.count ∙ rows.accounts;
        transfers = rows.transfers;
        ids = rows.ids;
        units = rows.units;
        states = rows.states;
        sums = rows.sums;
        statuses = rows.statuses;
      },
    )

pub invariant_of-self-in-Transfer : goal.invariant_of-self-in-Transfer
invariant_of-self-in-Transfer g c =
    let light = c.self.invariant.0 in
    let rows = c.self.invariant.1 in
    let installs = c.install-in-Transfer.ensures in
    let was = c.self.inside.pushes in
    let now = c.install-in-Transfer.new.pushes in
    let within : 0 < length c.self.inside.transfers = omega (arith, rows.transfers) in
    let more : was.count ≤ now.count = counted was now c.install-in-Transfer.result _ installs.pushed installs.err in (
      record {
        stamps = lighter was.count now.count c.self.inside.stamps more light.stamps;
        accounts = lighter was.count now.count c.self.inside.accounts more light.accounts;
        transfers = answered was now c.self.inside.transfers 0 c.in-Transfer.out c.install-in-Transfer.result c.install-in-Transfer.new.self within installs.installs installs.pushed installs.err light.transfers;
        ids = lighter was.count now.count c.self.inside.ids more light.ids;
        units = lighter was.count now.count c.self.inside.units more light.units;
        states = lighter was.count now.count c.self.inside.states more light.states;
        sums = lighter was.count now.count c.self.inside.sums more light.sums;
        statuses = lighter was.count now.count c.self.inside.statuses more light.statuses;
      },
      record {
        stamps = rows.stamps;
        accounts = rows.accounts;
        transfers = installs.count ∙ rows.transfers;
        ids = rows.ids;
        units = rows.units;
        states = rows.states;
        sums = rows.sums;
        statuses = rows.statuses;
      },
    )

pub invariant_of-self-in-Id : goal.invariant_of-self-in-Id
invariant_of-self-in-Id g c =
    let light = c.self.invariant.0 in
    let rows = c.self.invariant.1 in
    let installs = c.install-in-Id.ensures in
    let was = c.self.inside.pushes in
    let now = c.install-in-Id.new.pushes in
    let within : 0 < length c.self.inside.ids = omega (arith, rows.ids) in
    let more : was.count ≤ now.count = counted was now c.install-in-Id.result _ installs.pushed installs.err in (
      record {
        stamps = lighter was.count now.count c.self.inside.stamps more light.stamps;
        accounts = lighter was.count now.count c.self.inside.accounts more light.accounts;
        transfers = lighter was.count now.count c.self.inside.transfers more light.transfers;
        ids = answered was now c.self.inside.ids 0 c.in-Id.out c.install-in-Id.result c.install-in-Id.new.self within installs.installs installs.pushed installs.err light.ids;
        units = lighter was.count now.count c.self.inside.units more light.units;
        states = lighter was.count now.count c.self.inside.states more light.states;
        sums = lighter was.count now.count c.self.inside.sums more light.sums;
        statuses = lighter was.count now.count c.self.inside.statuses more light.statuses;
      },
      record {
        stamps = rows.stamps;
        accounts = rows.accounts;
        transfers = rows.transfers;
        ids = installs.count ∙ rows.ids;
        units = rows.units;
        states = rows.states;
        sums = rows.sums;
        statuses = rows.statuses;
      },
    )

pub invariant_of-self-in-State : goal.invariant_of-self-in-State
invariant_of-self-in-State g c =
    let light = c.self.invariant.0 in
    let rows = c.self.invariant.1 in
    let installs = c.install-in-State.ensures in
    let was = c.self.inside.pushes in
    let now = c.install-in-State.new.pushes in
    let within : 0 < length c.self.inside.states = omega (arith, rows.states) in
    let more : was.count ≤ now.count = counted was now c.install-in-State.result _ installs.pushed installs.err in (
      record {
        stamps = lighter was.count now.count c.self.inside.stamps more light.stamps;
        accounts = lighter was.count now.count c.self.inside.accounts more light.accounts;
        transfers = lighter was.count now.count c.self.inside.transfers more light.transfers;
        ids = lighter was.count now.count c.self.inside.ids more light.ids;
        units = lighter was.count now.count c.self.inside.units more light.units;
        states = answered was now c.self.inside.states 0 c.in-State.out c.install-in-State.result c.install-in-State.new.self within installs.installs installs.pushed installs.err light.states;
        sums = lighter was.count now.count c.self.inside.sums more light.sums;
        statuses = lighter was.count now.count c.self.inside.statuses more light.statuses;
      },
      record {
        stamps = rows.stamps;
        accounts = rows.accounts;
        transfers = rows.transfers;
        ids = rows.ids;
        units = rows.units;
        states = installs.count ∙ rows.states;
        sums = rows.sums;
        statuses = rows.statuses;
      },
    )

pub invariant_of-self-in-Sums : goal.invariant_of-self-in-Sums
invariant_of-self-in-Sums g c =
    let light = c.self.invariant.0 in
    let rows = c.self.invariant.1 in
    let installs = c.install-in-Sums.ensures in
    let was = c.self.inside.pushes in
    let now = c.install-in-Sums.new.pushes in
    let within : 0 < length c.self.inside.sums = omega (arith, rows.sums) in
    let more : was.count ≤ now.count = counted was now c.install-in-Sums.result _ installs.pushed installs.err in (
      record {
        stamps = lighter was.count now.count c.self.inside.stamps more light.stamps;
        accounts = lighter was.count now.count c.self.inside.accounts more light.accounts;
        transfers = lighter was.count now.count c.self.inside.transfers more light.transfers;
        ids = lighter was.count now.count c.self.inside.ids more light.ids;
        units = lighter was.count now.count c.self.inside.units more light.units;
        states = lighter was.count now.count c.self.inside.states more light.states;
        sums = answered was now c.self.inside.sums 0 c.in-Sums.out c.install-in-Sums.result c.install-in-Sums.new.self within installs.installs installs.pushed installs.err light.sums;
        statuses = lighter was.count now.count c.self.inside.statuses more light.statuses;
      },
      record {
        stamps = rows.stamps;
        accounts = rows.accounts;
        transfers = rows.transfers;
        ids = rows.ids;
        units = rows.units;
        states = rows.states;
        sums = installs.count ∙ rows.sums;
        statuses = rows.statuses;
      },
    )

pub invariant_of-self-in-Status : goal.invariant_of-self-in-Status
invariant_of-self-in-Status g c =
    let light = c.self.invariant.0 in
    let rows = c.self.invariant.1 in
    let installs = c.install-in-Status.ensures in
    let was = c.self.inside.pushes in
    let now = c.install-in-Status.new.pushes in
    let within : 0 < length c.self.inside.statuses = omega (arith, rows.statuses) in
    let more : was.count ≤ now.count = counted was now c.install-in-Status.result _ installs.pushed installs.err in (
      record {
        stamps = lighter was.count now.count c.self.inside.stamps more light.stamps;
        accounts = lighter was.count now.count c.self.inside.accounts more light.accounts;
        transfers = lighter was.count now.count c.self.inside.transfers more light.transfers;
        ids = lighter was.count now.count c.self.inside.ids more light.ids;
        units = lighter was.count now.count c.self.inside.units more light.units;
        states = lighter was.count now.count c.self.inside.states more light.states;
        sums = lighter was.count now.count c.self.inside.sums more light.sums;
        statuses = answered was now c.self.inside.statuses 0 c.in-Status.out c.install-in-Status.result c.install-in-Status.new.self within installs.installs installs.pushed installs.err light.statuses;
      },
      record {
        stamps = rows.stamps;
        accounts = rows.accounts;
        transfers = rows.transfers;
        ids = rows.ids;
        units = rows.units;
        states = rows.states;
        sums = rows.sums;
        statuses = installs.count ∙ rows.statuses;
      },
    )
