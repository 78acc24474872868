use Rattle.std.proofs.Common.{sym, ◌∙◌}
use Rattle.std.specs.Option.{option_copied}
use Rattle.tf_table.specs.Span.{timestamps}
use Rattle.tf_scan.specs.declared.place.Place.TheVariants.{Open}
use Rattle.tf_scan.specs.Place.{first_in, nearest_in}
use Rattle.tf_scan.proofs.Taking.{is_same, is_other, take-past-none, take-past, behind-none, behind-takes, head-entry, head-takes}
use Rattle.tf_scan.proofs.place.Place.take.Goals as goal

pub returns-then-ne-clause-entry : goal.returns-then-ne-clause-entry
returns-then-ne-clause-entry g c =
    sym (take-past-none c.args.direction c.args.value c.args.self.now c.args.timestamp c.requires.right c.requires.nearest
    (is_other c.nearest.result (nearest_in c.args.direction c.args.self.now) c.args.timestamp c.ne.result c.nearest.ensures c.ne.ensures c.if-ne.true))

pub returns-then-ne-clause-taken : goal.returns-then-ne-clause-taken
returns-then-ne-clause-taken g c =
    take-past c.args.direction c.args.value c.args.self.now c.args.timestamp c.requires.right c.requires.nearest
    (is_other c.nearest.result (nearest_in c.args.direction c.args.self.now) c.args.timestamp c.ne.result c.nearest.ensures c.ne.ensures c.if-ne.true)

pub returns-then-ne-2-clause-entry : goal.returns-then-ne-2-clause-entry
returns-then-ne-2-clause-entry g c =
    sym (behind-none c.args.direction c.args.value c.args.self.now (Open c.in-Open.rows) c.args.timestamp c.requires.right (sym c.in-Open.is ∙ c.open.ensures)
    (is_same c.nearest.result (nearest_in c.args.direction c.args.self.now) c.args.timestamp c.ne.result c.nearest.ensures c.ne.ensures c.if-ne.false)
    (is_other c.first_timestamp.result (first_in c.args.direction (timestamps c.in-Open.rows)) c.args.timestamp c.ne-2.result c.first_timestamp.ensures c.ne-2.ensures c.if-ne-2.true))

pub returns-then-ne-2-clause-taken : goal.returns-then-ne-2-clause-taken
returns-then-ne-2-clause-taken g c =
    behind-takes c.args.direction c.args.value c.args.self.now (Open c.in-Open.rows) c.args.timestamp c.requires.right (sym c.in-Open.is ∙ c.open.ensures)
    (is_same c.nearest.result (nearest_in c.args.direction c.args.self.now) c.args.timestamp c.ne.result c.nearest.ensures c.ne.ensures c.if-ne.false)
    (is_other c.first_timestamp.result (first_in c.args.direction (timestamps c.in-Open.rows)) c.args.timestamp c.ne-2.result c.first_timestamp.ensures c.ne-2.ensures c.if-ne-2.true)

pub returns-clause-entry : goal.returns-clause-entry
returns-clause-entry g c =
    head-entry c.args.direction c.args.value c.args.self.now (c.in_ok-_key._key.now, option_copied c.in_ok-_key.entry) c.in-Open.rows c.first.new.rows c.args.timestamp c.requires.right (sym c.in-Open.is ∙ c.open.ensures) c.in_ok-_key.ensures
    (is_same c.first_timestamp.result (first_in c.args.direction (timestamps c.in-Open.rows)) c.args.timestamp c.ne-2.result c.first_timestamp.ensures c.ne-2.ensures c.if-ne-2.false)

pub returns-clause-taken : goal.returns-clause-taken
returns-clause-taken g c =
    head-takes c.args.direction c.args.value c.args.self.now (c.in_ok-_key._key.now, option_copied c.in_ok-_key.entry) c.in-Open.rows c.first.new.rows c.args.timestamp c.requires.right (sym c.in-Open.is ∙ c.open.ensures) c.in_ok-_key.ensures
    (is_same c.first_timestamp.result (first_in c.args.direction (timestamps c.in-Open.rows)) c.args.timestamp c.ne-2.result c.first_timestamp.ensures c.ne-2.ensures c.if-ne-2.false)
