use Rattle.std.proofs.Common.{◌≡◌, false, ap, subst}
use Rattle.tf_table.specs.Span.{HasSpan, timestamps}
use Rattle.tf_scan.specs.Order.{is_before}
use Rattle.tf_scan.specs.Sets.{is_among}
use Rattle.tf_scan.proofs.Entries.{entry-absent, entry-outside}
use Rattle.tf_scan.proofs.Taking.{ends-rising, ends-falling}
use Rattle.tf_scan.proofs.place.ends_before.Goals as goal

pub returns-in-Some-Rising : goal.returns-in-Some-Rising
returns-in-Some-Rising g c = λ b v u n.
    let span = c.in-Some-Rising.span in
    entry-outside v span u c.args.table.now c.in-Some-Rising.ensures (ends-rising span c.args.timestamp u b (subst (λ d. is_before d u c.args.timestamp ≡ false) c.in-Some-Rising.is-1 n))

pub returns-in-Some-Falling : goal.returns-in-Some-Falling
returns-in-Some-Falling g c = λ b v u n.
    let span = c.in-Some-Falling.span in
    entry-outside v span u c.args.table.now c.in-Some-Falling.ensures (ends-falling span c.args.timestamp u b (subst (λ d. is_before d u c.args.timestamp ≡ false) c.in-Some-Falling.is-1 n))

pub returns-in-None-default : goal.returns-in-None-default
returns-in-None-default g c = λ b v u n.
    entry-absent v u c.args.table.now (ap (is_among u) (subst (λ span. HasSpan span (timestamps c.args.table.now)) c.in-None-default.is-0 c.span.ensures))
