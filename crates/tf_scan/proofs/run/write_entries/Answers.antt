use Rattle.std.proofs.Common.{◌≡◌, [], ◌∷◌, sym, ◌∙◌, arith, length, subst}
use Rattle.tf_table.specs.Content.{values_of}
use Rattle.tf_table.specs.Span.{timestamps}
use Rattle.tf_scan.specs.Run.{AreWritten}
use Rattle.tf_scan.proofs.Keys.{taken-long}
use Rattle.tf_scan.proofs.Paired.{entries-none, entries-more}
use Rattle.tf_scan.proofs.run.write_entries.Goals as goal

pub loop-to-init : goal.loop-to-init
loop-to-init g c = record {
  written = entries-none c.args.direction c.args.turn.until c.args.from c.args.keys.now c.args.entries.now c.args.out.now c.requires.room;
  paired = c.requires.paired;
  many = omega arith;
}

pub loop-to-preserved : goal.loop-to-preserved
loop-to-preserved g c =
    let d = c.args.direction in
    let key = c.in-Some.key.now in
    let entry = c.in-Some-split_first.entry.now in
    let keys = taken-long d key c.loop-to.left_keys.now c.in-Some.other_keys.now c.in-Some.ensures in
    let entries = taken-long d entry c.loop-to.left_entries.now c.in-Some-split_first.other_entries.now c.in-Some-split_first.ensures in
    let paired : length c.in-Some.other_keys.now ≡ length c.in-Some-split_first.other_entries.now = omega (arith, keys, entries, c.loop-to.invariant.paired) in
    let row = subst (λ e. AreWritten (timestamps (values_of ((key, e) ∷ []))) c.loop-to.to c.write_row-to.result c.loop-to.out c.write_row-to.new.out) c.as_ref.ensures.value c.write_row-to.ensures in
    record {
      written =
          entries-more d c.args.turn.until c.args.from c.args.keys.now c.args.entries.now c.loop-to.to c.write_row-to.result c.loop-to.passed key entry c.loop-to.left_keys.now c.in-Some.other_keys.now c.loop-to.left_entries.now c.in-Some-split_first.other_entries.now c.args.out.now c.loop-to.out c.write_row-to.new.out
          c.loop-to.invariant.written paired c.in-Some.ensures c.in-Some-split_first.ensures (sym c.has-is_in_turn.ensures ∙ c.if-not-is_in_turn.false) row;
      paired = paired;
      many = omega (arith, keys, c.loop-to.invariant.many);
    }

pub loop-to-smaller : goal.loop-to-smaller
loop-to-smaller g c = omega (arith, taken-long c.args.direction c.in-Some.key.now c.loop-to.left_keys.now c.in-Some.other_keys.now c.in-Some.ensures)

pub overflow_add-passed : goal.overflow_add-passed
overflow_add-passed g c = omega (arith, taken-long c.args.direction c.in-Some.key.now c.loop-to.left_keys.now c.in-Some.other_keys.now c.in-Some.ensures, c.loop-to.invariant.many)
