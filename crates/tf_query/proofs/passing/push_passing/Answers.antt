use Rattle.std.proofs.Common.{◌++◌, ◌∙◌, ap, arith, get_or, length, refl, rules, sym}
use Rattle.std.specs.List.{filter_map}
use Rattle.std.specs.Option.{option_and_then}
use Rattle.std.proofs.lemmas.List.{take_all}
use Rattle.tf_registry.specs.Row.{content_at}
use Rattle.tf_manifest.specs.declared.kind.Kind.TheVariants as kind
use Rattle.tf_manifest.specs.Rows.{key_of}
use Rattle.tf_manifest.specs.View.{View, tables_by}
use Rattle.tf_look_ups.specs.Reads.{stored_record}
use Rattle.tf_query.specs.Residual.{passed, passing_in}
use Rattle.tf_look_ups.proofs.Found.{more-behind}
use Rattle.tf_query.proofs.Testing.{enough}
use Rattle.tf_query.proofs.passing.push_passing.Goals as goal

pub loop-timestamp-preserved : goal.loop-timestamp-preserved
loop-timestamp-preserved g c =
    let t = get_or c.args.timestamps.now c.loop-timestamp.timestamp-index 0 in
    let found = c.passing-found.ensures ∙ ap (option_and_then (passed c.args.residual.now)) (c.found_transfer.ensures.found ∙ ap (λ tables. stored_record (content_at (key_of 0 t) tables)) c.loop-timestamp.invariant.tables) in
    record {
      found = more-behind (passing_in c.args.manifest.now c.args.residual.now) c.args.timestamps.now c.loop-timestamp.timestamp-index 0 _ _ _ _ (omega arith) found c.push_record.ensures.items c.loop-timestamp.invariant.found;
      tables = c.found_transfer.ensures.same ∙ c.loop-timestamp.invariant.tables;
      few = omega (arith, c.push_record.ensures.len, c.loop-timestamp.invariant.few);
      short = omega (arith, c.push_record.ensures.len, c.loop-timestamp.invariant.short);
      room = c.push_record.ensures.room ∙ c.loop-timestamp.invariant.room;
    }

pub returns-then-len-most-clause-items : goal.returns-then-len-most-clause-items
returns-then-len-most-clause-items g c = enough (passing_in c.args.manifest.now c.args.residual.now) c.args.most c.args.timestamps.now c.loop-timestamp.timestamp-index c.loop-timestamp.rows.items _ (omega arith) c.loop-timestamp.invariant.found

pub row-requires : goal.row-requires
row-requires g c = omega (arith, c.manifest.invariant.1.transfers)

pub loop-timestamp-init : goal.loop-timestamp-init
loop-timestamp-init g c = record {
  found = search rules;
  tables = c.new-transfers.ensures ∙ c.row.ensures.row ∙ ap (λ (v : View). tables_by v kind.Transfer) c.manifest.view_is;
  few = c.requires.few;
  short = omega arith;
  room = refl;
}

pub push_record-requires : goal.push_record-requires
push_record-requires g c = omega (arith, c.len.ensures, c.if-len-most.false, c.requires.room, c.loop-timestamp.invariant.few, c.loop-timestamp.invariant.short, c.loop-timestamp.invariant.room)

pub returns-then-len-most-clause-room : goal.returns-then-len-most-clause-room
returns-then-len-most-clause-room g c = c.loop-timestamp.invariant.room

pub returns-clause-items : goal.returns-clause-items
returns-clause-items g c =
    let passing = passing_in c.args.manifest.now c.args.residual.now in
    let all = c.loop-timestamp.invariant.found ∙ ap (λ ts. c.args.rows.now.items ++ filter_map passing ts) (take_all c.loop-timestamp.timestamp-index c.args.timestamps.now c.loop-timestamp-test.false) in
    all ∙ sym (take_all c.args.most _ (omega (arith, ap length all, c.loop-timestamp.rows.ok.0, c.loop-timestamp.invariant.few)))

pub returns-clause-room : goal.returns-clause-room
returns-clause-room g c = c.loop-timestamp.invariant.room
