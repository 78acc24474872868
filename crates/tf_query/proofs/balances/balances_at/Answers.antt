use Rattle.std.proofs.Common.{◌≡◌, arith, ◌∙◌, ap, get_or}
use Rattle.std.specs.List.{filter_map}
use Rattle.std.specs.Option.{option_copied, option_map}
use Rattle.std.proofs.lemmas.List.{take_all}
use Rattle.tf_registry.specs.Row.{content_at}
use Rattle.tf_manifest.specs.declared.kind.Kind.TheVariants as kind
use Rattle.tf_manifest.specs.Rows.{key_of}
use Rattle.tf_manifest.specs.View.{View, tables_by}
use Rattle.tf_look_ups.specs.Reads.{balance_by, balance_in, stored_record, sums_in}
use Rattle.tf_look_ups.proofs.Found.{more-found}
use Rattle.tf_query.proofs.balances.balances_at.Goals as goal

pub loop-timestamp-preserved : goal.loop-timestamp-preserved
loop-timestamp-preserved g c =
    let timestamp = get_or c.args.timestamps.now c.loop-timestamp.timestamp-index 0 in
    let read : option_copied c.found_sums-found.result ≡ sums_in c.args.manifest.now c.args.account_id timestamp =
    c.found_sums-found.ensures.found ∙ ap (λ tables. stored_record (content_at (key_of c.args.account_id timestamp) tables)) c.loop-timestamp.invariant.tables in
    record {
      found = more-found (balance_in c.args.manifest.now c.args.account_id) c.args.timestamps.now c.loop-timestamp.timestamp-index _ _ _ _ (omega arith) (ap (option_map (balance_by timestamp)) read) c.push_balance.ensures.items c.loop-timestamp.invariant.found;
      few = omega (arith, c.push_balance.ensures.len, c.loop-timestamp.invariant.few);
      tables = c.found_sums-found.ensures.same ∙ c.loop-timestamp.invariant.tables;
      room = c.push_balance.ensures.room ∙ c.loop-timestamp.invariant.room;
    }

pub row-requires : goal.row-requires
row-requires g c = omega (arith, c.manifest.invariant.1.sums)

pub loop-timestamp-init : goal.loop-timestamp-init
loop-timestamp-init g c = record {
  found = c.in-Ok.ensures.items;
  few = omega (arith, c.in-Ok.ensures.len);
  tables = c.new-sums.ensures ∙ c.row.ensures.row ∙ ap (λ (v : View). tables_by v kind.Sums) c.manifest.view_is;
  room = c.in-Ok.ensures.exact;
}

pub push_balance-requires : goal.push_balance-requires
push_balance-requires g c = omega (arith, c.loop-timestamp-test.true, c.loop-timestamp.invariant.few, c.loop-timestamp.invariant.room)

pub returns-clause-ok : goal.returns-clause-ok
returns-clause-ok g c = c.loop-timestamp.invariant.found ∙ ap (filter_map (balance_in c.args.manifest.now c.args.account_id)) (take_all c.loop-timestamp.timestamp-index c.args.timestamps.now c.loop-timestamp-test.false)

pub returns-clause-room : goal.returns-clause-room
returns-clause-room g c = c.loop-timestamp.invariant.room

pub returns-clause-refusal : goal.returns-clause-refusal
returns-clause-refusal g c = tt
