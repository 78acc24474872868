use Rattle.std.proofs.Common.{◌≡◌, [], ◌∷◌, ◌++◌, length, length-append, Option, refl, ap, subst, sym, ◌∙◌, arith}
use Rattle.std.proofs.lemmas.Bool.{cond-true}
use Rattle.tf_table.specs.declared.key.Key.{Key}
use Rattle.tf_table.specs.Key.{key_cmp}
use Rattle.tf_table.proofs.Keys.{exact_keys, keys_total}
use Rattle.tf_mutable.specs.Mutable.{in_order}
use Rattle.tf_mutable.proofs.Logged.{rising-in_order}
use Rattle.tf_mutable_rows.specs.Hashed.{key_of, keyed}
use Rattle.tf_mutable_rows.proofs.Gathered.{AreAmong, among-push, are_all}
use Rattle.tf_mutable_rows.proofs.Hashing.{counted_in_order, equal_keys, found_in_order, hashed_eq}
use Rattle.tf_mutable_rows.proofs.hashed.sealed_in_time.Goals as goal

pub loop-timestamp-preserved : goal.loop-timestamp-preserved
loop-timestamp-preserved g c =
    let key = key_of c.new.result in
    let row : Key × Option g.row.V.Denot = (key, c.in-Some.entry.now) in
    let rows = c.loop-timestamp.draft.rows in
    let kept = in_order (keyed c.args.rows.now.entries) in
    let put : c.add.new.self.rows ≡ rows ++ row ∷ [] =
    c.in_ok-add.ensures.rows ∙ cond-true c.in_ok-add.field-0 _ _ c.if-not-branch.false ∙ ap (λ k. rows ++ (k, c.in-Some.entry.now) ∷ []) (sym c.new.ensures) in
    record {
      rows = omega (arith, ap length put, length-append rows (row ∷ []), c.loop-timestamp.invariant.rows);
      room = c.in_ok-add.ensures.room ∙ c.loop-timestamp.invariant.room;
      among = subst (λ now. AreAmong key_cmp keys_total exact_keys now kept) (sym put)
          (among-push key_cmp keys_total exact_keys rows row kept c.loop-timestamp.invariant.among
          (sym (c.in-Some.ensures.value ∙ found_in_order hashed_eq equal_keys c.new.result key c.args.rows.now.entries refl)));
    }

pub returns : goal.returns
returns g c =
    let entries = c.args.rows.now.entries in
    c.in_ok-seal.ensures.sealed
    ∙ are_all key_cmp keys_total exact_keys c.loop-timestamp.draft.rows (in_order (keyed entries)) c.in_ok-seal.ensures.rising (rising-in_order key_cmp keys_total exact_keys (keyed entries)) c.loop-timestamp.invariant.among
    (omega (arith, c.loop-timestamp.invariant.rows, c.len.ensures.len, counted_in_order hashed_eq equal_keys entries c.len.ensures.unique))
