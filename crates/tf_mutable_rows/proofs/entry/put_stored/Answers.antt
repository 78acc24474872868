use Rattle.std.proofs.Common.{◌≡◌, List, Option, Result, Ok, Err, IfOk, OnOk, refl, sym, subst}
use Rattle.std.specs.Option.{IsSome, option_map}
use Rattle.std.proofs.lemmas.Result.{on_ok_weaker}
use Rattle.tf_sorted.specs.Rows.{IsRising, with_row}
use Rattle.tf_table.specs.Content.{entry_at}
use Rattle.tf_table.specs.Key.{key_cmp}
use Rattle.tf_table.specs.declared.key.Key.{Key}
use Rattle.tf_manifest.specs.declared.value.Value.{Value}
use Rattle.tf_mutable.specs.Mutable.{given_back}
use Rattle.tf_rows.specs.Parts.{seen_rows}
use Rattle.tf_rows.proofs.Parts.{put-seen, restored-seen, there-put}
use Rattle.tf_mutable_rows.proofs.entry.put_stored.Goals as goal

both_ok : {X E : Type 0} (r : Result X E) (P : Type 0) (Q R : X → Type 0) → (P → (x : X) → Q x → R x) → OnOk r P → IfOk r Q → IfOk r R
both_ok (Ok x) P Q R f p q = f p x q
both_ok (Err e) P Q R f p q = tt

-- what is stored, as any row may have it
module _ {V : Type 0} (seen : V → Value) (key : Key) (stored : Option V) (old new : List (Key × Option V)) (is : new ≡ with_row key_cmp key stored old) where
  seen_so : seen_rows seen new ≡ with_row key_cmp key (option_map seen stored) (seen_rows seen old)
  seen_so = put-seen seen key stored (option_map seen stored) old new is refl

  seen_there : IsSome (entry_at key (seen_rows seen new))
  seen_there = subst (λ (rows : List (Key × Option Value)). IsSome (entry_at key rows)) (sym seen_so) (there-put key (option_map seen stored) (seen_rows seen old))

  seen_back : (before : Option (Option V)) → IsRising key_cmp old → before ≡ entry_at key old → given_back key (option_map (option_map seen) before) (seen_rows seen new) ≡ seen_rows seen old
  seen_back before rising was = restored-seen seen key (option_map seen stored) before (option_map (option_map seen) before) old new seen_so rising was refl

pub returns-clause-rows : goal.returns-clause-rows
returns-clause-rows g c =
    on_ok_weaker c.put.result (seen_so g.V.RowValue.seen c.args.key c.args.stored (g.M.MutableTable.rows c.args.table.now) (g.M.MutableTable.rows c.put.new.self)) c.put.ensures.rows

pub returns-clause-there : goal.returns-clause-there
returns-clause-there g c =
    on_ok_weaker c.put.result (seen_there g.V.RowValue.seen c.args.key c.args.stored (g.M.MutableTable.rows c.args.table.now) (g.M.MutableTable.rows c.put.new.self)) c.put.ensures.rows

pub returns-clause-restores : goal.returns-clause-restores
returns-clause-restores g c =
    both_ok c.put.result _ _ _
    (λ is before was. seen_back g.V.RowValue.seen c.args.key c.args.stored (g.M.MutableTable.rows c.args.table.now) (g.M.MutableTable.rows c.put.new.self) is before c.len-rows.ensures.rising was)
    c.put.ensures.rows c.put.ensures.before
