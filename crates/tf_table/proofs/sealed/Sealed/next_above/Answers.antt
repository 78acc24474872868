use Rattle.std.proofs.Common.{◌≡◌, length, get_or, List, Option, true, false, arith, ap, sym, ◌∙◌, subst}
use Rattle.std.specs.List.{slice_get}
use Rattle.std.specs.Ordering.{is_gt}
use Rattle.tf_table.specs.declared.key.Key.{Key}
use Rattle.tf_table.specs.Key.{key_cmp}
use Rattle.tf_table.specs.Content.{entry_at}
use Rattle.tf_table.specs.First.{IsFirstAbove}
use Rattle.tf_table.proofs.First.{first_laid, item_read}
use Rattle.tf_table.proofs.sealed.Sealed.next_above.Goals as goal

pub returns : goal.returns
returns g c =
    let t = c.self.inside in
    let keys = t.keys.items in
    let key = c.args.key.now in
    let p = c.count_upto-behind.result in
    let same : c.deref.result.now ≡ keys = c.deref.ensures.value in
    subst (λ (rows : List (Key × Option g.row.V.Denot)). IsFirstAbove key (λ found. entry_at found rows) c.copied.result) c.self.view_is
    (first_laid key keys t.entries p c.copied.result c.self.invariant.laid.paired c.self.invariant.laid.rising (omega (arith, ap length same, c.count_upto-behind.ensures.within))
    (λ q d e. subst (λ (ks : List Key). is_gt (key_cmp (get_or ks q d) key) ≡ false) same (c.count_upto-behind.ensures.before q d e))
    (λ d l. subst (λ (ks : List Key). is_gt (key_cmp (get_or ks p d) key) ≡ true) same (c.count_upto-behind.ensures.after d (omega (arith, ap length same))))
    (ap (λ (ks : List Key). slice_get ks p) (sym c.deref-2.ensures.value) ∙ sym (item_read c.deref-2.result.now p c.get.result c.get.ensures.lookup) ∙ sym c.copied.ensures))
