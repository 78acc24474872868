use Rattle.std.proofs.Common.{◌≡◌, ◌-◌, length, get_or, Option, arith, ap, sym, ◌∙◌}
use Rattle.std.specs.Ordering.{is_lt}
use Rattle.std.proofs.lemmas.Option.{slice_get-get_or, same_Some}
use Rattle.tf_table.specs.declared.key.Key.{Key}
use Rattle.tf_table.specs.Key.{key_cmp}
use Rattle.tf_table.proofs.Keys.{keys_total, exact_keys}
use Rattle.tf_mutable.proofs.Sorting.{rising-push}
use Rattle.tf_mutable.proofs.log.ends_below.Goals as goal

pub returns-in-Some : goal.returns-in-Some
returns-in-Some g c = λ entry below.
    let rows = c.args.rows.now in
    rising-push key_cmp keys_total exact_keys rows (c.args.key.now, entry) c.requires (λ d l.
    let last : get_or rows (length rows - 1) d ≡ c.in-Some.last.now = same_Some (get_or rows (length rows - 1) d) c.in-Some.last.now (sym (slice_get-get_or rows (length rows - 1) d (omega arith)) ∙ sym c.in-Some.ensures.value) in
    ap (λ (r : Key × Option g.row.V.Denot). is_lt (key_cmp r.0 c.args.key.now)) last ∙ sym (ap is_lt c.cmp.ensures) ∙ sym c.is_lt.ensures ∙ below)
