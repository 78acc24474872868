use Rattle.std.proofs.Common.{◌≡◌, ◌+◌, List, Option, Some, None, take, slice_get, sym, ◌∙◌, ap, add-one, arith}
use Rattle.std.specs.Option.{option_copied}
use Rattle.std.proofs.lemmas.Option.{slice_get-get_or}
use Rattle.tf_table.specs.declared.key.Key.{Key}
use Rattle.tf_table.specs.Content.{entry_at, entry_of}
use Rattle.tf_manifest.specs.Rows.{key_of}
use Rattle.tf_look_ups.proofs.Finding.{entry_next, entry_there}
use Rattle.tf_look_ups.proofs.Gaps.{set-itself}
use Rattle.tf_look_ups.proofs.gapped.entry_in_gapped.Goals as goal

pub returns-in-Some-clause-found : goal.returns-in-Some-clause-found
returns-in-Some-clause-found g c =
    let key = key_of c.args.value 0 in
    let rows : List (Key × Option g.row.V.Denot) = c.index-tables-place.result in
    let there : slice_get c.loop-place.tables c.loop-place.place ≡ Some rows = slice_get-get_or c.loop-place.tables c.loop-place.place rows (omega arith) ∙ ap Some (sym c.index-tables-place.is) in
    let has : entry_at key rows ≡ Some c.in-Some.entry.now = ap (entry_at key) c.index-tables-place.is ∙ sym c.entry.ensures.found ∙ ap option_copied c.in-Some.is in
    sym (ap (entry_of key) (sym c.loop-place.invariant.same) ∙ entry_there key c.loop-place.place c.loop-place.tables rows c.in-Some.entry.now c.loop-place.invariant.none there has)

pub returns-in-Some-clause-same : goal.returns-in-Some-clause-same
returns-in-Some-clause-same g c = set-itself c.loop-place.tables c.loop-place.place c.entry.new.self c.index-tables-place.result (omega arith) c.entry.ensures.same ∙ c.loop-place.invariant.same

pub loop-place-preserved : goal.loop-place-preserved
loop-place-preserved g c =
    let key = key_of c.args.value 0 in
    let rows : List (Key × Option g.row.V.Denot) = c.index-tables-place.result in
    let there : slice_get c.loop-place.tables c.loop-place.place ≡ Some rows = slice_get-get_or c.loop-place.tables c.loop-place.place rows (omega arith) ∙ ap Some (sym c.index-tables-place.is) in
    let hasnt : entry_at key rows ≡ None = ap (entry_at key) c.index-tables-place.is ∙ sym c.entry.ensures.found ∙ ap option_copied c.in_default.is in
    let same = set-itself c.loop-place.tables c.loop-place.place c.entry.new.self rows (omega arith) c.entry.ensures.same in
    record {
      same = same ∙ c.loop-place.invariant.same;
      none = ap (λ (lists : List (List (Key × Option g.row.V.Denot))). entry_of key (take (c.loop-place.place + 1) lists)) same
          ∙ ap (λ n. entry_of key (take n c.loop-place.tables)) (add-one c.loop-place.place)
          ∙ entry_next key c.loop-place.place c.loop-place.tables rows c.loop-place.invariant.none there ∙ hasnt;
    }
