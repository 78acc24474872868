use Rattle.std.proofs.Common.{◌≡◌, ℕ, ◌+◌, ◌<◌, List, [], ◌∷◌, ◌++◌, Option, Some, None, refl, ap, sym, ◌∙◌, subst, rules, arith}
use Rattle.std.specs.Option.{option_map}
use Rattle.tf_table.specs.declared.key.Key.{Key}
use Rattle.tf_table.specs.Key.{key_cmp}
use Rattle.tf_table.specs.Content.{kept_row}
use Rattle.tf_table.specs.Merge.{least_at}
use Rattle.tf_table.proofs.Keys.{keys_total, exact_keys}
use Rattle.tf_table.proofs.Least.{left_of, rows_left}
use Rattle.tf_table.proofs.Combine.{Combines, combines_start, merge_step, merge_fewer, merge_fits}
use Rattle.tf_table.proofs.Merged.{merges_sealed, none_from_not}
use Rattle.tf_table.proofs.pair.merged_pair.Goals as goal

pub loop-step-init : goal.loop-step-init
loop-step-init g c =
    let lists = c.args.newer.now ∷ c.args.older.now ∷ [] in
    let room : c.in_ok-room.room ≡ c.len.result + c.len-2.result = search rules in
    record {
      room = omega (arith, c.in_ok-draft.ensures.room, room, c.len.ensures.value, c.len-2.ensures.value);
      combines = combines_start key_cmp keys_total exact_keys c.args.bottom lists lists c.in_ok-draft.draft.rows (c.len.ensures.rising, (c.len-2.ensures.rising, tt)) refl c.in_ok-draft.ensures.none;
    }

pub keep-requires : goal.keep-requires
keep-requires g c =
    let lists = c.args.newer.now ∷ c.args.older.now ∷ [] in
    let places = c.loop-step.newer_place ∷ c.loop-step.older_place ∷ [] in
    record { fits = omega (arith, merge_fits key_cmp keys_total exact_keys c.args.bottom lists places c.loop-step.draft.rows c.in-Some.step.row c.loop-step.invariant.combines (sym c.in-Some.ensures.row), c.loop-step.invariant.room) }

pub loop-step-smaller : goal.loop-step-smaller
loop-step-smaller g c =
    let lists = c.args.newer.now ∷ c.args.older.now ∷ [] in
    let places = c.loop-step.newer_place ∷ c.loop-step.older_place ∷ [] in
    let r = c.in-Some.step.row in
    let e : least_at key_cmp lists places ≡ Some r = sym c.in-Some.ensures.row in
    subst (λ (ps : List ℕ). rows_left key_cmp keys_total (left_of lists ps) < rows_left key_cmp keys_total (left_of lists places)) (sym c.in-Some.ensures.places) (merge_fewer key_cmp keys_total exact_keys lists places r e)

pub loop-step-preserved : goal.loop-step-preserved
loop-step-preserved g c =
    let lists = c.args.newer.now ∷ c.args.older.now ∷ [] in
    let places = c.loop-step.newer_place ∷ c.loop-step.older_place ∷ [] in
    let r = c.in-Some.step.row in
    let out = c.loop-step.draft.rows in
    let e : least_at key_cmp lists places ≡ Some r = sym c.in-Some.ensures.row in
    let more : Combines key_cmp keys_total exact_keys c.args.bottom lists (left_of lists (c.in-Some.step.newer ∷ c.in-Some.step.older ∷ [])) (out ++ kept_row c.args.bottom r) =
    subst (λ (ps : List ℕ). Combines key_cmp keys_total exact_keys c.args.bottom lists (left_of lists ps) (out ++ kept_row c.args.bottom r)) (sym c.in-Some.ensures.places)
    (merge_step key_cmp keys_total exact_keys c.args.bottom lists places out r c.loop-step.invariant.combines e) in
    record {
      room = c.keep.ensures.room ∙ c.loop-step.invariant.room;
      combines = subst (λ (rows : List (Key × Option g.row.V.Denot)). Combines key_cmp keys_total exact_keys c.args.bottom lists (left_of lists (c.in-Some.step.newer ∷ c.in-Some.step.older ∷ [])) rows) (sym c.in_ok-keep.ensures.rows) more;
    }

pub returns : goal.returns
returns g c =
    let lists = c.args.newer.now ∷ c.args.older.now ∷ [] in
    let places = c.loop-step.newer_place ∷ c.loop-step.older_place ∷ [] in
    let e : least_at key_cmp lists places ≡ None = sym c.next_step.ensures.row ∙ ap (option_map (λ step. step.row)) (none_from_not c.next_step.result c.in_default.not-Some) in
    merges_sealed c.args.bottom lists places c.loop-step.draft.rows c.seal.result c.seal.ensures c.loop-step.invariant.combines e
