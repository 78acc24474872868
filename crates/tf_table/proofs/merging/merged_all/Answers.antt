use Rattle.std.proofs.Common.{◌≡◌, IfOk, ℕ, ◌<◌, List, ◌++◌, length, drop, replicate, Option, Some, None, ap, sym, ◌∙◌, subst}
use Rattle.std.specs.List.{refill}
use Rattle.std.proofs.lemmas.List.{take_at}
use Rattle.tf_table.specs.declared.key.Key.{Key}
use Rattle.tf_table.specs.Key.{key_cmp}
use Rattle.tf_table.specs.Content.{kept_row}
use Rattle.tf_table.specs.Merge.{least_at, passed}
use Rattle.tf_table.specs.Rows.{Drafted}
use Rattle.tf_table.proofs.Keys.{keys_total, exact_keys}
use Rattle.tf_table.proofs.Least.{left_of, rows_left}
use Rattle.tf_table.proofs.Combine.{Combines, left_of-start, combines_start, merge_step, merge_fewer, merge_fits}
use Rattle.tf_table.proofs.Merged.{merges_sealed, rows_left-tables, none_from_not}
use Rattle.tf_table.proofs.Walks.{lists_of, length-lists_of, length-passed_tables}
use Rattle.tf_table.proofs.merging.merged_all.Goals as goal

pub loop-row-init : goal.loop-row-init
loop-row-init g c =
    let lists = lists_of c.args.tables.now in
    let n = length c.args.tables.now in
    let zeros : c.in_ok-places.places.items ≡ replicate n 0 = c.in_ok-places.ensures.items_if_clones_equal (λ y h. h) in
    record {
      room = c.in_ok-draft.ensures.room ∙ c.in_ok-room.ensures.rows;
      places = c.in_ok-places.ensures.len;
      combines = combines_start key_cmp keys_total exact_keys c.args.bottom lists (left_of lists c.in_ok-places.places.items) c.in_ok-draft.draft.rows
          c.in_ok-room.ensures.rising (ap (left_of lists) zeros ∙ left_of-start lists n (sym (length-lists_of c.args.tables.now))) c.in_ok-draft.ensures.none;
    }

-- the places after a step
moved : (old new next : List ℕ) (n : ℕ) → length old ≡ n → new ≡ next → length next ≡ n → refill (length old) old new ≡ next
moved old new next n e same len = take_at new (drop (length new) old) (length old) (ap length same ∙ len ∙ sym e) ∙ same

pub keep-requires : goal.keep-requires
keep-requires g c =
    let lists = lists_of c.args.tables.now in
    let old = c.loop-row.places.items in
    let r = c.in-Some.row in
    let out = c.loop-row.draft.rows in
    let e : least_at key_cmp lists old ≡ Some r = ap (least_at key_cmp lists) (sym c.as_slice.ensures) ∙ sym c.least.ensures ∙ c.in-Some.is in
    record { fits = subst (λ n. length out < n) (rows_left-tables c.args.tables.now ∙ sym c.loop-row.invariant.room) (merge_fits key_cmp keys_total exact_keys c.args.bottom lists old out r c.loop-row.invariant.combines e) }

pub loop-row-preserved : goal.loop-row-preserved
loop-row-preserved g c =
    let lists = lists_of c.args.tables.now in
    let old = c.loop-row.places.items in
    let r = c.in-Some.row in
    let out = c.loop-row.draft.rows in
    let e : least_at key_cmp lists old ≡ Some r = ap (least_at key_cmp lists) (sym c.as_slice.ensures) ∙ sym c.least.ensures ∙ c.in-Some.is in
    let len = length-passed_tables key_cmp r.0 c.args.tables.now old c.loop-row.invariant.places in
    let passed_on : c.pass.new.places ≡ passed key_cmp r.0 lists old = c.pass.ensures ∙ ap (λ k. passed key_cmp k lists c.as_mut_slice.result.now) c.key.ensures ∙ ap (passed key_cmp r.0 lists) c.as_mut_slice.ensures.value in
    let next : refill (length old) old c.pass.new.places ≡ passed key_cmp r.0 lists old =
    moved old c.pass.new.places (passed key_cmp r.0 lists old) (length c.args.tables.now) c.loop-row.invariant.places passed_on len in
    let more : Combines key_cmp keys_total exact_keys c.args.bottom lists (left_of lists (passed key_cmp r.0 lists old)) (out ++ kept_row c.args.bottom r) =
    merge_step key_cmp keys_total exact_keys c.args.bottom lists old out r c.loop-row.invariant.combines e in
    let kept : Combines key_cmp keys_total exact_keys c.args.bottom lists (left_of lists (passed key_cmp r.0 lists old)) c.keep.new.self.rows =
    subst (λ (rows : List (Key × Option g.row.V.Denot)). Combines key_cmp keys_total exact_keys c.args.bottom lists (left_of lists (passed key_cmp r.0 lists old)) rows) (sym c.in_ok-keep.ensures.rows) more in
    record {
      room = c.keep.ensures.room ∙ c.loop-row.invariant.room;
      places = ap length next ∙ len;
      combines = subst (λ (ps : List ℕ). Combines key_cmp keys_total exact_keys c.args.bottom lists (left_of lists ps) c.keep.new.self.rows) (sym next) kept;
    }

pub loop-row-smaller : goal.loop-row-smaller
loop-row-smaller g c =
    let lists = lists_of c.args.tables.now in
    let old = c.loop-row.places.items in
    let r = c.in-Some.row in
    let e : least_at key_cmp lists old ≡ Some r = ap (least_at key_cmp lists) (sym c.as_slice.ensures) ∙ sym c.least.ensures ∙ c.in-Some.is in
    let len = length-passed_tables key_cmp r.0 c.args.tables.now old c.loop-row.invariant.places in
    let passed_on : c.pass.new.places ≡ passed key_cmp r.0 lists old = c.pass.ensures ∙ ap (λ k. passed key_cmp k lists c.as_mut_slice.result.now) c.key.ensures ∙ ap (passed key_cmp r.0 lists) c.as_mut_slice.ensures.value in
    let next : refill (length old) old c.pass.new.places ≡ passed key_cmp r.0 lists old =
    moved old c.pass.new.places (passed key_cmp r.0 lists old) (length c.args.tables.now) c.loop-row.invariant.places passed_on len in
    subst (λ (ps : List ℕ). rows_left key_cmp keys_total (left_of lists ps) < rows_left key_cmp keys_total (left_of lists old)) (sym next) (merge_fewer key_cmp keys_total exact_keys lists old r e)

pub returns : goal.returns
returns g c =
    let lists = lists_of c.args.tables.now in
    let old = c.loop-row.places.items in
    let e : least_at key_cmp lists old ≡ None = ap (least_at key_cmp lists) (sym c.as_slice.ensures) ∙ sym c.least.ensures ∙ none_from_not c.least.result c.in_default.not-Some in
    merges_sealed c.args.bottom lists old c.loop-row.draft.rows c.seal.result (subst (λ (d : Drafted g.row.V.Denot). IfOk c.seal.result (λ sealed. sealed ≡ d.rows)) c.draft-2.view_is c.seal.ensures) c.loop-row.invariant.combines e
