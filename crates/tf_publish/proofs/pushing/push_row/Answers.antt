use Rattle.std.proofs.Common.{◌≡◌, ℕ, ◌+◌, ◌<◌, ◌≤◌, List, [], ◌∷◌, length, Bool, cond, Result, Ok, Err, OnErr, OnOk, true, false, refl, sym, ◌∙◌, ap, subst, arith}
use Rattle.std.proofs.lemmas.Bool.{false≢true}
use Rattle.std.proofs.lemmas.List.{length-map}
use Rattle.tf_records.specs.declared.refusal.Refusal.{Refusal}
use Rattle.std.specs.Prelude.{Option, ◌==◌}
use Rattle.tf_table.specs.declared.key.Key.{Key}
use Rattle.tf_manifest.specs.declared.row.Row.{Row}
use Rattle.tf_manifest.specs.declared.value.Value.{Value}
use Rattle.tf_manifest.specs.declared.kind.Kind.{Kind}
use Rattle.tf_registry.specs.Limit.{Pushed}
use Rattle.tf_registry.specs.Row.{is_nil}
use Rattle.tf_manifest.specs.View.{View as Tables, references_in, tables_by, value_by}
use Rattle.tf_rows.specs.declared.sealed_row.SealedRow.{SealedRow}
use Rattle.tf_rows.specs.Counts.{Counted}
use Rattle.tf_rows.specs.Parts.{Entries, seen_row}
use Rattle.tf_rows.specs.SealedRow.{IsSealedOf, entries_of_sealed, kind_of_sealed}
use Rattle.tf_publish.proofs.Bounds.{more_and_more, none_more}
use Rattle.tf_publish.proofs.OneRow.{idle, row_published}
use Rattle.tf_publish.proofs.Partly.{no_part, part_by_all, part_by_place, part_by_push}
use Rattle.tf_publish.proofs.Tables.{nothing_published, one_published}
use Rattle.tf_publish.specs.Publish.{needed_for}
use Rattle.tf_publish.specs.Partly.{PublishesPartIn}
use Rattle.tf_publish.proofs.pushing.push_row.Goals as goal

on_ok : (r : Result (Unit {0}) Refusal) (P Q : Type 0) → (P → Q) → OnOk r P → OnOk r Q
on_ok (Ok done) P Q f h = f h
on_ok (Err refusal) P Q f h = tt

on_both : (r : Result (Unit {0}) Refusal) (P Q R : Type 0) → (P → Q → R) → OnOk r P → OnOk r Q → OnOk r R
on_both (Ok done) P Q R f p q = f p q
on_both (Err refusal) P Q R f p q = tt

pub returns-then-has_none-clause-publishes : goal.returns-then-has_none-clause-publishes
returns-then-has_none-clause-publishes g c = idle (g.F.MutableRows.entries c.args.fresh.now) c.args.row c.args.next.now.tables (sym c.has_none.ensures ∙ c.if-has_none.true)

pub returns-in-Ok-make_room-clause-publishes : goal.returns-in-Ok-make_room-clause-publishes
returns-in-Ok-make_room-clause-publishes g c =
    on_ok c.push_in_front.result _ _
    (λ pushes. row_published {A = g.row.A.Denot} (g.F.MutableRows.entries c.args.fresh.now) c.args.row c.args.next.now.tables c.make_room.new.next.tables c.push_in_front.new.self.tables c.in-Ok.sealed c.in-Ok.ensures.sealed c.in-Ok-make_room.ensures.room pushes (sym c.has_none.ensures ∙ c.if-has_none.false))
    c.push_in_front.ensures.pushes

nil_length : {X : Type 0} (xs : List X) → is_nil xs ≡ true → length xs ≡ 0
nil_length [] none = refl
nil_length (x ∷ xs) none = absurd (false≢true none)

sealed_length : {A : Type 0} (fresh : Entries) (r : Row) (s : SealedRow A) → IsSealedOf fresh r s → length (entries_of_sealed s) ≡ length (fresh r)
sealed_length fresh r s of = sym (length-map (entries_of_sealed s) (seen_row (value_by (kind_of_sealed s)))) ∙ ap (λ (es : List (Key × Option Value)). length es) of.entries

pub returns-then-has_none-clause-sealed : goal.returns-then-has_none-clause-sealed
returns-then-has_none-clause-sealed g c =
    let none = nil_length (g.F.MutableRows.entries c.args.fresh.now c.args.row) (sym c.has_none.ensures ∙ c.if-has_none.true) in
    omega (arith, none)

pub returns-in-Ok-make_room-clause-sealed : goal.returns-in-Ok-make_room-clause-sealed
returns-in-Ok-make_room-clause-sealed g c =
    let own = sealed_length {A = g.row.A.Denot} (g.F.MutableRows.entries c.args.fresh.now) c.args.row c.in-Ok.sealed c.in-Ok.ensures.sealed in
    let same = c.make_room.ensures.sealed in
    on_ok c.push_in_front.result _ _ (λ is. omega (arith, is, own, same)) c.push_in_front.ensures.sealed

pub returns-in-Ok-make_room-clause-more : goal.returns-in-Ok-make_room-clause-more
returns-in-Ok-make_room-clause-more g c = more_and_more c.args.next.now c.make_room.new.next c.push_in_front.new.self c.make_room.ensures.more c.push_in_front.ensures.more

pub returns-then-has_none-clause-tables : goal.returns-then-has_none-clause-tables
returns-then-has_none-clause-tables g c = nothing_published (g.F.MutableRows.entries c.args.fresh.now) c.args.row c.args.next.now (sym c.has_none.ensures ∙ c.if-has_none.true)

pub returns-in-Ok-make_room-clause-tables : goal.returns-in-Ok-make_room-clause-tables
returns-in-Ok-make_room-clause-tables g c =
    let fresh = g.F.MutableRows.entries c.args.fresh.now in
    let own = sealed_length {A = g.row.A.Denot} fresh c.args.row c.in-Ok.sealed c.in-Ok.ensures.sealed in
    on_both c.push_in_front.result _ _ _
    (λ pushes held. one_published {A = g.row.A.Denot} fresh c.args.row c.args.next.now c.make_room.new.next c.push_in_front.new.self c.in-Ok.sealed c.in-Ok.ensures.sealed c.in-Ok-make_room.ensures.place pushes (sym c.has_none.ensures ∙ c.if-has_none.false) (omega (arith, held, own)))
    c.push_in_front.ensures.pushes c.push_in_front.ensures.held

pub returns-then-has_none-clause-part : goal.returns-then-has_none-clause-part
returns-then-has_none-clause-part g c = no_part (g.F.MutableRows.entries c.args.fresh.now) c.args.row c.args.next.now

pub returns-in-Err-clause-part : goal.returns-in-Err-clause-part
returns-in-Err-clause-part g c = no_part (g.F.MutableRows.entries c.args.fresh.now) c.args.row c.args.next.now

pub returns-in-Err-make_room-clause-part : goal.returns-in-Err-make_room-clause-part
returns-in-Err-make_room-clause-part g c =
    let fresh = g.F.MutableRows.entries c.args.fresh.now in
    subst (PublishesPartIn fresh c.args.row c.args.next.now) (sym c.in-Err-make_room.ensures.err) (no_part fresh c.args.row c.args.next.now)

pub returns-in-Ok-make_room-clause-part : goal.returns-in-Ok-make_room-clause-part
returns-in-Ok-make_room-clause-part g c =
    let fresh = g.F.MutableRows.entries c.args.fresh.now in
    let old = c.args.next.now in
    let mid = c.make_room.new.next in
    let new = c.push_in_front.new.self in
    let own = sealed_length {A = g.row.A.Denot} fresh c.args.row c.in-Ok.sealed c.in-Ok.ensures.sealed in
    let some = sym c.has_none.ensures ∙ c.if-has_none.false in
    part_by_push c.push_in_front.result fresh c.args.row old mid new
    (on_both c.push_in_front.result _ _ _
    (λ pushes held. part_by_all fresh c.args.row old new
    (one_published {A = g.row.A.Denot} fresh c.args.row old mid new c.in-Ok.sealed c.in-Ok.ensures.sealed c.in-Ok-make_room.ensures.place pushes some (omega (arith, held, own)))
    (row_published {A = g.row.A.Denot} fresh c.args.row old.tables mid.tables new.tables c.in-Ok.sealed c.in-Ok.ensures.sealed c.in-Ok-make_room.ensures.room pushes some).count)
    c.push_in_front.ensures.pushes c.push_in_front.ensures.held)
    c.push_in_front.ensures.err
    (part_by_place fresh c.args.row old mid some c.in-Ok-make_room.ensures.place c.in-Ok-make_room.ensures.room.count)

some_length : {X : Type 0} (xs : List X) → is_nil xs ≡ false → length xs ≡ 0 → ⊥
some_length [] some none = false≢true (sym some)
some_length (x ∷ xs) some none = absurd (omega (arith, none))

-- a push that makes room is one of those that a row with an entry needs, and one more is left
one_left : (b : Bool) (n : ℕ) → n + cond b 1 0 + 1 ≤ n + cond b 2 1
one_left true n = omega arith
one_left false n = omega arith

-- where the tables that a row with an entry needs fit, one does at first
one_fits : (entries : List (Key × Option Value)) (references : ℕ) (old : Pushed) → is_nil entries ≡ false → old.count + needed_for entries references ≤ old.limit → old.count < old.limit
one_fits [] references old some fits = absurd (false≢true (sym some))
one_fits (entry ∷ entries) references old some fits = let left = one_left (references == 64) old.count in omega (arith, fits, left)

-- and one once there is room
one_fits_then : (entries : List (Key × Option Value)) (references : ℕ) (old mid : Pushed) → is_nil entries ≡ false → old.count + needed_for entries references ≤ old.limit → mid.count ≡ old.count + cond (references == 64) 1 0 → mid.limit ≡ old.limit → mid.count < mid.limit
one_fits_then [] references old mid some fits count limit = absurd (false≢true (sym some))
one_fits_then (entry ∷ entries) references old mid some fits count limit = let left = one_left (references == 64) old.count in omega (arith, fits, count, limit, left)

-- no more were pushed than the row needs, be it that the last was refused
none_above : (result : Result (Unit {0}) Refusal) (entries : List (Key × Option Value)) (references : ℕ) (old mid new : Tables) → is_nil entries ≡ false → mid.pushed.count ≡ old.pushed.count + cond (references == 64) 1 0
    → OnOk result (new.pushed.count ≡ old.pushed.count + needed_for entries references) → OnErr result (new ≡ mid) → new.pushed.count ≤ old.pushed.count + needed_for entries references
none_above (Ok done) entries references old mid new some count all same = omega (arith, all)
none_above (Err refusal) [] references old mid new some count all same = absurd (false≢true (sym some))
none_above (Err refusal) (entry ∷ entries) references old mid new some count all same =
    let left = one_left (references == 64) old.pushed.count in
    let here = ap (λ (v : Tables). v.pushed.count) same in
    omega (arith, count, here, left)

on_err : (r : Result (Unit {0}) Refusal) (P Q : Type 0) → (P → Q) → OnErr r P → OnErr r Q
on_err (Ok done) P Q f h = tt
on_err (Err refusal) P Q f h = f h

pub make_room-requires : goal.make_room-requires
make_room-requires g c = λ full.
    one_fits (g.F.MutableRows.entries c.args.fresh.now c.args.row) (references_in c.args.next.now.tables c.args.row) c.args.next.now.tables.pushed (sym c.has_none.ensures ∙ c.if-has_none.false) c.requires

pub push_in_front-requires-clause-room : goal.push_in_front-requires-clause-room
push_in_front-requires-clause-room g c =
    subst (λ (k : Kind). length (tables_by c.make_room.new.next.tables k) < 64) (sym c.in-Ok.ensures.sealed.of) c.in-Ok-make_room.ensures.few

pub push_in_front-requires-clause-pushes : goal.push_in_front-requires-clause-pushes
push_in_front-requires-clause-pushes g c =
    one_fits_then (g.F.MutableRows.entries c.args.fresh.now c.args.row) (references_in c.args.next.now.tables c.args.row) c.args.next.now.tables.pushed c.make_room.new.next.tables.pushed
    (sym c.has_none.ensures ∙ c.if-has_none.false) c.requires c.in-Ok-make_room.ensures.room.count c.in-Ok-make_room.ensures.room.limit

pub returns-then-has_none-clause-fresh : goal.returns-then-has_none-clause-fresh
returns-then-has_none-clause-fresh g c = refl

pub returns-then-has_none-clause-more : goal.returns-then-has_none-clause-more
returns-then-has_none-clause-more g c = none_more c.args.next.now

pub returns-then-has_none-clause-still : goal.returns-then-has_none-clause-still
returns-then-has_none-clause-still g c = λ none. refl

pub returns-in-Err-clause-fresh : goal.returns-in-Err-clause-fresh
returns-in-Err-clause-fresh g c = c.seal.ensures.same

pub returns-in-Err-clause-more : goal.returns-in-Err-clause-more
returns-in-Err-clause-more g c = none_more c.args.next.now

pub returns-in-Err-clause-idle : goal.returns-in-Err-clause-idle
returns-in-Err-clause-idle g c = λ none. absurd (some_length (g.F.MutableRows.entries c.args.fresh.now c.args.row) (sym c.has_none.ensures ∙ c.if-has_none.false) none)

pub returns-in-Err-clause-still : goal.returns-in-Err-clause-still
returns-in-Err-clause-still g c = λ none. refl

pub returns-in-Err-clause-refusal : goal.returns-in-Err-clause-refusal
returns-in-Err-clause-refusal g c = c.in-Err.ensures.refusal

pub returns-in-Ok-make_room-clause-fresh : goal.returns-in-Ok-make_room-clause-fresh
returns-in-Ok-make_room-clause-fresh g c = c.seal.ensures.same

pub returns-in-Ok-make_room-clause-most : goal.returns-in-Ok-make_room-clause-most
returns-in-Ok-make_room-clause-most g c =
    let fresh = g.F.MutableRows.entries c.args.fresh.now in
    let old = c.args.next.now.tables in
    let mid = c.make_room.new.next.tables in
    let new = c.push_in_front.new.self.tables in
    let some = sym c.has_none.ensures ∙ c.if-has_none.false in
    none_above c.push_in_front.result (fresh c.args.row) (references_in old c.args.row) old mid new some c.in-Ok-make_room.ensures.room.count
    (on_ok c.push_in_front.result _ _
    (λ pushes. (row_published {A = g.row.A.Denot} fresh c.args.row old mid new c.in-Ok.sealed c.in-Ok.ensures.sealed c.in-Ok-make_room.ensures.room pushes some).count)
    c.push_in_front.ensures.pushes)
    (on_err c.push_in_front.result _ _ (λ same. ap (λ (t : Counted). t.tables) same) c.push_in_front.ensures.err)

pub returns-in-Ok-make_room-clause-idle : goal.returns-in-Ok-make_room-clause-idle
returns-in-Ok-make_room-clause-idle g c = λ none. absurd (some_length (g.F.MutableRows.entries c.args.fresh.now c.args.row) (sym c.has_none.ensures ∙ c.if-has_none.false) none)

pub returns-in-Ok-make_room-clause-still : goal.returns-in-Ok-make_room-clause-still
returns-in-Ok-make_room-clause-still g c = λ none. absurd (some_length (g.F.MutableRows.entries c.args.fresh.now c.args.row) (sym c.has_none.ensures ∙ c.if-has_none.false) none)

pub returns-in-Ok-make_room-clause-refusal : goal.returns-in-Ok-make_room-clause-refusal
returns-in-Ok-make_room-clause-refusal g c = c.push_in_front.ensures.refusal

pub returns-in-Err-make_room-clause-fresh : goal.returns-in-Err-make_room-clause-fresh
returns-in-Err-make_room-clause-fresh g c = c.seal.ensures.same

pub returns-in-Err-make_room-clause-more : goal.returns-in-Err-make_room-clause-more
returns-in-Err-make_room-clause-more g c = c.make_room.ensures.more

pub returns-in-Err-make_room-clause-most : goal.returns-in-Err-make_room-clause-most
returns-in-Err-make_room-clause-most g c =
    let same = ap (λ (t : Counted). t.tables.pushed.count) c.in-Err-make_room.ensures.err in
    omega (arith, same)

pub returns-in-Err-make_room-clause-idle : goal.returns-in-Err-make_room-clause-idle
returns-in-Err-make_room-clause-idle g c = λ none. absurd (some_length (g.F.MutableRows.entries c.args.fresh.now c.args.row) (sym c.has_none.ensures ∙ c.if-has_none.false) none)

pub returns-in-Err-make_room-clause-still : goal.returns-in-Err-make_room-clause-still
returns-in-Err-make_room-clause-still g c = λ none. c.in-Err-make_room.ensures.err

pub returns-in-Err-make_room-clause-refusal : goal.returns-in-Err-make_room-clause-refusal
returns-in-Err-make_room-clause-refusal g c = c.in-Err-make_room.ensures.refusal
