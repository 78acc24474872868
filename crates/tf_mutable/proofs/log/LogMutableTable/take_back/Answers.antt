use Rattle.std.proofs.Common.{◌≡◌, List, Option, Some, None, IsSome, arith, ap, sym, ◌∙◌, subst}
use Rattle.std.specs.List.{slice_get}
use Rattle.std.specs.Option.{option_map, is_some}
use Rattle.std.proofs.lemmas.Bool.{false≢true}
use Rattle.tf_sorted.specs.Rows.{IsRising, value_at}
use Rattle.tf_table.specs.declared.key.Key.{Key}
use Rattle.tf_table.specs.Key.{key_cmp}
use Rattle.tf_mutable.specs.Mutable.{in_order, IsLogged, given_back}
use Rattle.tf_table.proofs.Keys.{keys_total, exact_keys}
use Rattle.tf_mutable.proofs.Logged.{value_at-in_order, found_within, once-removed, rising-removed, in_order-removed, once-put, rising-put, in_order-put, given_back-is, some_put}
use Rattle.tf_mutable.proofs.log.LogMutableTable.take_back.Goals as goal

-- a key that is there has a place
no_place : {E : Type 0} (key : Key) (rows seen now : List (Key × E)) → seen ≡ rows → in_order rows ≡ now → value_at key_cmp key seen ≡ None → IsSome (value_at key_cmp key now) → ⊥
no_place {E} key rows seen now same view missing there =
    let none : value_at key_cmp key now ≡ None = sym (ap (value_at key_cmp key) view) ∙ value_at-in_order key_cmp keys_total exact_keys key rows ∙ sym (ap (value_at key_cmp key) same) ∙ missing in
    false≢true (sym (ap is_some none) ∙ there)

pub returns-in_default-clause-rows : goal.returns-in_default-clause-rows
returns-in_default-clause-rows g c = absurd (no_place c.args.key.now c.self.inside.rows.items c.deref.result.now c.args.self.now c.deref.ensures.value c.self.view_is c.in_default.ensures.missing c.requires)

pub returns-in_default-clause-restores : goal.returns-in_default-clause-restores
returns-in_default-clause-restores g c = absurd (no_place c.args.key.now c.self.inside.rows.items c.deref.result.now c.args.self.now c.deref.ensures.value c.self.view_is c.in_default.ensures.missing c.requires)

pub remove-requires : goal.remove-requires
remove-requires g c =
    let rows = c.self.inside.rows.items in
    let found = subst (λ (rs : List (Key × Option g.row.V.Denot)). option_map (λ r. r.0) (slice_get rs c.in-Some.place) ≡ Some c.args.key.now) c.deref.ensures.value c.in-Some.ensures.found in
    omega (arith, found_within key_cmp keys_total exact_keys rows c.in-Some.place c.args.key.now found, c.self.inside.rows.ok.0)

pub invariant_of-self : goal.invariant_of-self
invariant_of-self g c =
    let rows = c.self.inside.rows.items in
    let p = c.in-Some.place in
    let key = c.args.key.now in
    let found = subst (λ (rs : List (Key × Option g.row.V.Denot)). option_map (λ r. r.0) (slice_get rs p) ≡ Some key) c.deref.ensures.value c.in-Some.ensures.found in
    subst (IsLogged c.still_rises-self-inside.result) (sym c.remove.ensures.by_index.2) (record {
      once = once-removed key_cmp keys_total exact_keys rows p key (key, None) found c.self.invariant.once;
      rising = λ t. subst (IsRising key_cmp) (c.deref-in-None.ensures.value ∙ c.remove.ensures.by_index.2) (c.still_rises-self-inside.ensures.rising t);
      none = λ e. c.still_rises-self-inside.ensures.none (c.deref-in-None.ensures.value ∙ c.remove.ensures.by_index.2 ∙ e);
    })

pub still_rises-self-inside-requires : goal.still_rises-self-inside-requires
still_rises-self-inside-requires g c = λ t.
    let rows = c.self.inside.rows.items in
    let p = c.in-Some.place in
    let key = c.args.key.now in
    let found = subst (λ (rs : List (Key × Option g.row.V.Denot)). option_map (λ r. r.0) (slice_get rs p) ≡ Some key) c.deref.ensures.value c.in-Some.ensures.found in
    subst (IsRising key_cmp) (sym (c.deref-in-None.ensures.value ∙ c.remove.ensures.by_index.2)) (rising-removed key_cmp keys_total exact_keys rows p key (key, None) found c.self.invariant.once (c.self.invariant.rising t))

pub index_mut-requires : goal.index_mut-requires
index_mut-requires g c =
    let rows = c.self.inside.rows.items in
    let found = subst (λ (rs : List (Key × Option g.row.V.Denot)). option_map (λ r. r.0) (slice_get rs c.in-Some.place) ≡ Some c.args.key.now) c.deref.ensures.value c.in-Some.ensures.found in
    omega (arith, found_within key_cmp keys_total exact_keys rows c.in-Some.place c.args.key.now found, c.self.inside.rows.ok.0)

pub invariant_of-self-in-Some-before : goal.invariant_of-self-in-Some-before
invariant_of-self-in-Some-before g c =
    let rows = c.self.inside.rows.items in
    let p = c.in-Some.place in
    let key = c.args.key.now in
    let found = subst (λ (rs : List (Key × Option g.row.V.Denot)). option_map (λ r. r.0) (slice_get rs p) ≡ Some key) c.deref.ensures.value c.in-Some.ensures.found in
    record {
      once = once-put key_cmp keys_total exact_keys rows p key (key, None) found c.self.invariant.once c.in-Some-before.entry;
      rising = λ t. rising-put key_cmp keys_total exact_keys rows p key (key, None) found c.self.invariant.once c.in-Some-before.entry (c.self.invariant.rising t);
      none = λ e. absurd (some_put rows p (key, c.in-Some-before.entry) (found_within key_cmp keys_total exact_keys rows p key found) e);
    }

pub returns-in-None-clause-rows : goal.returns-in-None-clause-rows
returns-in-None-clause-rows g c =
    let rows = c.self.inside.rows.items in
    let p = c.in-Some.place in
    let key = c.args.key.now in
    let found = subst (λ (rs : List (Key × Option g.row.V.Denot)). option_map (λ r. r.0) (slice_get rs p) ≡ Some key) c.deref.ensures.value c.in-Some.ensures.found in
    ap in_order c.remove.ensures.by_index.2 ∙ in_order-removed key_cmp keys_total exact_keys rows p key (key, None) found c.self.invariant.once
    ∙ ap (given_back key None) c.self.view_is ∙ ap (λ before. given_back key before c.args.self.now) (sym c.in-None.is)

pub returns-in-None-clause-restores : goal.returns-in-None-clause-restores
returns-in-None-clause-restores g c = λ earlier entry rising put before.
    let rows = c.self.inside.rows.items in
    let p = c.in-Some.place in
    let key = c.args.key.now in
    let found = subst (λ (rs : List (Key × Option g.row.V.Denot)). option_map (λ r. r.0) (slice_get rs p) ≡ Some key) c.deref.ensures.value c.in-Some.ensures.found in
    ap in_order c.remove.ensures.by_index.2 ∙ in_order-removed key_cmp keys_total exact_keys rows p key (key, None) found c.self.invariant.once
    ∙ ap (given_back key None) (c.self.view_is ∙ put) ∙ given_back-is key entry None earlier rising (sym c.in-None.is ∙ before)

pub returns-in-Some-before-clause-rows : goal.returns-in-Some-before-clause-rows
returns-in-Some-before-clause-rows g c =
    let rows = c.self.inside.rows.items in
    let p = c.in-Some.place in
    let key = c.args.key.now in
    let found = subst (λ (rs : List (Key × Option g.row.V.Denot)). option_map (λ r. r.0) (slice_get rs p) ≡ Some key) c.deref.ensures.value c.in-Some.ensures.found in
    in_order-put key_cmp keys_total exact_keys rows p key (key, None) found c.self.invariant.once c.in-Some-before.entry
    ∙ ap (given_back key (Some c.in-Some-before.entry)) c.self.view_is ∙ ap (λ before. given_back key before c.args.self.now) (sym c.in-Some-before.is)

pub returns-in-Some-before-clause-restores : goal.returns-in-Some-before-clause-restores
returns-in-Some-before-clause-restores g c = λ earlier entry rising put before.
    let rows = c.self.inside.rows.items in
    let p = c.in-Some.place in
    let key = c.args.key.now in
    let found = subst (λ (rs : List (Key × Option g.row.V.Denot)). option_map (λ r. r.0) (slice_get rs p) ≡ Some key) c.deref.ensures.value c.in-Some.ensures.found in
    in_order-put key_cmp keys_total exact_keys rows p key (key, None) found c.self.invariant.once c.in-Some-before.entry
    ∙ ap (given_back key (Some c.in-Some-before.entry)) (c.self.view_is ∙ put) ∙ given_back-is key entry (Some c.in-Some-before.entry) earlier rising (sym c.in-Some-before.is ∙ before)
