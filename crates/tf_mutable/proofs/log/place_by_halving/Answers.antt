use Rattle.std.proofs.Common.{rules, ◌≡◌, Option, Some, None, IfSome, IfNone, sym, subst}
use Rattle.std.specs.List.{slice_get}
use Rattle.std.specs.List.Sorted.{IsBinarySearchResult}
use Rattle.std.specs.Option.{option_map}
use Rattle.std.proofs.lemmas.Fn.{always_returns_same}
use Rattle.tf_table.specs.declared.key.Key.{Key}
use Rattle.tf_table.specs.Key.{key_cmp}
use Rattle.tf_table.specs.Content.{entry_at}
use Rattle.tf_table.proofs.Keys.{keys_total, exact_keys}
use Rattle.tf_mutable.proofs.Sorting.{search_found, search_missing}
use Rattle.tf_mutable.proofs.log.place_by_halving.Goals as goal

pub returns-clause-found : goal.returns-clause-found
returns-clause-found g c =
    let rows = c.args.rows.now in
    let key = c.args.key.now in
    let ord = λ (r : Key × Option g.row.V.Denot). key_cmp r.0 key in
    let answer : IsBinarySearchResult ord rows c.binary_search_by.result = c.binary_search_by.ensures.position ord (always_returns_same _ _ _ (λ a r f' called. search rules)) in
    subst (λ found. IfSome found (λ p. option_map (λ (r : Key × Option g.row.V.Denot). r.0) (slice_get rows p) ≡ Some key)) (sym c.ok.ensures.value)
    (search_found key_cmp keys_total exact_keys rows key c.binary_search_by.result c.binary_search_by.ensures.bound answer)

pub returns-clause-missing : goal.returns-clause-missing
returns-clause-missing g c =
    let rows = c.args.rows.now in
    let key = c.args.key.now in
    let ord = λ (r : Key × Option g.row.V.Denot). key_cmp r.0 key in
    let answer : IsBinarySearchResult ord rows c.binary_search_by.result = c.binary_search_by.ensures.position ord (always_returns_same _ _ _ (λ a r f' called. search rules)) in
    subst (λ found. IfNone found (entry_at key rows ≡ None)) (sym c.ok.ensures.value) (search_missing key_cmp keys_total exact_keys rows key c.binary_search_by.result c.requires answer)
