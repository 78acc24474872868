use borrow.Author.Count.{falls}
use Rattle.std.proofs.Common.{◌≡◌, ℕ, ◌+◌, ◌<◌, ◌≤◌, ◌∙◌, ap, sym, subst, length, take, List, [], ◌∷◌, ◌++◌, length-append}
use Rattle.std.proofs.lemmas.List.{take_more, take_all}
use Rattle.tf_registry.specs.Table.{Shown}
use Rattle.tf_manifest.proofs.kind_rows.KindRows.again.Goals as goal

pub loop-at-init : goal.loop-at-init
loop-at-init g c = (c.in_ok-list.ensures.items, ap length c.in_ok-list.ensures.items)

pub loop-at-smaller : goal.loop-at-smaller
loop-at-smaller g c = falls c.len-at-end.result c.loop-at.at c.loop-at-test.true

pub loop-at-preserved : goal.loop-at-preserved
loop-at-preserved g c =
    let count : c.len-at-end.result ≡ length c.args.self.now = c.len-at-end.ensures ∙ c.self.inside.list.ok.0 ∙ ap length c.self.view_is in
    let within : c.loop-at.at < length c.args.self.now = subst (λ (n : ℕ). c.loop-at.at < n) count c.loop-at-test.true in (
      c.in_ok-push.ensures.items
          ∙ ap (λ (rows : List (List (Shown g.row.V.Denot))). rows ++ (c.in_ok-again.field-0 ∷ [])) c.loop-at.invariant.0
          ∙ ap (λ (row : List (Shown g.row.V.Denot)). take c.loop-at.at c.args.self.now ++ (row ∷ [])) (c.in_ok-again.ensures.copy ∙ c.row.ensures.row)
          ∙ sym (take_more c.args.self.now c.loop-at.at [] within),
      ap length c.in_ok-push.ensures.items ∙ length-append c.loop-at.list.items (c.in_ok-again.field-0 ∷ []) ∙ ap (λ n. n + 1) c.loop-at.invariant.1,
    )

pub returns-clause-copy : goal.returns-clause-copy
returns-clause-copy g c =
    let count : c.len-at-end.result ≡ length c.args.self.now = c.len-at-end.ensures ∙ c.self.inside.list.ok.0 ∙ ap length c.self.view_is in
    c.loop-at.invariant.0 ∙ take_all c.loop-at.at c.args.self.now (subst (λ (n : ℕ). n ≤ c.loop-at.at) count c.loop-at-test.false)
