use Rattle.std.proofs.Common.{◌≡◌, ◌+◌, ◌-◌, ℕ, cond, sym, ◌∙◌, ap, subst, rules}
use Rattle.std.specs.Prelude.{◌==◌}
use Rattle.tf_rows.specs.Counts.{Counted, Loses, PushesMore, Sealed, counted, with_lost}
use Rattle.tf_publish.proofs.Bounds.{lost, lost_is}
use Rattle.tf_publish.proofs.published.Published.count_pushed.Goals as goal

pub returns-clause-loses : goal.returns-clause-loses
returns-clause-loses g c =
    let old : Sealed = record { tables = c.self.inside.tables.tables; counts = record { rows_sealed = c.self.inside.tables.sealed; rows_held = c.self.inside.tables.held; publishes = c.self.inside.publishes } } in
    let copy : Counted = c.args.copy.now in
    let more : PushesMore (counted old) copy = subst (λ (s : Sealed). PushesMore (counted s) copy) (sym c.self.view_is) c.requires.more in
    let p : ℕ = c.publishes_after-self-inside.result in
    let after : c.pushed-after.result ≡ copy.tables.pushed.count = search rules in
    let before : c.pushed-before.result ≡ c.args.self.now.tables.pushed.count = search rules in
    let was : c.pushed-before.result ≡ old.tables.pushed.count = before ∙ sym (ap (λ (s : Sealed). s.tables.pushed.count) c.self.view_is) in
    let raised : p ≡ old.counts.publishes + cond ((copy.tables.pushed.count - old.tables.pushed.count) == 0) 0 1 =
    c.publishes_after-self-inside.ensures
    ∙ ap (λ (n : ℕ). old.counts.publishes + cond ((n - c.pushed-before.result) == 0) 0 1) after
    ∙ ap (λ (n : ℕ). old.counts.publishes + cond ((copy.tables.pushed.count - n) == 0) 0 1) was in
    let left : Loses old (record { tables = c.count_pushed.new.self.tables; counts = record { rows_sealed = c.count_pushed.new.self.sealed; rows_held = c.count_pushed.new.self.held; publishes = p } }) (copy.tables.pushed.count - old.tables.pushed.count) =
    subst (λ (t : Counted). Loses old (record { tables = t.tables; counts = record { rows_sealed = t.sealed; rows_held = t.held; publishes = p } }) (copy.tables.pushed.count - old.tables.pushed.count)) (sym c.count_pushed.ensures)
    (lost old copy more p raised) in
    subst (λ (s : Sealed). Loses s (record { tables = c.count_pushed.new.self.tables; counts = record { rows_sealed = c.count_pushed.new.self.sealed; rows_held = c.count_pushed.new.self.held; publishes = p } }) (copy.tables.pushed.count - s.tables.pushed.count)) c.self.view_is left

pub returns-clause-lost : goal.returns-clause-lost
returns-clause-lost g c =
    let old : Sealed = record { tables = c.self.inside.tables.tables; counts = record { rows_sealed = c.self.inside.tables.sealed; rows_held = c.self.inside.tables.held; publishes = c.self.inside.publishes } } in
    let copy : Counted = c.args.copy.now in
    let more : PushesMore (counted old) copy = subst (λ (s : Sealed). PushesMore (counted s) copy) (sym c.self.view_is) c.requires.more in
    let p : ℕ = c.publishes_after-self-inside.result in
    let after : c.pushed-after.result ≡ copy.tables.pushed.count = search rules in
    let before : c.pushed-before.result ≡ c.args.self.now.tables.pushed.count = search rules in
    let was : c.pushed-before.result ≡ old.tables.pushed.count = before ∙ sym (ap (λ (s : Sealed). s.tables.pushed.count) c.self.view_is) in
    let raised : p ≡ old.counts.publishes + cond ((copy.tables.pushed.count - old.tables.pushed.count) == 0) 0 1 =
    c.publishes_after-self-inside.ensures
    ∙ ap (λ (n : ℕ). old.counts.publishes + cond ((n - c.pushed-before.result) == 0) 0 1) after
    ∙ ap (λ (n : ℕ). old.counts.publishes + cond ((copy.tables.pushed.count - n) == 0) 0 1) was in
    ap (λ (t : Counted). record { tables = t.tables; counts = record { rows_sealed = t.sealed; rows_held = t.held; publishes = p } }) c.count_pushed.ensures
    ∙ lost_is old copy more p raised
    ∙ ap (λ (s : Sealed). with_lost (copy.tables.pushed.count - s.tables.pushed.count) (copy.held - s.counts.rows_held) s) c.self.view_is
