use Rattle.std.proofs.Common.{◌≡◌, Result, Ok, Err, IfOk, OnOk, true, false, rules, refl, ap, sym, ◌∙◌, subst}
use Rattle.std.specs.Result.{is_err}
use Rattle.std.proofs.lemmas.Bool.{false≢true}
use Rattle.tf_sorted.specs.Rows.{IsRising}
use Rattle.tf_table.specs.Key.{key_cmp}
use Rattle.tf_mutable.specs.Mutable.{in_order, IsLogged}
use Rattle.tf_table.proofs.Keys.{keys_total, exact_keys}
use Rattle.tf_mutable.proofs.Logged.{in_order-rising}
use Rattle.tf_mutable.proofs.log.LogMutableTable.seal.Goals as goal
use Rattle.tf_mutable.proofs.log.LogMutableTable.seal.Goals.{then-not-self+else-is_err, else-not-self}

in_ok : {X E : Type 0} (P Q : X → Type 0) (r : Result X E) → ((x : X) → P x → Q x) → IfOk r P → IfOk r Q
in_ok P Q (Ok x) f h = f x h
in_ok P Q (Err e) f h = tt

not_err : {X E : Type 0} {P : Type 0} (r : Result X E) → is_err r ≡ false → OnOk r P → P
not_err (Ok x) e p = p
not_err (Err x) e p = absurd (false≢true (sym e))

pub returns-clause-sealed : goal.returns-clause-sealed
returns-clause-sealed g c =
    let rows = c.if-not-self.self-inside.rows.items in
    let sorted : IsRising key_cmp rows × (in_order rows ≡ c.args.self.now) = elim c.if-not-self.branch [
      | then-not-self+else-is_err w ↦ (
          let here : rows ≡ w.sort_by_key.new.rows.items = ap (λ s. s.rows.items) w.self-inside-is in
          let logged : IsLogged true w.sort_by_key.new.rows.items = not_err w.sort_by_key.result (sym w.if-is_err.ensures.value) w.sort_by_key.ensures.sorted in
          (subst (IsRising key_cmp) (sym here) (logged.rising refl), ap in_order here ∙ w.sort_by_key.ensures.same ∙ c.self.view_is))
      | else-not-self w ↦ (
          let here : rows ≡ c.self.inside.rows.items = ap (λ s. s.rows.items) w.self-inside-is in
          (subst (IsRising key_cmp) (sym here) (c.self.invariant.rising w.if-not-self.false), ap in_order here ∙ c.self.view_is))
    ] in
    let all : IfOk c.map_err.result (λ sealed. sealed ≡ c.deref.result.now) = search rules in
    in_ok (λ sealed. sealed ≡ c.deref.result.now) (λ sealed. sealed ≡ c.args.self.now) c.map_err.result
    (λ sealed same. same ∙ c.deref.ensures.value ∙ sym (in_order-rising key_cmp keys_total exact_keys rows sorted.0) ∙ sorted.1) all
