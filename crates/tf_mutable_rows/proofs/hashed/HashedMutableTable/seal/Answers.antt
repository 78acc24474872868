use Rattle.std.proofs.Common.{◌≡◌, Result, Ok, Err, IfOk, ◌∙◌}
use Rattle.tf_mutable_rows.proofs.hashed.HashedMutableTable.seal.Goals as goal

in_ok : {X E : Type 0} (P Q : X → Type 0) (r : Result X E) → ((x : X) → P x → Q x) → IfOk r P → IfOk r Q
in_ok P Q (Ok x) f h = f x h
in_ok P Q (Err e) f h = tt

pub returns-clause-sealed : goal.returns-clause-sealed
returns-clause-sealed g c =
    in_ok (λ sealed. sealed ≡ c.in_ok-log.log) (λ sealed. sealed ≡ c.args.self.now) c.seal-sealed.result
    (λ sealed same. same ∙ c.in_ok-log.ensures.rows ∙ c.self.view_is) c.seal-sealed.ensures.sealed
