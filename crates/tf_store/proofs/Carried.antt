-- What is known of one result's value, where another's is tied to it.
use Rattle.std.proofs.Common.{◌≡◌, true, false, Result, Ok, Err, IfOk, refl, subst, sym}
use Rattle.std.specs.Prelude.{is_ok}

-- what holds of a part of a value that was there holds of the same part of what was made of it
pub carried : {X Y H E F : Type 0} (from : Result X E) (to : Result Y F) (f : X → H) (t : Y → H) (P : H → Type 0)
    → (is_ok to ≡ true → is_ok from ≡ true) → IfOk to (λ y. IfOk from (λ x. t y ≡ f x)) → IfOk from (λ x. P (f x)) → IfOk to (λ y. P (t y))
carried (Ok x) (Ok y) f t P there same p = subst P (sym same) p
carried (Ok x) (Err e) f t P there same p = tt
carried (Err e) (Ok y) f t P there same p = let bad : false ≡ true = there refl in cc
carried (Err e) (Err d) f t P there same p = tt

-- what holds of a value by two facts
pub both_ok : {X E : Type 0} (result : Result X E) (P Q : X → Type 0) → IfOk result P → IfOk result Q → IfOk result (λ x. P x × Q x)
both_ok (Ok x) P Q p q = (p, q)
both_ok (Err e) P Q p q = tt

-- what holds of a value holds of the part that is it
pub same_ok : {X H E : Type 0} (result : Result X E) (t : X → H) (h : H) (P : H → Type 0) → IfOk result (λ x. t x ≡ h) → P h → IfOk result (λ x. P (t x))
same_ok (Ok x) t h P same p = subst P (sym same) p
same_ok (Err e) t h P same p = tt
