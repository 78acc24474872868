-- Conditions that are met one after another.
use Rattle.std.proofs.Common.{◌≡◌, ◌∙◌, sym, refl, ap, subst, ℕ, ◌+◌, ◌<◌, Bool, true, false, not, ◌&&◌, ◌||◌, List, Option, Some, take, length, get_or}
use Rattle.std.specs.Prelude.{nat_eq, Result, Ok, Err, IfErr, IfOk}
use Rattle.std.specs.Result.{IsOkAnd}
use Rattle.std.specs.List.{list_all}
use Rattle.std.proofs.lemmas.Bool.{ne_eqb}
use Rattle.std.proofs.lemmas.List.Folds.{list_all_more}

-- what holds of a value that there is, by both
pub ok-both : {T E C : Type 0} (r : Result T E) (P Q : T → Type 0) → IsOkAnd r P → IfOk r Q → ((x : T) → P x → Q x → C) → C
ok-both (Ok x) P Q p q k = k x p q
ok-both (Err e) P Q p q k = absurd p

and-true : (b : Bool) → (b && true) ≡ b
and-true true = refl
and-true false = refl

-- what holds of what there is, where it is given on
pub given-ok : {T E : Type 0} (found : Result (Option T) E) (given : Result T E) (P : Option T → Type 0) (Q : T → Type 0) → IfOk given (λ x. found ≡ Ok (Some x)) → IfOk found P → ((x : T) → P (Some x) → Q x) → IfOk given Q
given-ok found (Ok x) P Q is p k = k x (subst (λ r. IfOk r P) is p)
given-ok found (Err e) P Q is p k = tt

-- and of a refusal
pub given-err : {T E : Type 0} (found : Result (Option T) E) (given : Result T E) (P : E → Type 0) → IfErr given (λ e. found ≡ Err e) → IfErr found P → IfErr given P
given-err found (Ok x) P is p = tt
given-err found (Err e) P is p = subst (λ r. IfErr r P) is p

-- where 0 is asked for, all is left
pub unasked : (v : ℕ) (b h : Bool) → v ≡ 0 → b ≡ (b && (nat_eq v 0 || h))
unasked v b h e = rw e (sym (and-true b))

-- else what the index has
pub asked : (v : ℕ) (h : Bool) → (v ≡ 0 → ⊥) → h ≡ (nat_eq v 0 || h)
asked v h e = rw (ne_eqb v 0 e) refl

-- and whether there is a scan then
pub none-more : (v : ℕ) (b : Bool) → v ≡ 0 → b ≡ (b || not (nat_eq v 0))
none-more v true e = refl
none-more v false e = rw e refl

pub some-more : (v : ℕ) (b : Bool) → (v ≡ 0 → ⊥) → true ≡ (b || not (nat_eq v 0))
some-more v true e = refl
some-more v false e = rw (ne_eqb v 0 e) refl

and-assoc : (a b c : Bool) → ((a && b) && c) ≡ (a && (b && c))
and-assoc true b c = refl
and-assoc false b c = refl

or-not : (a b c : Bool) → ((a || not b) || not c) ≡ (a || not (b && c))
or-not true b c = refl
or-not false true c = refl
or-not false false c = refl

-- one more condition
pub one-met : {X : Type 0} (p : X → Bool) (xs : List X) (i : ℕ) (d : X) (new old first : Bool) → i < length xs → new ≡ (old && p (get_or xs i d)) → old ≡ (first && list_all p (take i xs)) → new ≡ (first && list_all p (take (i + 1) xs))
one-met p xs i d new old first h e f =
    e ∙ ap (λ b. b && p (get_or xs i d)) f ∙ and-assoc first (list_all p (take i xs)) (p (get_or xs i d)) ∙ ap (λ b. first && b) (sym (list_all_more p xs i d h))

pub one-asked : {X : Type 0} (p : X → Bool) (xs : List X) (i : ℕ) (d : X) (new old first : Bool) → i < length xs → new ≡ (old || not (p (get_or xs i d))) → old ≡ (first || not (list_all p (take i xs))) → new ≡ (first || not (list_all p (take (i + 1) xs)))
one-asked p xs i d new old first h e f =
    e ∙ ap (λ b. b || not (p (get_or xs i d))) f ∙ or-not first (list_all p (take i xs)) (p (get_or xs i d)) ∙ ap (λ b. first || not b) (sym (list_all_more p xs i d h))
