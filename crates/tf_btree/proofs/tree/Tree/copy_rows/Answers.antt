use Rattle.tf_btree.proofs.Words.{◌≡◌, suc, ◌≤◌, List, [], ◌∷◌, ◌++◌, length, Bool, true, false, not, cond, refl, sym, ◌∙◌, ap, arith, append_assoc, append-nil}
use Rattle.tf_btree.proofs.tree.Tree.copy_rows.Goals as goal

one_less : {X : Type 0} (all rest : List X) (x : X) → all ≡ x ∷ rest → suc (length rest) ≤ length all
one_less all rest x e = rw e (omega arith)

-- the next row copied, or all
module _ {X : Type 0} (copy left all : List X) (so_far : copy ++ left ≡ all) where
  one_copied : (new rest : List X) (x : X) (ok failed : Bool) → left ≡ x ∷ rest → new ≡ cond ok (copy ++ x ∷ []) copy → ok ≡ not failed → failed ≡ false → new ++ rest ≡ all
  one_copied new rest x ok failed step made tells is =
      let pushed : ok ≡ true = tells ∙ ap not is in
      ap (λ (l : List X). l ++ rest) (made ∙ ap (λ b. cond b (copy ++ x ∷ []) copy) pushed) ∙ append_assoc copy (x ∷ []) rest ∙ ap (λ (l : List X). copy ++ l) (sym step) ∙ so_far

  all_copied : left ≡ [] → copy ≡ all
  all_copied none = sym (append-nil copy) ∙ ap (λ (l : List X). copy ++ l) (sym none) ∙ so_far

pub returns-in_default-clause-ok : goal.returns-in_default-clause-ok
returns-in_default-clause-ok g c = tt

pub returns-in_default-clause-err : goal.returns-in_default-clause-err
returns-in_default-clause-err g c = refl

pub loop-key-init : goal.loop-key-init
loop-key-init g c = rw c.in-Ok.ensures.items c.rows-rows.ensures

pub returns-then-is_err-clause-ok : goal.returns-then-is_err-clause-ok
returns-then-is_err-clause-ok g c = tt

pub returns-then-is_err-clause-err : goal.returns-then-is_err-clause-err
returns-then-is_err-clause-err g c = refl

pub loop-key-smaller : goal.loop-key-smaller
loop-key-smaller g c = one_less c.loop-key.rows c.next.new.self _ c.in-Some.ensures.steps

pub loop-key-preserved : goal.loop-key-preserved
loop-key-preserved g c = one_copied c.loop-key.copy.items c.loop-key.rows c.args.self.now c.loop-key.invariant c.push.new.self.items c.next.new.self _ _ c.is_err.result c.in-Some.ensures.steps c.push.ensures.items c.is_err.ensures.negation c.if-is_err.false

pub returns-clause-ok : goal.returns-clause-ok
returns-clause-ok g c = all_copied c.loop-key.copy.items c.loop-key.rows c.args.self.now c.loop-key.invariant c.in_default-next.ensures.steps.0

pub returns-clause-err : goal.returns-clause-err
returns-clause-err g c = tt
