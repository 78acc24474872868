use Rattle.std.proofs.Common.{◌≡◌, [], ◌∷◌, ◌++◌, map, sym, ◌∙◌, ap, subst, inl, inr, rules}
use Rattle.tf_table.specs.GrowingFilter.{Knows}
use Rattle.tf_table.proofs.Growing.{known_behind}
use Rattle.tf_table.proofs.growing_filter.GrowingFilter.put.Goals as goal
use Rattle.tf_table.proofs.growing_filter.GrowingFilter.put.Goals.{then-self-eq0+in_ok-part+in_ok-reserve, else-self-eq0}

pub returns-clause-others : goal.returns-clause-others
returns-clause-others g c = λ other h.
    let old : Knows (c.self.inside.newest.items ∷ map (λ part. part.items) c.self.inside.older.items) other = subst (λ parts. Knows parts other) (sym c.self.view_is) h in
    let mid = c.if-self-eq0.self-inside in
    let between : Knows (mid.newest.items ∷ map (λ part. part.items) mid.older.items) other = elim c.if-self-eq0.branch [
      | then-self-eq0+in_ok-part+in_ok-reserve w ↦
          let moved : mid.older.items ≡ c.self.inside.older.items ++ c.self.inside.newest ∷ [] = ap (λ inside. inside.older.items) w.self-inside-is ∙ search rules in
          inr (subst (λ parts. Knows (map (λ part. part.items) parts) other) (sym moved) (known_behind (λ part. part.items) other c.self.inside.newest c.self.inside.older.items old))
      | else-self-eq0 w ↦ subst (λ inside. Knows (inside.newest.items ∷ map (λ part. part.items) inside.older.items) other) (sym w.self-inside-is) old
    ] in
    elim between [
      | inl here ↦ inl (c.put_into.ensures.others other here)
      | inr there ↦ inr there
    ]
