use Rattle.std.proofs.Common.{◌≡◌, Option, Some, None, sym, ◌∙◌, subst}
use Rattle.std.proofs.lemmas.Option.{none-some}
use Rattle.tf_table.specs.declared.key.Key.{Key}
use Rattle.tf_rows.specs.DueSet.{AreHeld, Keys, given_key}
use Rattle.tf_rows.proofs.HeldKeys.{held_grows, held_put, put_held}
use Rattle.tf_rows.proofs.due_set.DueSet.admit.Goals as goal

pub returns-in-Ok-clause-stays : goal.returns-in-Ok-clause-stays
returns-in-Ok-clause-stays g c = λ journal held.
    held_put c.self.inside.keys c.put.new.self c.in-Some.key (Some tt) c.in-Ok.ensures.rows journal
    (subst (λ (keys : Keys). AreHeld keys journal) (sym c.self.view_is) held)

pub returns-in-Ok-clause-holds : goal.returns-in-Ok-clause-holds
returns-in-Ok-clause-holds g c =
    held_grows c.rows_change_by_edits.ensures.rows c.args.self.now c.put.new.self c.args.entry.now
    (λ journal held. held_put c.self.inside.keys c.put.new.self c.in-Some.key (Some tt) c.in-Ok.ensures.rows journal (subst (λ (keys : Keys). AreHeld keys journal) (sym c.self.view_is) held))
    (λ key given. put_held c.self.inside.keys c.put.new.self c.in-Some.key key (Some tt) c.in-Ok.ensures.rows (given_key c.args.entry.now) (sym c.given_key.ensures ∙ c.in-Some.is) given)

-- an entry that gives no key
none_given : (found given : Option Key) → found ≡ given → found ≡ None → (key : Key) → given ≡ Some key → ⊥
none_given found given same none key is = none-some key (sym none ∙ same ∙ is)

pub returns-in-Some-taken_key-clause-holds : goal.returns-in-Some-taken_key-clause-holds
returns-in-Some-taken_key-clause-holds g c =
    held_grows c.rows_change_by_edits.ensures.rows c.args.self.now c.self.inside.keys c.args.entry.now
    (λ journal held. subst (λ (keys : Keys). AreHeld keys journal) (sym c.self.view_is) held)
    (λ key given free. absurd (none_given c.given_key.result (given_key c.args.entry.now) c.given_key.ensures c.in_default.is key given))

pub returns-in_default-taken_key-clause-holds : goal.returns-in_default-taken_key-clause-holds
returns-in_default-taken_key-clause-holds g c =
    held_grows c.rows_change_by_edits.ensures.rows c.args.self.now c.self.inside.keys c.args.entry.now
    (λ journal held. subst (λ (keys : Keys). AreHeld keys journal) (sym c.self.view_is) held)
    (λ key given free. absurd (none_given c.given_key.result (given_key c.args.entry.now) c.given_key.ensures c.in_default.is key given))
