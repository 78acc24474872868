use Rattle.std.proofs.Common.{◌≡◌, ◌∙◌, [], ap, subst, sym}
use Rattle.std.specs.Prelude.{IfOk, vec_len}
use Rattle.std.specs.List.{All}
use Rattle.left_right.specs.Handles.{published}
use Rattle.tf_history.specs.Written.{Written}
use Rattle.tf_readers.specs.Reader.{HasSeen}
use Rattle.tf_store.proofs.Carried.{both_ok, carried, same_ok}
use Rattle.tf_store.proofs.opening.Store+Forest+Rows+T+A+S+A+Copies+V+A+S+R+A+S.new.Goals as goal

pub new-page-requires : goal.new-page-requires
new-page-requires g c = c.in-Ok.ensures.versions.1 ∙ sym (c.front.ensures ∙ ap (λ (w : Written). w.journal) c.in-Ok.ensures.names.1)

pub over_rows-requires-clause-names : goal.over_rows-requires-clause-names
over_rows-requires-clause-names g c = c.in-Ok.ensures.names

pub over_rows-requires-clause-latest : goal.over_rows-requires-clause-latest
over_rows-requires-clause-latest g c = c.in-Ok.ensures.versions.0

pub over_rows-requires-clause-shown : goal.over_rows-requires-clause-shown
over_rows-requires-clause-shown g c =
    let empty = c.new-page.ensures ∙ c.front.ensures ∙ ap (λ (w : Written). w.journal) c.in-Ok.ensures.names.1 in
    subst (λ l. IfOk c.open-opened.result (λ o. published o.0 ≡ l)) empty c.open-opened.ensures.shown

pub over_rows-requires-clause-none : goal.over_rows-requires-clause-none
over_rows-requires-clause-none g c = c.open-opened.ensures.refusal

pub returns-clause-empty : goal.returns-clause-empty
returns-clause-empty g c = c.over_rows.ensures.empty

pub returns-clause-fresh : goal.returns-clause-fresh
returns-clause-fresh g c = c.over_rows.ensures.fresh

pub returns-clause-readable : goal.returns-clause-readable
returns-clause-readable g c = c.over_rows.ensures.readable

pub returns-clause-sealed : goal.returns-clause-sealed
returns-clause-sealed g c = c.over_rows.ensures.sealed

pub returns-clause-shares : goal.returns-clause-shares
returns-clause-shares g c =
    same_ok c.over_rows.result (λ r. r.1) c.in-Ok.begun.1 (λ l. (vec_len l ≡ c.args.shares) × All (λ s. s ≡ 0) l.items) c.over_rows.ensures.shares c.in-Ok.ensures.shares

pub returns-clause-readers : goal.returns-clause-readers
returns-clause-readers g c =
    let empty = c.new-page.ensures ∙ c.front.ensures ∙ ap (λ (w : Written). w.journal) c.in-Ok.ensures.names.1 in
    carried c.open-opened.result c.over_rows.result (λ o. o.1) (λ r. r.2) (λ h. (vec_len h ≡ c.args.readers) × All (HasSeen []) h.items)
    c.over_rows.ensures.opened c.over_rows.ensures.beside
    (both_ok c.open-opened.result (λ o. vec_len o.1 ≡ c.args.readers) (λ o. All (HasSeen []) o.1.items) c.open-opened.ensures.count
    (subst (λ l. IfOk c.open-opened.result (λ o. All (HasSeen l) o.1.items)) empty c.open-opened.ensures.readers))

pub returns-clause-refusal : goal.returns-clause-refusal
returns-clause-refusal g c = c.over_rows.ensures.refusal

pub returns-in-Err-clause-refusal : goal.returns-in-Err-clause-refusal
returns-in-Err-clause-refusal g c = c.in-Err.ensures.refusal
