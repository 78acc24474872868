use Rattle.std.proofs.Common.{refl}
use Rattle.std.proofs.lemmas.Result.{IfOk-from_err}
use Rattle.tf_store.proofs.Published.{whatever_err}
use Rattle.tf_store.proofs.batches.Store+Forest+R+A+C+A+S.create_transfers.Goals as goal

pub returns-clause-run : goal.returns-clause-run
returns-clause-run g c = rw c.in_ok-kept.ensures.copy at c.create.ensures.run

pub returns-clause-sealed : goal.returns-clause-sealed
returns-clause-sealed g c = c.create.ensures.sealed

pub returns-clause-readable : goal.returns-clause-readable
returns-clause-readable g c = c.create.ensures.readable

pub returns-clause-share : goal.returns-clause-share
returns-clause-share g c = c.create.ensures.share

pub returns-clause-receipt : goal.returns-clause-receipt
returns-clause-receipt g c = rw c.in_ok-kept.ensures.copy at c.create.ensures.receipt

pub returns-clause-refused : goal.returns-clause-refused
returns-clause-refused g c = c.create.ensures.refused

pub returns-in_err-kept-clause-sealed : goal.returns-in_err-kept-clause-sealed
returns-in_err-kept-clause-sealed g c = refl

pub returns-in_err-kept-clause-readable : goal.returns-in_err-kept-clause-readable
returns-in_err-kept-clause-readable g c = refl

pub returns-in_err-kept-clause-share : goal.returns-in_err-kept-clause-share
returns-in_err-kept-clause-share g c = refl

pub returns-in_err-kept-clause-receipt : goal.returns-in_err-kept-clause-receipt
returns-in_err-kept-clause-receipt g c = IfOk-from_err _ _ c.from_residual.ensures.0

pub returns-in_err-kept-clause-refused : goal.returns-in_err-kept-clause-refused
returns-in_err-kept-clause-refused g c = whatever_err c.from_residual.result (refl, refl)

pub returns-clause-unchanged : goal.returns-clause-unchanged
returns-clause-unchanged g c = c.create.ensures.unchanged

pub returns-in_err-kept-clause-unchanged : goal.returns-in_err-kept-clause-unchanged
returns-in_err-kept-clause-unchanged g c = whatever_err c.from_residual.result refl
