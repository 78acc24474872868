use Rattle.tf_main.specs.Line.{stored_line, shares_line}
use Rattle.tf_main.proofs.Fronts.{AppendsPart-more, Writes-Appends, Writes-failed}
use Rattle.tf_main.proofs.line.write_shares.Goals as goal

pub returns-in_err-write_number : goal.returns-in_err-write_number
returns-in_err-write_number g c = Writes-failed _ _ _ _ c.from_residual.ensures.0
    (AppendsPart-more _ _ (stored_line c.args.stored) (shares_line c.args.shares) c.in_err-write_number.ensures)

pub returns : goal.returns
returns g c = Writes-Appends _ (g.W.Write.contents c.write_number.new.out) _ _ (stored_line c.args.stored) (shares_line c.args.shares)
    c.in_ok-write_number.ensures c.write_number-2.ensures
