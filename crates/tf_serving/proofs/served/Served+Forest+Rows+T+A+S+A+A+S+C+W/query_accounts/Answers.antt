use Rattle.std.proofs.Common.{refl}
use Rattle.tf_script.specs.Command.{query}
use Rattle.tf_script.specs.declared.command.Query.TheVariants.{Accounts}
use Rattle.tf_serving.proofs.Serving.{read_answered, read_refused}
use Rattle.tf_serving.proofs.served.Served+Forest+Rows+T+A+S+A+A+S+C+W.query_accounts.Goals as goal

pub returns-in-Ok-clause-served : goal.returns-in-Ok-clause-served
returns-in-Ok-clause-served g c = read_answered _ _ (query (Accounts c.args.filter.now)) _ _ refl refl c.in-Ok.ensures.read c.query_accounts.ensures.refusal

pub returns-in-Err-clause-served : goal.returns-in-Err-clause-served
returns-in-Err-clause-served g c = read_refused _ _ (query (Accounts c.args.filter.now)) c.in-Err.refusal refl refl refl c.in-Err.ensures.read
