use Rattle.tf_store.proofs.assembly.over_rows.Goals as goal

pub over_made-requires-clause-empty : goal.over_made-requires-clause-empty
over_made-requires-clause-empty g c = c.new-rows.ensures.empty

pub over_made-requires-clause-sealed : goal.over_made-requires-clause-sealed
over_made-requires-clause-sealed g c = (c.args.registries.now.limit, c.new-rows.ensures.sealed)

pub over_made-requires-clause-refusal : goal.over_made-requires-clause-refusal
over_made-requires-clause-refusal g c = c.new-rows.ensures.refusal

pub returns-clause-sealed : goal.returns-clause-sealed
returns-clause-sealed g c = c.over_made.ensures.sealed c.args.registries.now.limit c.new-rows.ensures.sealed
