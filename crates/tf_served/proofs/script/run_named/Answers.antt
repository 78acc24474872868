use Rattle.std.proofs.Common.{arith}
use Rattle.tf_served.proofs.script.run_named.Goals as goal

pub run_with_rows-requires-room-T-EmptyRows : goal.run_with_rows-requires-room-T-EmptyRows
run_with_rows-requires-room-T-EmptyRows g c κs within = rw (c.requires.reference.size, c.requires.reference.align) (omega arith)

pub run_with_rows-requires-room-T-MutableRows : goal.run_with_rows-requires-room-T-MutableRows
run_with_rows-requires-room-T-MutableRows g c κs within = rw (c.requires.reference.size, c.requires.reference.align) (omega arith)

pub run_with_rows-requires-room-T-SealRows : goal.run_with_rows-requires-room-T-SealRows
run_with_rows-requires-room-T-SealRows g c κs within = rw (c.requires.reference.size, c.requires.reference.align) (omega arith)

pub run_with_rows-requires-room-T-Destruct : goal.run_with_rows-requires-room-T-Destruct
run_with_rows-requires-room-T-Destruct g c κs within = rw (c.requires.reference.size, c.requires.reference.align) (omega arith)

pub run_with_rows-requires-clause-fits : goal.run_with_rows-requires-clause-fits
run_with_rows-requires-clause-fits g c = rw (c.requires.reference.size, c.requires.reference.align) (omega arith)
