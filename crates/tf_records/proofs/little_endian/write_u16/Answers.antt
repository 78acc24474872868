-- What byteorder writes into the rest of the bytes stands behind those before the place.
use Rattle.std.proofs.Common.{arith}
use Rattle.tf_records.proofs.Bytes.{take-number_written}
use Rattle.tf_records.proofs.little_endian.write_u16.Goals as goal

pub returns-clause-written : goal.returns-clause-written
returns-clause-written c =
    take-number_written c.args.place 2 c.args.number c.args.bytes.now c.write_u16.new.buf _ _ (omega arith) c.write_u16.ensures
