-- What byteorder reads of the rest of the bytes is the number at the place.
use Rattle.tf_records.proofs.Bytes.{number_at-rest}
use Rattle.tf_records.proofs.little_endian.read_u16.Goals as goal

pub returns : goal.returns
returns c = number_at-rest c.args.place 2 c.read_u16.result c.args.bytes.now c.read_u16.ensures
