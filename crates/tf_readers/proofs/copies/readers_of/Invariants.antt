use Rattle.std.proofs.Common.{◌≡◌, vec_len}
use Rattle.std.specs.List.{All}
use Rattle.tf_readers.specs.Reader.{HasSeen}
use Rattle.tf_readers.proofs.copies.readers_of.Given as goal

abbrev pub invariant-loop : goal.invariant-loop
invariant-loop g l = record {
  count : vec_len l.readers ≡ l.counter;
  seen : All (HasSeen l.page) l.readers.items;
}
