-- Each field is read at its place, and the fields so read spell the bytes.
use Rattle.std.proofs.Common.{◌≡◌, ℕ, ◌<◌, length, slice_index, arith}
use Rattle.tf_records.proofs.AccountBytes.{account_bytes-account_of}
use Rattle.tf_records.proofs.account.Account.from_bytes.Goals as goal

pub returns-clause-spelled : goal.returns-clause-spelled
returns-clause-spelled c =
    let size : length c.args.bytes.now ≡ 128 = omega arith in
    let small : (i : ℕ) → slice_index c.args.bytes.now i < 256 = λ i. omega (arith, c.type_inv.bytes i) in
    let law = account_bytes-account_of c.args.bytes.now size small in
    cc
