-- Each field is read at its place, and the fields so read spell the bytes.
use Rattle.std.proofs.Common.{◌≡◌, ℕ, ◌<◌, length, slice_index, ◌∙◌, arith}
use Rattle.tf_records.specs.LittleEndian.{bytes_at}
use Rattle.tf_records.proofs.Bytes.{bytes_at-part}
use Rattle.tf_records.proofs.AccountFilterBytes.{account_filter_bytes-account_filter_of}
use Rattle.tf_records.proofs.account_filter.AccountFilter.from_bytes.Goals as goal

pub returns-clause-read : goal.returns-clause-read
returns-clause-read c size =
    let reserved : c.copy_from_slice.new.self ≡ bytes_at 46 58 c.args.bytes.now = c.copy_from_slice.ensures.after ∙ bytes_at-part 46 58 c.args.bytes.now in
    cc

pub returns-clause-spelled : goal.returns-clause-spelled
returns-clause-spelled c =
    let size : length c.args.bytes.now ≡ 128 = omega arith in
    let small : (i : ℕ) → slice_index c.args.bytes.now i < 256 = λ i. omega (arith, c.type_inv.bytes i) in
    let reserved : c.copy_from_slice.new.self ≡ bytes_at 46 58 c.args.bytes.now = c.copy_from_slice.ensures.after ∙ bytes_at-part 46 58 c.args.bytes.now in
    let law = account_filter_bytes-account_filter_of c.args.bytes.now size small in
    cc
