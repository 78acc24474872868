-- Each field stands behind those before it, and the bytes so written are read back.
use Rattle.std.proofs.Common.{◌≡◌, ℕ, ◌+◌, ◌++◌, length, take, sym, ap, ◌∙◌, arith}
use Rattle.std.proofs.Math.Seq.{take-length}
use Rattle.tf_records.proofs.AccountFilterBytes.{account_filter_of-account_filter_bytes}
use Rattle.tf_records.proofs.account_filter.AccountFilter.to_bytes.Goals as goal

pub returns-clause-layout : goal.returns-clause-layout
returns-clause-layout c =
    let reserved : length c.args.self.now.reserved ≡ 58 = omega arith in
    let part : take 104 c.write_bytes.new.bytes ≡ take 46 c.write_u16.new.bytes ++ c.args.self.now.reserved = ap (λ (n : ℕ). take (46 + n) c.write_bytes.new.bytes) (sym reserved) ∙ c.write_bytes.ensures in
    let size : length c.write_u32-3.new.bytes ≡ 128 = omega arith in
    let whole : take 128 c.write_u32-3.new.bytes ≡ c.write_u32-3.new.bytes = ap (λ (n : ℕ). take n c.write_u32-3.new.bytes) (sym size) ∙ take-length c.write_u32-3.new.bytes in
    cc

pub returns-clause-read_back : goal.returns-clause-read_back
returns-clause-read_back c =
    let reserved : length c.args.self.now.reserved ≡ 58 = omega arith in
    let written = returns-clause-layout c in
    rw written (account_filter_of-account_filter_bytes c.args.self.now (
      c.write_u128.ensures.fits,
      (
        c.write_u128-2.ensures.fits,
        (
          c.write_u64.ensures.fits,
          (
            c.write_u32.ensures.fits,
            (
              c.write_u16.ensures.fits,
              (
                reserved,
                (
                  c.write_u64-2.ensures.fits,
                  (
                    c.write_u64-3.ensures.fits,
                    (
                      c.write_u32-2.ensures.fits,
                      (c.write_u32-3.ensures.fits, tt),
                    ),
                  ),
                ),
              ),
            ),
          ),
        ),
      ),
    ))
