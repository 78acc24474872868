-- Each field stands behind those before it, and the bytes so written are read back.
use Rattle.std.proofs.Common.{◌≡◌, ℕ, length, take, sym, ap, ◌∙◌, arith}
use Rattle.std.proofs.Math.Seq.{take-length}
use Rattle.tf_records.proofs.TransferBytes.{transfer_of-transfer_bytes}
use Rattle.tf_records.proofs.transfer.Transfer.to_bytes.Goals as goal

pub returns-clause-layout : goal.returns-clause-layout
returns-clause-layout c =
    let size : length c.write_u64-2.new.bytes ≡ 128 = omega arith in
    let whole : take 128 c.write_u64-2.new.bytes ≡ c.write_u64-2.new.bytes = ap (λ (n : ℕ). take n c.write_u64-2.new.bytes) (sym size) ∙ take-length c.write_u64-2.new.bytes in
    cc

pub returns-clause-read_back : goal.returns-clause-read_back
returns-clause-read_back c =
    let written = returns-clause-layout c in
    rw written (transfer_of-transfer_bytes c.args.self.now (
      c.write_u128.ensures.fits,
      (
        c.write_u128-2.ensures.fits,
        (
          c.write_u128-3.ensures.fits,
          (
            c.write_u128-4.ensures.fits,
            (
              c.write_u128-5.ensures.fits,
              (
                c.write_u128-6.ensures.fits,
                (
                  c.write_u64.ensures.fits,
                  (
                    c.write_u32.ensures.fits,
                    (
                      c.write_u32-2.ensures.fits,
                      (
                        c.write_u32-3.ensures.fits,
                        (
                          c.write_u16.ensures.fits,
                          (
                            c.write_u16-2.ensures.fits,
                            (c.write_u64-2.ensures.fits, tt),
                          ),
                        ),
                      ),
                    ),
                  ),
                ),
              ),
            ),
          ),
        ),
      ),
    ))
