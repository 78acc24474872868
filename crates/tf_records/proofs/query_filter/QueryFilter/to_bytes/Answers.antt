-- Each field stands behind those before it, and the bytes so written are read back.
use Rattle.std.proofs.Common.{◌≡◌, ℕ, ◌+◌, ◌++◌, length, take, sym, ap, ◌∙◌, arith}
use Rattle.std.proofs.Math.Seq.{take-length}
use Rattle.tf_records.proofs.QueryFilterBytes.{query_filter_of-query_filter_bytes}
use Rattle.tf_records.proofs.query_filter.QueryFilter.to_bytes.Goals as goal

pub returns-clause-layout : goal.returns-clause-layout
returns-clause-layout c =
    let reserved : length c.args.self.now.reserved ≡ 6 = omega arith in
    let part : take 40 c.write_bytes.new.bytes ≡ take 34 c.write_u16.new.bytes ++ c.args.self.now.reserved = ap (λ (n : ℕ). take (34 + n) c.write_bytes.new.bytes) (sym reserved) ∙ c.write_bytes.ensures in
    let size : length c.write_u32-4.new.bytes ≡ 64 = omega arith in
    let whole : take 64 c.write_u32-4.new.bytes ≡ c.write_u32-4.new.bytes = ap (λ (n : ℕ). take n c.write_u32-4.new.bytes) (sym size) ∙ take-length c.write_u32-4.new.bytes in
    cc

pub returns-clause-read_back : goal.returns-clause-read_back
returns-clause-read_back c =
    let reserved : length c.args.self.now.reserved ≡ 6 = omega arith in
    let written = returns-clause-layout c in
    rw written (query_filter_of-query_filter_bytes c.args.self.now (
      c.write_u128.ensures.fits,
      (
        c.write_u64.ensures.fits,
        (
          c.write_u32.ensures.fits,
          (
            c.write_u32-2.ensures.fits,
            (
              c.write_u16.ensures.fits,
              (
                reserved,
                (
                  c.write_u64-2.ensures.fits,
                  (
                    c.write_u64-3.ensures.fits,
                    (
                      c.write_u32-3.ensures.fits,
                      (c.write_u32-4.ensures.fits, tt),
                    ),
                  ),
                ),
              ),
            ),
          ),
        ),
      ),
    ))
