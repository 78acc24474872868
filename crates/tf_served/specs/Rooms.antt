-- The room that an allocator takes.
use Rattle.std.specs.Prelude.{◌≡◌}
use prog.Memory.{align, size}
use denote.RattleType.{RattleType}
use denote.Memory.{lone}

-- a value of the type is laid out as a reference: 8 bytes, at multiples of 8
pub record IsReference (R : RattleType) : Type 0 where
  pub size : size (lone R.mir) ≡ 8
  pub align : align (lone R.mir) ≡ 8
