-- The room that a store takes.
use Rattle.std.specs.Prelude.{◌+◌, ◌^◌, ◌<◌, max}
use prog.Memory.{align, size, up}
use denote.RattleType.{RattleType}
use denote.Param.{layout}
use denote.Memory.{lone}

-- a store whose mutable tables are of this type takes fewer than 2 ^ 63 bytes: its rows have 22,256 beside them, at multiples of
-- 16. Whoever makes a store of mutable tables that it doesn't name has to ask for this
abbrev pub FitsRows : RattleType → Type 0
FitsRows R = up (max (align (lone R.mir)) 16) (up 16 (up (align (layout R)) 0 + size (lone R.mir)) + 22256) < 2 ^ 63
