-- Values of which a table has no key.
use Rattle.std.specs.Prelude.{◌≡◌, ℕ, ◌<◌, ◌^◌, ◌-◌, List, Option, Some, None}
use Rattle.tf_table.specs.declared.key.Key.{Key}
use Rattle.tf_table.specs.Content.{entry_at}
use Rattle.tf_manifest.specs.Rows.{key_of}
use Rattle.tf_look_ups.specs.declared.gapped.Gap.{Gap}

-- of the values of a gap a table has no key without a timestamp
abbrev pub IsGap : {V : Type 0} → Gap → List (Key × Option V) → Type 0
IsGap gap rows = (value : ℕ) → gap.above < value → value < gap.below → entry_at (key_of value 0) rows ≡ None

-- the value of a key, or the greatest one where there is none
abbrev pub upper_end : Option Key → ℕ
upper_end (Some key) = key.value
upper_end None = 2 ^ 128 - 1
