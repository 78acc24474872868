-- The first key that has a value, of those at or above a key, or of those above it.
use Rattle.std.specs.Prelude.{◌≡◌, Option, Some, None, false, IsSome}
use Rattle.std.specs.Ordering.{is_lt, ord_min}
use Rattle.std.specs.declared.cmp.Ordering.TheVariants.{Less}
use Rattle.tf_table.specs.declared.key.Key.{Key}
use Rattle.tf_table.specs.Key.{key_cmp}

-- the key is one of these and has a value, and no lesser one of these has one
pub record IsFirst {X : Type 0} (IsAmong : Key → Type 0) (value : Key → Option X) (first : Key) : Type 0 where
  pub among : IsAmong first
  pub there : IsSome (value first)
  pub before : (key : Key) → IsAmong key → key_cmp key first ≡ Less → value key ≡ None

-- the same, or none of these has a value
abbrev pub IsFirstIfAny : {X : Type 0} → (Key → Type 0) → (Key → Option X) → Option Key → Type 0
IsFirstIfAny IsAmong value None = (key : Key) → IsAmong key → value key ≡ None
IsFirstIfAny IsAmong value (Some first) = IsFirst IsAmong value first

-- the same of the keys at or above one
abbrev pub IsFirstFrom : {X : Type 0} → Key → (Key → Option X) → Option Key → Type 0
IsFirstFrom from value found = IsFirstIfAny (λ key. is_lt (key_cmp key from) ≡ false) value found

-- the same of the keys above one
abbrev pub IsFirstAbove : {X : Type 0} → Key → (Key → Option X) → Option Key → Type 0
IsFirstAbove below value found = IsFirstIfAny (λ key. key_cmp below key ≡ Less) value found

-- the lesser of two keys, or the one that is there
abbrev pub lesser_key : Option Key → Option Key → Option Key
lesser_key None second = second
lesser_key (Some first) None = Some first
lesser_key (Some first) (Some second) = Some (ord_min key_cmp first second)
