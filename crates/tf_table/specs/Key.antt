-- The order of keys.
use Rattle.std.specs.Ordering.{nat_cmp, ordering_then}
use Rattle.std.specs.declared.cmp.Ordering.{Ordering}
use Rattle.tf_table.specs.declared.key.Key.{Key}

-- by value, and then by timestamp
abbrev pub key_cmp : Key → Key → Ordering
key_cmp a b = ordering_then (nat_cmp a.value b.value) (nat_cmp a.timestamp b.timestamp)
