-- How a table lays out its rows: the keys in one run, the entries in another form.
use Rattle.std.specs.Prelude.{◌≡◌, ℕ, ◌-◌, ◌<◌, List, Option, length, map, slice_index_or}
use Rattle.std.specs.List.{zip}
use Rattle.tf_sorted.specs.Rows.{IsRising}
use Rattle.tf_table.specs.declared.key.Key.{Key}
use Rattle.tf_table.specs.declared.entries.Entries.{Entries}
use Rattle.tf_table.specs.declared.span.Span.{Span}
use Rattle.tf_table.specs.Entries.{entries_of, IsStored}
use Rattle.tf_table.specs.Filter.{HoldsEach}
use Rattle.tf_table.specs.Key.{key_cmp}
use Rattle.tf_table.specs.Span.{HasSpan}

-- each key with its entry
abbrev pub rows_of : {V A : Type 0} → List Key → Entries V A → List (Key × Option V)
rows_of keys entries = zip keys (entries_of (length keys) entries)

-- there are as many entries as keys
abbrev pub IsPaired : {V A : Type 0} → List Key → Entries V A → Type 0
IsPaired keys entries = length (entries_of (length keys) entries) ≡ length keys

-- there is room for just so many keys, and for as many entries where they are a run
abbrev pub IsFitted : {V A : Type 0} → ℕ → ℕ → Entries V A → Type 0
IsFitted room keys_room entries = (keys_room ≡ room) × IsStored room entries

-- the keys rise, and the least, the greatest and the span of the timestamps stand apart too
pub record IsLaidOut {V A : Type 0} (least greatest : Key) (span : Option Span) (keys : List Key) (entries : Entries V A) : Type 0 where
  pub paired : IsPaired keys entries
  pub rising : IsRising key_cmp (rows_of keys entries)
  pub first : 0 < length keys → least ≡ slice_index_or keys 0 least
  pub last : 0 < length keys → greatest ≡ slice_index_or keys (length keys - 1) greatest
  pub times : HasSpan span (map (λ key. key.timestamp) keys)

-- what always holds of a table: its rows are laid out, with no more room than they need, and its filter holds each key
pub record IsSealed {V A : Type 0} (least greatest : Key) (span : Option Span) (words : List ℕ) (filter_words keys_room : ℕ) (keys : List Key) (entries : Entries V A) : Type 0 where
  pub laid : IsLaidOut least greatest span keys entries
  pub fitted : IsFitted (length keys) keys_room entries
  pub held : HoldsEach words filter_words keys

-- rows that came one after another, and how many there is room for
pub record Drafted (V : Type 0) : Type 0 where
  pub rows : List (Key × Option V)
  pub room : ℕ
