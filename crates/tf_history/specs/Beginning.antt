-- Beginnings of one journal.
use Rattle.std.specs.Prelude.{ℕ, ◌⊎◌, nat_lt, List, length, take, if◌then◌else◌}
use mathlib.Core.List.{IsPrefix}
use Rattle.tf_journal.specs.declared.entry.Entry.{Entry}

-- the longer of two journals, the first where they are equally long
abbrev pub longer : List Entry → List Entry → List Entry
longer seen other = if nat_lt (length seen) (length other) then other else seen

-- of two journals one begins the other
abbrev pub OneBegins : List Entry → List Entry → Type 0
OneBegins journal other = IsPrefix journal other ⊎ IsPrefix other journal

-- both are beginnings of one journal
abbrev pub AreOfOne : List Entry → List Entry → Type 0
AreOfOne journal other = (whole : List Entry) × IsPrefix journal whole × IsPrefix other whole
