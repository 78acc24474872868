use Rattle.std.proofs.Common.{◌≡◌, drop}
use Rattle.std.specs.List.{position_from}
use Rattle.std.specs.Str.{bytes_eq}
use Rattle.tf_script.proofs.table.place.Given as goal

-- none of the entries so far has the name
abbrev pub invariant-loop-place : goal.invariant-loop-place
invariant-loop-place g l =
    position_from (λ entry. bytes_eq (g.T.Named.name_of entry) l.name) l.place (drop l.place l.table)
    ≡ position_from (λ entry. bytes_eq (g.T.Named.name_of entry) l.name) 0 l.table
