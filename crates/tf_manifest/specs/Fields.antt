-- What contracts see of a manifest, by its fields.
use Rattle.tf_manifest.specs.View.{View}
use Rattle.tf_manifest.specs.declared.manifest.Manifest.TheInside.{Inside}

-- the tables of each row, and how many were pushed
abbrev pub view_of : {A N : Type 0} → Inside A N → View
view_of m = record {
  stamps = m.stamps;
  accounts = m.accounts;
  transfers = m.transfers;
  ids = m.ids;
  units = m.units;
  states = m.states;
  sums = m.sums;
  statuses = m.statuses;
  pushed = m.pushes;
}
