-- A version may be shared among threads, over any allocator that may be and whose blocks any thread may give back. It is shown
-- part by part: the shelves of a registry, the registry, the rows of a kind of value, the manifest, the version.
use Rattle.std.proofs.Common.{ℕ, ◌-◌}
use Rattle.std.proofs.Crossing.{crosses}
use Rattle.std.proofs.CrossingOver as over
use Rattle.std.specs.declared.alloc.Allocator as Allocator
use Rattle.std.specs.contracts.vec.Vec as Vec
use Rattle.std.specs.contracts.sync.Arc as Arc
use Rattle.boxcar.specs.contracts.vec.Vec as Shelf
use Rattle.boxcar.specs.contracts.table.Table as Table
use Rattle.boxcar.specs.contracts.table.Row as Row
use Rattle.boxcar.specs.contracts.tag.Tag as Tag
use Rattle.boxcar.specs.contracts.table.Entry as Entry
use Rattle.boxcar.specs.contracts.slot.OnceSlot as Slot
use Rattle.boxcar.specs.declared.table.Keeps as Keeps
use Rattle.boxcar.specs.contracts.table.Table.TheInside as TableIn
use Rattle.boxcar.specs.contracts.vec.Vec.TheInside as ShelfIn
use Rattle.boxcar.specs.Table.{others, first, span, Tagged}
use Rattle.boxcar.proofs.Sent.{slot_send, slot_sync, written_send, written_sync, tag_send, tag_sync}
use Rattle.tf_registry.specs.declared.naming.TableValue as TableValue
use Rattle.tf_registry.specs.declared.naming.Naming as Naming
use Rattle.tf_registry.specs.contracts.description.Description as Description
use Rattle.tf_registry.specs.contracts.registry.Registry as Registry
use Rattle.tf_registry.specs.contracts.tables.Tables as Tables
use Rattle.tf_registry.proofs.tables.Tables.TheSendSync as tables
use Rattle.tf_manifest.specs.declared.kinds.RowValue as RowValue
use Rattle.tf_manifest.specs.contracts.kind_rows.KindRows as KindRows
use Rattle.tf_manifest.specs.contracts.manifest.Manifest as Manifest
use Rattle.tf_query.specs.contracts.version.Version as Version
use Rattle.tf_registry.specs.contracts.registry.Registry.TheInside as RegistryIn
use Rattle.tf_manifest.specs.contracts.kind_rows.KindRows.TheInside as KindRowsIn
use Rattle.tf_manifest.specs.contracts.manifest.Manifest.TheInside as ManifestIn
use Rattle.tf_query.specs.contracts.version.Version.TheInside as VersionIn
use Rattle.tf_records.proofs.account.Account.TheSendSync as account
use Rattle.tf_records.proofs.transfer.Transfer.TheSendSync as transfer
use Rattle.tf_records.proofs.sums.Sums.TheSendSync as sums
use Rattle.tf_journal.proofs.status.Status.TheSendSync as status
use Rattle.tf_manifest.proofs.kinds.Stored.TheSendSync as stored
use Rattle.tf_manifest.proofs.value.IdStamp.TheSendSync as id_stamp
use Rattle.tf_manifest.proofs.value.State.TheSendSync as state
use Rattle.tf_registry.proofs.pushes.Pushes.TheSendSync as pushes
use denote.RattleType.{RattleType}
use denote.Struct.Declared.{shape}
use denote.Struct.Struct.{Struct}
use denote.Param.Send.{IsSend, IsSync, Frees, sendable, view_send, view_sync, recorded_send, recorded_sync, struct_send, struct_sync}

ruleset values = (stored.the_send, stored.the_sync, account.the_send, account.the_sync, transfer.the_send, transfer.the_sync, sums.the_send, sums.the_sync, status.the_send, status.the_sync, id_stamp.the_send, id_stamp.the_sync, state.the_send, state.the_sync, pushes.the_send, pushes.the_sync)

ruleset slots = (crosses, slot_send, slot_sync, written_send, written_sync, tag_send, tag_sync)

tag_field-send : IsSend Tag.the_field.row
tag_field-send = search (tag_send, crosses, sendable) depth 20

tag_field-sync : IsSync Tag.the_field.row
tag_field-sync = search (tag_sync, crosses, sendable) depth 20

module _ (A : RattleType) (a : Allocator.Ghosts A.Denot) (A-send : IsSend A) (A-sync : IsSync A) (frees : Frees a a.dealloc_token) where
  vec-send : (T : RattleType) → IsSend T → IsSend (Vec.the_row T A a)
  vec-send T s = search over.crosses

  vec-sync : (T : RattleType) → IsSync T → IsSync (Vec.the_row T A a)
  vec-sync T y = search over.crosses

  arc-send : (T : RattleType) → IsSend T → IsSync T → IsSend (Arc.the_row T A a)
  arc-send T s y = search over.crosses

  arc-sync : (T : RattleType) → IsSend T → IsSync T → IsSync (Arc.the_row T A a)
  arc-sync T s y = search over.crosses

  module _ (T : RattleType) (T-send : IsSend T) (T-sync : IsSync T) where
    module _ (E : RattleType) (holds : mathlib.Core.List.List ℕ → T.Denot → Type 0) where
      row-send : IsSend (Vec.the_row (Slot.the_row T E record { holds = holds }) A a)
      row-send = vec-send _ (slot_send T E holds T-send)

      row-sync : IsSync (Vec.the_row (Slot.the_row T E record { holds = holds }) A a)
      row-sync = vec-sync _ (slot_sync T E holds T-send T-sync)

    module _ (P : RattleType) (k : Keeps.Ghosts P.Denot T.Denot) where
      buckets-send : IsSend (Vec.the_field (Slot.the_row (Vec.the_row (Slot.the_row T (Entry.the_row P) record { holds = λ t x. k.holds (others t) (first t - 32) x }) A a) Row.the_row record { holds = λ t b. Tagged (others t) (span (first t)) (span (first t)) b.items }) A a).row
      buckets-send = search (row-send, vec-send, slots)

      buckets-sync : IsSync (Vec.the_field (Slot.the_row (Vec.the_row (Slot.the_row T (Entry.the_row P) record { holds = λ t x. k.holds (others t) (first t - 32) x }) A a) Row.the_row record { holds = λ t b. Tagged (others t) (span (first t)) (span (first t)) b.items }) A a).row
      buckets-sync = search (row-send, row-sync, vec-sync, slots)

      table_in-send : IsSend (TableIn.the_row T P A k a)
      table_in-send =
          let S = TableIn.the_type T P A k a in
          recorded_send (Struct (shape S)) S.D S.to S.to_one (struct_send (shape S) (buckets-send, (A-send, (tag_field-send, tt))))

      table_in-sync : IsSync (TableIn.the_row T P A k a)
      table_in-sync =
          let S = TableIn.the_type T P A k a in
          recorded_sync (Struct (shape S)) S.D S.to S.to_one (struct_sync (shape S) (buckets-sync, (A-sync, (tag_field-sync, tt))))

      table-send : IsSend (Table.the_row T P A k a)
      table-send = view_send (TableIn.the_row T P A k a) _ _ _ _ table_in-send

      table-sync : IsSync (Table.the_row T P A k a)
      table-sync = view_sync (TableIn.the_row T P A k a) _ _ _ _ table_in-sync

      shelf_in-send : IsSend (ShelfIn.the_row T A P a k)
      shelf_in-send = search (table-send, slots, sendable) depth 60 fits 20000

      shelf_in-sync : IsSync (ShelfIn.the_row T A P a k)
      shelf_in-sync = search (table-sync, slots, sendable) depth 60 fits 20000

      shelf-send : IsSend (Shelf.the_row T A P a k)
      shelf-send = view_send (ShelfIn.the_row T A P a k) _ _ _ _ shelf_in-send

      shelf-sync : IsSync (Shelf.the_row T A P a k)
      shelf-sync = view_sync (ShelfIn.the_row T A P a k) _ _ _ _ shelf_in-sync

  module _ (V : RattleType) where
    description-send : IsSend (Description.the_row V A a)
    description-send = search (crosses, sendable) depth 60 fits 20000

    description-sync : IsSync (Description.the_row V A a)
    description-sync = search (crosses, sendable) depth 60 fits 20000

    module _ (v : TableValue.Ghosts V.Denot) where
      registry_in-send : IsSend (RegistryIn.the_row V A v a)
      registry_in-send = search (shelf-send, description-send, description-sync, sendable) depth 60 fits 20000

      registry_in-sync : IsSync (RegistryIn.the_row V A v a)
      registry_in-sync = search (shelf-sync, description-send, description-sync, sendable) depth 60 fits 20000

      registry-send : IsSend (Registry.the_row V A v a)
      registry-send = view_send (RegistryIn.the_row V A v a) _ _ _ _ registry_in-send

      registry-sync : IsSync (Registry.the_row V A v a)
      registry-sync = view_sync (RegistryIn.the_row V A v a) _ _ _ _ registry_in-sync

      module _ (N : RattleType) (n : Naming.Ghosts N.Denot) (V-send : IsSend V) (V-sync : IsSync V) (N-send : IsSend N) (N-sync : IsSync N) where
        tables-send : IsSend (Tables.the_row V A N v a n)
        tables-send = search (tables.the_send, A-send, A-sync, frees, V-send, V-sync, crosses, over.crosses, sendable) depth 20

        tables-sync : IsSync (Tables.the_row V A N v a n)
        tables-sync = search (tables.the_sync, A-send, A-sync, frees, V-send, V-sync, crosses, over.crosses, sendable) depth 20

        module _ (r : RowValue.Ghosts V.Denot) where
          kind_rows_in-send : IsSend (KindRowsIn.the_row V A N r v a n)
          kind_rows_in-send = search (registry-send, registry-sync, tables-send, vec-send, arc-send, crosses, sendable) depth 60 fits 20000

          kind_rows_in-sync : IsSync (KindRowsIn.the_row V A N r v a n)
          kind_rows_in-sync = search (registry-send, registry-sync, tables-sync, vec-sync, arc-sync, crosses, sendable) depth 60 fits 20000

          kind_rows-send : IsSend (KindRows.the_row V A N r v a n)
          kind_rows-send = view_send (KindRowsIn.the_row V A N r v a n) _ _ _ _ kind_rows_in-send

          kind_rows-sync : IsSync (KindRows.the_row V A N r v a n)
          kind_rows-sync = view_sync (KindRowsIn.the_row V A N r v a n) _ _ _ _ kind_rows_in-sync

          kind_rows_field-send : IsSend (KindRows.the_field V A N r v a n).row
          kind_rows_field-send = search (kind_rows_in-send, sendable)

          kind_rows_field-sync : IsSync (KindRows.the_field V A N r v a n).row
          kind_rows_field-sync = search (kind_rows_in-sync, sendable)

  module _ (N : RattleType) (n : Naming.Ghosts N.Denot) (N-send : IsSend N) (N-sync : IsSync N) where
    manifest_in-send : IsSend (ManifestIn.the_row A N a n)
    manifest_in-send =
        let S = ManifestIn.the_type A N a n in
        recorded_send (Struct (shape S)) S.D S.to S.to_one (struct_send (shape S) (search (kind_rows_field-send, values, crosses, sendable) depth 40 fits 20000))

    manifest_in-sync : IsSync (ManifestIn.the_row A N a n)
    manifest_in-sync =
        let S = ManifestIn.the_type A N a n in
        recorded_sync (Struct (shape S)) S.D S.to S.to_one (struct_sync (shape S) (search (kind_rows_field-sync, values, crosses, sendable) depth 40 fits 20000))

    pub manifest-send : IsSend (Manifest.the_row A N a n)
    manifest-send = view_send (ManifestIn.the_row A N a n) _ _ _ _ manifest_in-send

    pub manifest-sync : IsSync (Manifest.the_row A N a n)
    manifest-sync = view_sync (ManifestIn.the_row A N a n) _ _ _ _ manifest_in-sync

    version_in-sync : IsSync (VersionIn.the_row A N a n)
    version_in-sync = search (arc-sync, manifest-send, manifest-sync, sendable) depth 60 fits 20000

    pub version-sync : IsSync (Version.the_row A N a n)
    version-sync = view_sync (VersionIn.the_row A N a n) _ _ _ _ version_in-sync
