-- A store may go to other threads where its mutable tables, what its readers enter and what names it may. It is shown part by
-- part, as of a whole store no one search ends within its bounds.
use Rattle.std.proofs.Crossing.{crosses}
use Rattle.std.proofs.CrossingOver as over
use Rattle.std.specs.declared.alloc.Allocator as Allocator
use Rattle.std.specs.declared.sync.ledger.Ledger as Ledger
use Rattle.tf_registry.specs.declared.naming.Naming as Naming
use Rattle.tf_history.specs.declared.name.HistoryName as HistoryName
use Rattle.tf_manifest.specs.contracts.manifest.Manifest as Manifest
use Rattle.tf_query.specs.contracts.version.Version as Version
use Rattle.tf_query.specs.contracts.version.Version.TheInside as VersionIn
use Rattle.tf_publish.specs.contracts.counted.CountedTables as CountedTables
use Rattle.tf_publish.specs.contracts.counted.CountedTables.TheInside as CountedTablesIn
use Rattle.tf_publish.specs.contracts.published.Published as Published
use Rattle.tf_publish.specs.contracts.published.Published.TheInside as PublishedIn
use Rattle.tf_publish.specs.contracts.rows.Rows as Rows
use Rattle.tf_history.proofs.front.Front.TheSendSync as front
use Rattle.tf_history.proofs.writer.Writer.TheSendSync as writer
use Rattle.tf_store.proofs.queue.Queue.TheSendSync as queue
use Rattle.tf_store.proofs.tally.Tally.TheSendSync as tally
use Rattle.tf_store.specs.contracts.public.Public as Public
use Rattle.tf_store.specs.contracts.public.Public.TheInside as PublicIn
use Rattle.tf_store.specs.contracts.store.Store as Store
use Rattle.tf_store.specs.contracts.store.Store.TheInside as StoreIn
use Rattle.tf_store.specs.declared.copies.StoredCopies as StoredCopies
use Rattle.tf_store.specs.declared.store.StoredForest as StoredForest
use Rattle.tf_query.proofs.Crossing.{manifest-send, manifest-sync}
use denote.RattleType.{RattleType}
use denote.Struct.Declared.{shape}
use denote.Struct.Struct.{Struct}
use denote.Param.Send.{IsSend, IsSync, Frees, sendable, recorded_send, struct_send, view_send, view_sync}

module _ (A : RattleType) (a : Allocator.Ghosts A.Denot) (A-send : IsSend A) (A-sync : IsSync A) (frees : Frees a a.dealloc_token) where
  module _ (N : RattleType) (n : Naming.Ghosts N.Denot) (N-send : IsSend N) (N-sync : IsSync N) where
    tables-send : IsSend (Manifest.the_row A N a n)
    tables-send = manifest-send A a A-send A-sync frees N n N-send N-sync

    tables-sync : IsSync (Manifest.the_row A N a n)
    tables-sync = manifest-sync A a A-send A-sync frees N n N-send N-sync

    version_in-send : IsSend (VersionIn.the_row A N a n)
    version_in-send = search (tables-send, tables-sync, crosses, over.crosses, sendable) depth 60 fits 20000

    pub version-send : IsSend (Version.the_row A N a n)
    version-send = view_send (VersionIn.the_row A N a n) _ _ _ _ version_in-send

    version_field-send : IsSend (Version.the_field A N a n).row
    version_field-send = search (version_in-send, sendable)

    version_in-sync : IsSync (VersionIn.the_row A N a n)
    version_in-sync = search (tables-send, tables-sync, crosses, over.crosses, sendable) depth 60 fits 20000

    pub version-sync : IsSync (Version.the_row A N a n)
    version-sync = view_sync (VersionIn.the_row A N a n) _ _ _ _ version_in-sync

    counted_in-send : IsSend (CountedTablesIn.the_row A N a n)
    counted_in-send = search (tables-send, crosses, over.crosses, sendable) depth 60 fits 20000

    counted-send : IsSend (CountedTables.the_row A N a n)
    counted-send = view_send (CountedTablesIn.the_row A N a n) _ _ _ _ counted_in-send

    published_in-send : IsSend (PublishedIn.the_row A N a n)
    published_in-send = search (counted-send, crosses, over.crosses, sendable) depth 60 fits 20000

    published-send : IsSend (Published.the_row A N a n)
    published-send = view_send (PublishedIn.the_row A N a n) _ _ _ _ published_in-send

    pub rows-send : (T : RattleType) → IsSend T → IsSend (Rows.the_row T A N a n)
    rows-send T T-send = search (published-send, crosses, over.crosses, sendable) depth 60 fits 20000

    module _ (C : RattleType) (c : StoredCopies.Ghosts C.Denot) (l : Ledger.Ghosts N.Denot) (h : HistoryName.Ghosts N.Denot) (C-send : IsSend C) where
      public_in-send : IsSend (PublicIn.the_row C A N c a n l h)
      public_in-send =
          let S = PublicIn.the_type C A N c a n l h in
          recorded_send (Struct (shape S)) S.D S.to S.to_one (struct_send (shape S) (
            search (writer.the_send, crosses, over.crosses, sendable) depth 30,
            (
              search (front.the_send, crosses, over.crosses, sendable) depth 30,
              (
                search (C-send, crosses, over.crosses, sendable) depth 30,
                (
                  search (version_field-send, crosses, over.crosses, sendable) depth 30,
                  tt,
                ),
              ),
            ),
          ))

      public_field-send : IsSend (Public.the_field C A N c a n l h).row
      public_field-send = search (public_in-send, sendable)

      public-send : IsSend (Public.the_row C A N c a n l h)
      public-send = view_send (PublicIn.the_row C A N c a n l h) _ _ _ _ public_in-send

      module _ (F : RattleType) (f : StoredForest.Ghosts F.Denot) (F-send : IsSend F) where
        store_in-send : IsSend (StoreIn.the_row F C A N f c a n l h)
        store_in-send =
            let S = StoreIn.the_type F C A N f c a n l h in
            recorded_send (Struct (shape S)) S.D S.to S.to_one (struct_send (shape S) (
              search (F-send, crosses, over.crosses, sendable) depth 30,
              (
                search (tally.the_send, crosses, over.crosses, sendable) depth 30,
                (
                  search (public_field-send, crosses, over.crosses, sendable) depth 30,
                  (
                    search (queue.the_send, crosses, over.crosses, sendable) depth 30,
                    (
                      search (A-send, crosses, over.crosses, sendable) depth 30,
                      tt,
                    ),
                  ),
                ),
              ),
            ))

        pub store-send : IsSend (Store.the_row F C A N f c a n l h)
        store-send = view_send (StoreIn.the_row F C A N f c a n l h) _ _ _ _ store_in-send
