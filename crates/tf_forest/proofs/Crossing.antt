-- A forest may go to other threads where its rows may, over any allocator that may and whose blocks any thread may give back. It is
-- shown part by part: its notes, what is held beside its rows, the forest.
use Rattle.std.proofs.Crossing.{crosses}
use Rattle.std.proofs.CrossingOver as over
use Rattle.std.specs.declared.alloc.Allocator as Allocator
use Rattle.tf_rows.proofs.Crossing.{due-send, resident-send}
use Rattle.tf_forest.specs.contracts.forest.Forest as Forest
use Rattle.tf_forest.specs.contracts.forest.Forest.TheInside as ForestIn
use Rattle.tf_forest.specs.contracts.note.Notes as Notes
use Rattle.tf_forest.specs.contracts.used_ids.UsedIds as UsedIds
use denote.RattleType.{RattleType}
use denote.Struct.Declared.{shape}
use denote.Struct.Struct.{Struct}
use denote.Param.Send.{IsSend, IsSync, Frees, sendable, recorded_send, struct_send, view_send}

module _ (A : RattleType) (a : Allocator.Ghosts A.Denot) (A-send : IsSend A) (A-sync : IsSync A) (frees : Frees a a.dealloc_token) where
  notes-send : IsSend (Notes.the_row A a)
  notes-send = search (crosses, over.crosses, sendable) depth 60 fits 20000

  used-send : IsSend (UsedIds.the_row A a)
  used-send = search (crosses, over.crosses, sendable) depth 60 fits 20000

  forest_in-send : (R : RattleType) (r : _) → IsSend R → IsSend (ForestIn.the_row R A r a)
  forest_in-send R r R-send =
      let S = ForestIn.the_type R A r a in
      recorded_send (Struct (shape S)) S.D S.to S.to_one (struct_send (shape S) (
        search (R-send, sendable) depth 20,
        (
          search (notes-send, crosses, over.crosses, sendable) depth 20,
          (
            search (crosses, sendable) depth 20,
            (
              search (crosses, sendable) depth 20,
              (
                search (crosses, sendable) depth 30,
                (
                  search (due-send, crosses, over.crosses, sendable) depth 20,
                  (
                    search (resident-send, crosses, over.crosses, sendable) depth 20,
                    (
                      search (used-send, crosses, over.crosses, sendable) depth 20,
                      (
                        search (A-send, sendable) depth 20,
                        tt,
                      ),
                    ),
                  ),
                ),
              ),
            ),
          ),
        ),
      ))

  pub forest-send : (R : RattleType) (r : _) → IsSend R → IsSend (Forest.the_row R A r a)
  forest-send R r R-send = view_send (ForestIn.the_row R A r a) _ _ _ _ (forest_in-send R r R-send)
