-- The words that the proofs cite: those of std with their lemmas, and those of this crate.
pub use Rattle.std.proofs.Common.{◌≡◌, ℕ, suc, ◌+◌, ◌<◌, ◌≤◌, List, [], ◌++◌, length, take, drop, set, Some, None, map, Bool, true, false, Option, IfSome, IfNone, Result, Ok, Err, OnOk, OnErr, sym, ◌∙◌, ap, subst, arith, ◌-◌, is_some, cond}
pub use Rattle.std.proofs.Common.{add-one, ◌∷◌, get_or, append_assoc, zero, refl, eqb, inl, inr, ◌≢◌, ◌*◌, ◌^◌, not, IsSome, rules, IfOk, remove, insert, vec_capacity}
pub use Rattle.std.proofs.Math.Nat.{mul-suc, pow-suc, mul-le-mul_left}
pub use Rattle.std.proofs.Math.Seq.{take-suc-set}
pub use Rattle.std.proofs.lemmas.Bool.{cases_lt, not-true}
pub use Rattle.std.proofs.lemmas.Bool.Decides.{eqb_tells}
pub use Rattle.std.proofs.lemmas.Cmp.{tied_itself}
pub use Rattle.std.proofs.lemmas.List.{take-append-drop, length-set, length-map, map-set, set-get_or, take-set, drop-set-lt, drop_all, append-nil, map-append, take-map, drop-map, get_or-map, length-append, length-drop, set_split, set-set}
pub use Rattle.std.proofs.lemmas.List.{set_past, set_comm, set_at, set-append_right, get_or_at, get_or-append_right, get_or-set_same, get_or-set_other, drop_more, length-take-le, length-take, reverse-append, take_all, take_more}
pub use Rattle.std.proofs.lemmas.List.{nil_from_length, get_or_default, take_rest}
pub use Rattle.std.proofs.lemmas.List.Edits.{insert_end, get_or-insert_below, get_or-remove_below, insert-append_right, remove-append_right, insert-append_left, length-remove, length-insert}
pub use Rattle.std.proofs.lemmas.List.Elements.{filter-append}
pub use Rattle.std.proofs.lemmas.List.Folds.{find-append}
pub use Rattle.std.proofs.lemmas.Option.{same_Some}
pub use Rattle.std.specs.Box.{with_value}
pub use Rattle.std.specs.Cmp.{IsTotalOrder}
pub use Rattle.std.specs.Option.{option_or, option_map}
pub use Rattle.std.specs.Ordering.{is_lt, is_eq, is_gt, ordering_reverse}
pub use Rattle.std.specs.Prelude.{filter, find, reverse}
pub use Rattle.std.specs.declared.boxed.Box.{Box}
pub use Rattle.std.specs.declared.cmp.Ordering.{Ordering}
pub use Rattle.std.specs.declared.cmp.Ordering.TheVariants.{Less, Equal, Greater}
pub use Rattle.std.specs.declared.ops.Bound.{Bound}
pub use Rattle.std.specs.declared.ops.Bound.TheVariants.{Included, Excluded, Unbounded}
pub use Rattle.tf_btree.specs.BackCursor.{rows_left_back}
pub use Rattle.tf_btree.specs.Cursor.{IsKeyOf, rows_at}
pub use Rattle.tf_btree.specs.Inserted.{IsBeside, IsParted, IsFilledWith, fills_behind, IsSplitOf, rows_behind}
pub use Rattle.tf_btree.specs.Node.{height_over, parts_of, subtree_of, IsCounted, IsNode, HasRoom, unbox, unboxed, empty_node, single_rows, AllChildren, height_of, IsChild}
pub use Rattle.tf_sorted.specs.Rows.{first_key, without_row, value_at, with_row, AllAfter, IsRising, rows_below, rows_above, rows_from}
pub use Rattle.tf_btree.specs.Pair.{IsPairIn}
pub use Rattle.tf_btree.specs.Place.{IsAt, IsGap, IsBelow, AllKeys, AllBefore, AllBeyond, Among}
pub use Rattle.tf_btree.specs.Run.{rows_of, AllLeaves, pairs, IsRunFrom, rows_after}
pub use Rattle.tf_btree.specs.RunBack.{is_within, rows_to, rows_before, HasBefore, IsCut, IsRunTo, IsRunBefore, IsLastWithin}
pub use Rattle.tf_btree.specs.Shape.{capacity, Fill, AllFilled, IsFilled, one_more_at, edge_at, half_full, no_entries, Shape, childless, child, shape_of, edge_before, AreFilled, one_more}
pub use Rattle.tf_btree.specs.Subtree.{Subtree, IsChildAt, joined, rows, fill_of}
pub use Rattle.tf_btree.specs.Tree.{rows_under, IsRoot, IsRootIfAny, IsTree, IsTall}
