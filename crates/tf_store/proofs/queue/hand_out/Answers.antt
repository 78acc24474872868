use Rattle.std.proofs.Common.{◌≡◌, ◌∷◌, [], List, length, length-append, refl, sym, ap, subst, ◌∙◌, append_assoc, append-nil, arith}
use Rattle.std.specs.Prelude.{map}
use Rattle.std.specs.Vec.Iter.{into_iter_items}
use Rattle.std.proofs.lemmas.List.Elements.{All-head, All-same, All-tail}
use Rattle.tf_store.specs.Receipt.{Waits, receipt_of}
use Rattle.tf_store.proofs.Counting.{map-append}
use Rattle.tf_store.proofs.queue.hand_out.Goals as goal

nothing_left : {X : Type 0} (l : List X) → length l ≡ 0 → l ≡ []
nothing_left [] h = refl
nothing_left (x ∷ xs) h = absurd (omega arith)

pub loop-batch-init : goal.loop-batch-init
loop-batch-init g c =
    let all = c.into_iter-batch-iterator.ensures.into_iter_gives in (
      all.0,
      all.1 ∙ omega (arith, ap length all.0),
      All-same (Waits c.args.front.now) _ _ all.0 c.requires.waits,
      c.requires.empty.0,
      c.requires.empty.1,
      omega (arith, c.requires.room, c.args.waiting.ok.0),
    )

pub new-requires : goal.new-requires
new-requires g c =
    let steps : into_iter_items c.loop-batch.batch-iterator ≡ c.in-Some.batch ∷ into_iter_items c.next.new.self = c.in-Some.ensures.steps.0 in
    subst (λ f. Waits f c.in-Some.batch) (sym c.again.ensures)
    (All-head (Waits c.args.front.now) c.in-Some.batch (into_iter_items c.next.new.self)
    (All-same (Waits c.args.front.now) _ _ (sym steps) c.loop-batch.invariant.2))

pub loop-batch-preserved : goal.loop-batch-preserved
loop-batch-preserved g c =
    let at = c.loop-batch in
    let x = c.in-Some.batch in
    let front = c.args.front.now in
    let steps : into_iter_items at.batch-iterator ≡ x ∷ into_iter_items c.next.new.self = c.in-Some.ensures.steps.0 in
    let gone = c.in-Some.ensures.steps.1 in
    let short = ap length steps in
    let pushed = c.in-Ok.ensures.items in
    let receipts = at.invariant.3 in
    let long = length-append at.yielded (x ∷ []) in (
      append_assoc at.yielded (x ∷ []) _ ∙ rw (← steps) at.invariant.0,
      omega (arith, at.invariant.1, gone, short),
      All-tail (Waits front) x (into_iter_items c.next.new.self) (All-same (Waits front) _ _ (sym steps) at.invariant.2),
      rw (pushed, receipts, c.new.ensures, c.again.ensures) (sym (map-append (receipt_of front) at.yielded x)),
      omega (arith, c.in-Ok.ensures.len, at.invariant.4, long),
      omega (arith, c.in-Ok.ensures.capacity, at.invariant.5),
    )

pub returns : goal.returns
returns g c =
    let at = c.loop-batch in
    let none = c.in-None.ensures.steps in
    let empty : into_iter_items at.batch-iterator ≡ [] = nothing_left _ (sym at.invariant.1 ∙ none.0) in
    let all = sym (append-nil at.yielded) ∙ rw empty at at.invariant.0 in
    at.invariant.3 ∙ ap (map (receipt_of c.args.front.now)) all
