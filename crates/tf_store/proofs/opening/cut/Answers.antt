use Rattle.std.proofs.Common.{◌≡◌, ℕ, refl, arith}
use Rattle.std.proofs.lemmas.List.Elements.{All-nil, All-push}
use Rattle.tf_store.proofs.opening.cut.Goals as goal

pub loop-share-init : goal.loop-share-init
loop-share-init g c =
    let len = c.in_ok-cut.ensures.len in
    (omega (arith, c.requires.0, len), c.requires.1, len, rw c.in_ok-cut.ensures.items (All-nil (λ (s : ℕ). s ≡ 0)))

pub loop-share-preserved : goal.loop-share-preserved
loop-share-preserved g c =
    let at = c.loop-share.invariant in (
      omega (arith, at.0, c.split_off.ensures, c.in_ok-push.ensures.len),
      omega (arith, at.1, c.split_off.ensures),
      omega (arith, at.2, c.in_ok-push.ensures.len),
      rw c.in_ok-push.ensures.items (All-push (λ (s : ℕ). s ≡ 0) c.loop-share.cut.items 0 at.3 refl),
    )
