use Rattle.std.proofs.Common.{◌≡◌, ℕ, ◌<◌, ◌∙◌, length, get_or, ap, arith}
use Rattle.reindex.specs.FollowWords.{follow_first, follow_gone, follow_kept}
use Rattle.reindex.specs.Kept.{place_in}
use Rattle.reindex.proofs.kept.follow_places.Goals as goal
use Rattle.reindex.proofs.kept.follow_places.Goals.{then-place-lt-GONE, else-place-lt-GONE}

pub loop-i-init : goal.loop-i-init
loop-i-init c =
    let a = c.args in
    (omega arith, follow_first (place_in a.places.now) a.index.now)

pub loop-i-preserved : goal.loop-i-preserved
loop-i-preserved c =
    let a = c.args in
    let w = a.index.now in
    let l = c.loop-i in
    let to : ℕ → ℕ = place_in a.places.now in
    let v = c.place_in-place in
    let long : l.i < length w = omega arith in
    let is : v.result ≡ to (get_or l.index l.i 0) = v.ensures ∙ ap (λ (p : ℕ). to p) c.wide.ensures in
    elim c.if-place-lt-GONE.branch [
      | then-place-lt-GONE b ↦ (omega arith, rw (b.index-is, b.left-is) (follow_kept to w l.index l.i l.left long l.invariant.0 l.invariant.1 v.result is b.if-place-lt-GONE.true))
      | else-place-lt-GONE b ↦ (omega arith, rw (b.index-is, b.left-is) (follow_gone to w l.index l.i l.left long l.invariant.0 l.invariant.1 v.result is b.if-place-lt-GONE.false))
    ]
