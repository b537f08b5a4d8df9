use Rattle.std.proofs.Common.{◌≡◌, true, not, ◌&&◌, length, slice_index}
use Rattle.torus_geom.specs.Counts.{all_below}
use Rattle.torus_geom.specs.Range.{is_inside}
use Rattle.torus_geom.proofs.rects.is_empty.Given as goal

abbrev pub invariant-loop-c : goal.invariant-loop-c
invariant-loop-c l =
    all_below l.c (λ c. not (is_inside (length l.x) l.r.left l.r.right c
    && is_inside (length l.x) l.r.low l.r.high (slice_index l.x c))) ≡ true
