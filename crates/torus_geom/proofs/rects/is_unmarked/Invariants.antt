use Rattle.std.proofs.Common.{◌≡◌, true, not, ◌&&◌, ◌||◌, slice_index}
use Rattle.torus_geom.specs.Counts.{all_below}
use Rattle.torus_geom.specs.Marks.{size}
use Rattle.torus_geom.specs.Range.{in_range}
use Rattle.torus_geom.proofs.rects.is_unmarked.Given as goal

abbrev pub invariant-loop-c : goal.invariant-loop-c
invariant-loop-c l =
    all_below l.c (λ c. not (in_range (size l.g) l.r.left l.r.right c
    && (in_range (size l.g) l.r.low l.r.high (slice_index l.g.o c)
    || in_range (size l.g) l.r.low l.r.high (slice_index l.g.x c)))) ≡ true
