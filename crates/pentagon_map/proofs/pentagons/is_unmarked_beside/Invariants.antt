-- No column so far is in the way.
use Rattle.std.proofs.Common.{◌≡◌, true, not, ◌&&◌, ◌||◌, eqb}
use Rattle.torus_geom.specs.Counts.{all_below}
use Rattle.torus_geom.specs.Range.{one_down}
use Rattle.torus_geom.specs.Marks.{size}
use Rattle.torus_geom.specs.Range.{in_range}
use Rattle.pentagon_map.specs.Pentagon.{has_mark_in_rows}
use Rattle.pentagon_map.proofs.pentagons.is_unmarked_beside.Given as goal

abbrev pub invariant-loop-d : goal.invariant-loop-d
invariant-loop-d l =
    all_below l.d (λ d. (eqb d (one_down (size l.g) l.c) || eqb d l.c)
    || not (in_range (size l.g) l.r.left l.r.right d && has_mark_in_rows l.g d l.r.low l.r.high)) ≡ true
