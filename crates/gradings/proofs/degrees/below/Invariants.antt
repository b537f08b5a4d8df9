use Rattle.std.proofs.Common.{◌≡◌, slice_index, ltb, pos, ◌≤ℤ◌}
use Rattle.torus_geom.specs.Counts.{count_below}
use Rattle.gradings.proofs.degrees.below.Given as goal

abbrev pub invariant-loop-r : goal.invariant-loop-r
invariant-loop-r l =
    (l.count ≡ count_below l.r-index (λ c. ltb (slice_index l.rows c) l.row)) × (pos 0 ≤ℤ l.count)
    × (l.count ≤ℤ pos l.r-index)
