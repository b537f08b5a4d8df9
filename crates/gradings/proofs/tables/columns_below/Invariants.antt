-- The columns so far are added.
use Rattle.std.proofs.Common.{◌≡◌, ◌*◌, ◌≤◌, pos, ◌-ℤ◌}
use Rattle.torus_geom.specs.Counts.{sum_below}
use Rattle.gradings.proofs.tables.columns_below.Given as goal

abbrev pub invariant-loop-c : goal.invariant-loop-c
invariant-loop-c l = (pos l.sum ≡ sum_below l.c (λ c. pos 10 -ℤ pos c)) × (l.sum ≤ 10 * l.c)
