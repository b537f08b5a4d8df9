use Rattle.std.proofs.Common.{◌+ℤ◌}
use Rattle.torus_geom.specs.Counts.{one_if}
use Rattle.torus_geom.specs.Front.{is_north_east_x, is_north_east_o}
use Rattle.torus_geom.proofs.Sums.RunningSums.{IsSum}
use Rattle.front_data.proofs.fronts.north_east.Given as goal

abbrev pub invariant-loop-c : goal.invariant-loop-c
invariant-loop-c l = IsSum 2 l.c (λ c. one_if (is_north_east_x l.g c) +ℤ one_if (is_north_east_o l.g c)) l.sum
