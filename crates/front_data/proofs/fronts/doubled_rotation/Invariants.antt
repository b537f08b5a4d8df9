use Rattle.std.proofs.Common.{◌+ℤ◌, ◌-ℤ◌}
use Rattle.torus_geom.specs.Counts.{one_if}
use Rattle.torus_geom.specs.Front.{is_north_east_x, is_north_east_o, is_south_west_x, is_south_west_o}
use Rattle.torus_geom.proofs.Sums.RunningSums.{IsSum}
use Rattle.front_data.proofs.fronts.doubled_rotation.Given as goal

abbrev pub invariant-loop-c : goal.invariant-loop-c
invariant-loop-c l =
    IsSum 2 l.c (λ c. one_if (is_north_east_x l.g c) +ℤ one_if (is_south_west_o l.g c) -ℤ one_if (is_north_east_o l.g c)
    -ℤ one_if (is_south_west_x l.g c)) l.sum
