use Rattle.torus_geom.specs.Front.{sign}
use Rattle.torus_geom.proofs.Sums.RunningSums.{IsSum}
use Rattle.front_data.proofs.fronts.writhe_of_column.Given as goal

abbrev pub invariant-loop-r : goal.invariant-loop-r
invariant-loop-r l = IsSum 1 l.r (sign l.g l.c) l.sum
