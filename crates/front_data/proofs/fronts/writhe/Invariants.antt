use Rattle.state_rank.specs.declared.TheConstants.{MAX_SIZE}
use Rattle.torus_geom.specs.Counts.{sum_below}
use Rattle.torus_geom.specs.Marks.{size}
use Rattle.torus_geom.specs.Front.{sign}
use Rattle.torus_geom.proofs.Sums.RunningSums.{IsSum}
use Rattle.front_data.proofs.fronts.writhe.Given as goal

abbrev pub invariant-loop-c : goal.invariant-loop-c
invariant-loop-c l = IsSum MAX_SIZE l.c (λ c. sum_below (size l.g) (sign l.g c)) l.sum
