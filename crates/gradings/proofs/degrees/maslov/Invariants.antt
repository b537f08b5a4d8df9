use Rattle.std.proofs.Common.{◌*◌, length}
use Rattle.state_rank.specs.declared.TheConstants.{MAX_SIZE}
use Rattle.torus_geom.proofs.Sums.RunningSums.{IsSum}
use Rattle.gradings.proofs.MaslovLemmas.{gain}
use Rattle.gradings.proofs.degrees.maslov.Given as goal

abbrev pub invariant-loop-c : goal.invariant-loop-c
invariant-loop-c l = IsSum (2 * MAX_SIZE) l.c (gain (length l.marks) l.marks l.points) l.sum
