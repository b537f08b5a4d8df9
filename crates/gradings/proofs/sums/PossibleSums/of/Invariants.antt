-- The sets of the columns from c on are made.
use Rattle.std.proofs.Common.{◌≡◌, ◌^◌, length}
use Rattle.torus_geom.specs.Marks.{size}
use Rattle.gradings.specs.Sums.{HoldsSums}
use Rattle.gradings.proofs.sums.PossibleSums.of.Given as goal

abbrev pub invariant-loop-c : goal.invariant-loop-c
invariant-loop-c l = (length l.sets.items ≡ 2 ^ size l.tables) × HoldsSums l.tables l.c l.sets.items
