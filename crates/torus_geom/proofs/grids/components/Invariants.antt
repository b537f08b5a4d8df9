use Rattle.std.proofs.Common.{◌≡◌, ◌≤◌}
use Rattle.torus_geom.proofs.Cycles.WalkLemmas.{firsts_below}
use Rattle.torus_geom.proofs.grids.components.Given as goal

abbrev pub invariant-loop-c : goal.invariant-loop-c
invariant-loop-c l = (l.count ≡ firsts_below (record { o = l.o; x = l.x }) l.c) × (l.count ≤ l.c)
