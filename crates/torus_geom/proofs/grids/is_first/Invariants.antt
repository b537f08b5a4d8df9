use Rattle.torus_geom.proofs.Cycles.WalkLemmas.{IsOn}
use Rattle.torus_geom.proofs.grids.is_first.Given as goal

abbrev pub invariant-loop : goal.invariant-loop
invariant-loop l = IsOn (record { o = l.o; x = l.x }) l.c l.counter l.on
